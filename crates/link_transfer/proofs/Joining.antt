-- Files that get their new names one after another.
use Rattle.std.proofs.Common.{◌≡◌, ◌∙◌, ◌++◌, ◌⊎◌, ℕ, Bool, arith, true, false, inl, inr, List, [], ◌∷◌, ◌<◌, ◌≤◌, ◌+◌, length, take, drop, get_or, Option, Some, None, Result, Ok, Err, OnOk, MatchOption, refl, sym, ap, subst}
use Rattle.std.proofs.lemmas.List.{take_all}
use Rattle.std.specs.Prelude.{◌==◌, not}
use Rattle.std.specs.List.{AllByRecursion}
use Rattle.std.specs.Option.{unwrap_or}
use Rattle.std.specs.FinMap.{get}
use Rattle.fs_model.specs.declared.node.Node.TheVariants.{File}
use Rattle.fs_model.specs.declared.effect.Effect.{Effect}
use Rattle.fs_model.specs.declared.effect.Effect.TheVariants.{Nothing}
use Rattle.fs_model.specs.declared.error.FsError.{FsError}
use Rattle.fs_model.specs.declared.error.FsError.TheVariants.{Failed, CrossDevice}
use Rattle.fs_model.specs.Names.{Path, parent, same_path}
use Rattle.fs_model.specs.PathLaws.{same_path_true, same_path_refl}
use Rattle.fs_model.specs.State.{Devices, FsState}
use Rattle.fs_model.specs.Effects.{apply, with_change}
use Rattle.fs_model.specs.Calls.{Call, Links, Unlinks, MayDo, MayFail, Does, refusal, blocked, or_else, no_file, taken, refuse_if, device_of}
use Rattle.fs_model.specs.Trail.{Trail, Steps, Goes, Since, error_of}
use Rattle.fs_model.proofs.Lookups.{set_name_here}
use Rattle.fs_model.proofs.Runs.{all_append, since_weaker, present_after}
use Rattle.fs_model.proofs.Ways.{none_first, none_second}
use Rattle.fs_model.proofs.Going.{goes_since, goes_weaker, since_both}
use Rattle.crash_safety.specs.Frame.{IsInside, IsOutside}
use Rattle.crash_safety.specs.Calling.{LinksInside}
use Rattle.crash_safety.specs.Lacks.{Lacks, MakesNone}
use Rattle.crash_safety.specs.Synced.{IsOneOf}
use Rattle.crash_safety.specs.Upgrade.{Upgrade, IsReady}
use Rattle.crash_safety.specs.Sound.{Stage, Moved, Sound}
use Rattle.crash_safety.proofs.Going.{links_sound}
use Rattle.crash_safety.proofs.Lacking.{call_lacks}
use Rattle.crash_safety.proofs.SoundRuns.{gone_moved}
use Rattle.transfer_plan.specs.declared.plan.PlanItem.{PlanItem}
use Rattle.transfer_plan.specs.Carriable.{targets, CanBeCarried}
use Rattle.transfer_plan.specs.Changed.{ChangesOnlyAt, TransfersTo, Removes, IsFree, cleared}
use Rattle.transfer_plan.proofs.Keeping.{keeps_itself, keeps_name, transfers_since, one_inside, inside_inside}
use Rattle.transfer_plan.proofs.Listing.{target_in, cleared_keeps, taken_next, whole_at, is_target, is_no_target, new_before, waits_behind}
use Rattle.link_transfer.specs.LinkedFiles.{AreOfOne, LinksItems, LinksItem, IsLinked, AreLinked, IsPartlyLinked, ChangesNamesAt, ShareOnly}

-- ---- the calls

pub removes_link : (item : PlanItem) (s : FsState) (call : Call) → Removes item.to s call → LinksItems (item ∷ []) s call
removes_link item s (Unlinks at) allowed = inl allowed
removes_link item s call allowed = absurd allowed

-- what one of the items is allowed, all are
module _ (item : PlanItem) (rest : List PlanItem) where
  one_of : (front : List PlanItem) (from to : Path) → from ≡ item.from → to ≡ item.to → AreOfOne (front ++ item ∷ rest) from to
  one_of [] from to is_from is_to = inl (is_from, is_to)
  one_of (first ∷ front) from to is_from is_to = inr (one_of front from to is_from is_to)

  pub items_link : (front : List PlanItem) (s : FsState) (call : Call) → LinksItems (item ∷ []) s call → LinksItems (front ++ item ∷ rest) s call
  items_link front s (Links from to) (inl both) = one_of front from to both.0 both.1
  items_link front s (Links from to) (inr none) = absurd none
  items_link front s (Unlinks path) (inl same) = subst (IsOneOf (targets (front ++ item ∷ rest))) (sym same) (target_in item rest front)
  items_link front s (Unlinks path) (inr none) = absurd none
  items_link front s call allowed = absurd allowed

target_of_one : (items : List PlanItem) (from to : Path) → AreOfOne items from to → IsOneOf (targets items) to
target_of_one [] from to none = absurd none
target_of_one (item ∷ items) from to (inl both) = inl both.1
target_of_one (item ∷ items) from to (inr one) = inr (target_of_one items from to one)

module _ (items : List PlanItem) where
  links_transfer : (a s : FsState) (call : Call) → LinksItems items s call → TransfersTo (targets items) a s call
  links_transfer a s (Links from to) allowed = target_of_one items from to allowed
  links_transfer a s (Unlinks path) allowed = allowed
  links_transfer a s call allowed = absurd allowed

  pub links_inside : (s : FsState) (call : Call) → LinksItems items s call → LinksInside (targets items) s call
  links_inside s (Links from to) allowed = one_inside (targets items) to (target_of_one items from to allowed)
  links_inside s (Unlinks path) allowed = one_inside (targets items) path allowed
  links_inside s call allowed = absurd allowed

  makes_none : (gone : Path) → (IsOneOf (targets items) gone → ⊥) → (s : FsState) (call : Call) → LinksItems items s call → MakesNone gone call
  makes_none gone outside s (Links from to) allowed = λ same. outside (subst (IsOneOf (targets items)) same (target_of_one items from to allowed))
  makes_none gone outside s (Unlinks path) allowed = tt
  makes_none gone outside s call allowed = absurd allowed

  -- no file is made, and none written to
  module _ (a : FsState) where
    abbrev HasFiles : FsState → Type 0
    HasFiles s = (s.bytes ≡ a.bytes) × (s.dirty ≡ a.dirty)

    at_effect : (s : FsState) (effect is : Effect) → effect ≡ is → HasFiles (apply s is) → HasFiles (apply s effect)
    at_effect s effect is same has = subst (λ e. HasFiles (apply s e)) (sym same) has

    does : (s : FsState) (call : Call) (effect : Effect) → HasFiles s → LinksItems items s call → Does s call effect → HasFiles (apply s effect)
    does s (Links from to) effect has allowed (inode, named, is) = at_effect s effect _ is has
    does s (Unlinks path) effect has allowed is = at_effect s effect _ is has
    does s call effect has allowed is = absurd allowed

    fails : (s : FsState) (call : Call) (effect : Effect) → HasFiles s → LinksItems items s call → MayFail s call effect → HasFiles (apply s effect)
    fails s (Links from to) effect has allowed may = elim may [ inl nothing ↦ at_effect s effect Nothing nothing has | inr is ↦ does s (Links from to) effect has allowed is ]
    fails s (Unlinks path) effect has allowed may = elim may [ inl nothing ↦ at_effect s effect Nothing nothing has | inr is ↦ does s (Unlinks path) effect has allowed is ]
    fails s call effect has allowed may = absurd allowed

    refused : (s : FsState) (call : Call) (effect : Effect) (found : Option FsError) → HasFiles s → LinksItems items s call → MatchOption found (MayFail s call effect) (λ _. effect ≡ Nothing) → HasFiles (apply s effect)
    refused s call effect None has allowed may = fails s call effect has allowed may
    refused s call effect (Some error) has allowed may = at_effect s effect Nothing may has

    each : (s : FsState) (call : Call) (answer : Option FsError) (effect : Effect) → HasFiles s → LinksItems items s call → MayDo s call answer effect → HasFiles (apply s effect)
    each s call None effect has allowed may = does s call effect has allowed may.1
    each s call (Some Failed) effect has allowed may = refused s call effect (refusal s call) has allowed may
    each s call (Some error) effect has allowed may = at_effect s effect Nothing may.1 has

  pub links_since : (a b : Trail) → Goes (LinksItems items) a b → Since (ChangesNamesAt (targets items) a.present) a b
  links_since a b goes =
      since_weaker (λ s. ChangesOnlyAt (targets items) a.present s × HasFiles a.present s) (ChangesNamesAt (targets items) a.present) (λ s both. record { only = both.0; bytes = both.1.0; dirty = both.1.1 }) a b
      (since_both (ChangesOnlyAt (targets items) a.present) (HasFiles a.present) a b
      (transfers_since (targets items) a b (goes_weaker (LinksItems items) (TransfersTo (targets items) a.present) (links_transfer a.present) goes))
      (goes_since (LinksItems items) (HasFiles a.present) (λ s call answer effect has allowed may. each a.present s call answer effect has allowed may) (refl, refl) goes))

  -- the permit's fact stays
  pub links_lack : (gone : Path) → (IsOneOf (targets items) gone → ⊥) → (a b : Trail) → Lacks gone a.present → Goes (LinksItems items) a b → Since (Lacks gone) a b
  links_lack gone outside a b lacks goes =
      goes_since (LinksItems items) (Lacks gone) (λ s call answer effect here allowed may. call_lacks gone s here call answer effect (makes_none gone outside s call allowed) may) lacks goes

  -- by the permit's fact the rename is on the disk, and then links keep an upgrade sound
  pub permitted_sound : (u : Upgrade) → IsReady u → u.disables ≡ true → (control : Path) → u.control ≡ control → (stage : Stage) → ((path : Path) → IsOneOf (targets items) path → IsInside u.new_tops path) → (a b : Trail) → Lacks control a.present → Sound u stage a.present → Goes (LinksItems items) a b
      → Since (Sound u Moved) a b
  permitted_sound u ready disables control is stage inside a b lacks sound goes =
      let moved = gone_moved u ready disables stage a.present sound (ap (get a.present.names_kept) is ∙ lacks.kept) in
      links_sound u ready (targets items) (inside_inside u.new_tops (targets items) inside) a b (subst (λ t. Sound u t a.present) moved sound) (goes_weaker (LinksItems items) (LinksInside (targets items)) links_inside goes)

-- ---- what stands

cleared_devices : (s : FsState) (item : PlanItem) → (cleared s item).devices ≡ s.devices
cleared_devices s item = elim item.replaces as (λ b. (cleared s (record item { replaces = b })).devices ≡ s.devices) [ true ↦ refl | false ↦ refl ]

same_number : (a b : ℕ) → a ≡ b → refuse_if (not (a == b)) CrossDevice ≡ None
same_number a b same = subst (λ x. refuse_if (not (a == x)) CrossDevice ≡ None) same (equal a)
  where
    equal : (n : ℕ) → refuse_if (not (n == n)) CrossDevice ≡ None
    equal n = grind arith

-- a link isn't refused where both names are free and of one device
pub link_free : (s m : FsState) (item : PlanItem) → m ≡ cleared s item → IsFree m item → device_of s (parent item.from) ≡ device_of s (parent item.to) → refusal m (Links item.from item.to) ≡ None
link_free s m item is free same =
    let device : (dir : Path) → device_of m dir ≡ device_of s dir = (λ dir. ap (λ (devices : Devices). unwrap_or (get devices dir) 0) (ap (λ (x : FsState). x.devices) is ∙ cleared_devices s item)) in
    λ i. or_else (none_first (blocked m.names item.from) (no_file (get m.names item.from)) free.0 i) (or_else (none_first (blocked m.names item.to) (taken (get m.names item.to)) free.1 i)
    (or_else (none_second (blocked m.names item.from) (no_file (get m.names item.from)) free.0 i) (or_else (none_second (blocked m.names item.to) (taken (get m.names item.to)) free.1 i)
    (same_number (device_of m (parent item.from)) (device_of m (parent item.to)) (device (parent item.from) ∙ same ∙ sym (device (parent item.to))) i))))

-- the state after a link
pub link_done : (item : PlanItem) (s : FsState) (old new : Trail) → old.present ≡ cleared s item → Steps (Links item.from item.to) None old new → LinksItem s item new.present
link_done item s old new is steps =
    let (effect, free, (inode, named, effect_is), present) = present_after (Links item.from item.to) old new steps in
    record {
      inode = inode;
      named = ap (λ (x : FsState). get x.names item.from) (sym is) ∙ named;
      is = present ∙ ap (apply old.present) effect_is ∙ ap (λ (x : FsState). with_change x ((item.to, Some (File inode)) ∷ [])) is;
    }

pub linked_ok : (item : PlanItem) (s : FsState) (old new : Trail) → old.present ≡ cleared s item → (result : Result (Unit {0}) FsError) → Steps (Links item.from item.to) (error_of result) old new → OnOk result (LinksItem s item new.present)
linked_ok item s old new is (Ok value) steps = link_done item s old new is steps
linked_ok item s old new is (Err error) steps = tt

-- one link
module _ (paths : List Path) (s m mid : FsState) (item : PlanItem) (one : IsOneOf paths item.to) (keeps : ChangesOnlyAt paths s m) (links : LinksItem m item mid) where
  before : ChangesOnlyAt paths s (cleared m item)
  before = cleared_keeps m item paths s one keeps

  pub link_keeps : ChangesOnlyAt paths s mid
  link_keeps = subst (ChangesOnlyAt paths s) (sym links.is) (keeps_name paths s (cleared m item) item.to (Some (File links.inode)) one before)

  pub link_linked : (IsOneOf paths item.from → ⊥) → IsLinked s mid item
  link_linked outside = record {
    inode = links.inode;
    source = sym (before.names item.from outside) ∙ links.named;
    there = ap (λ (x : FsState). get x.names item.to) links.is ∙ set_name_here (cleared m item).names item.to (Some (File links.inode));
  }

-- what is linked is linked still when another name changes
pub linked_still : (s m t : FsState) (name : Path) → ChangesOnlyAt (name ∷ []) m t → (items : List PlanItem) → (IsOneOf (targets items) name → ⊥) → AreLinked s m items → AreLinked s t items
linked_still s m t name keeps [] apart all = tt
linked_still s m t name keeps (item ∷ items) apart all = (
  record { inode = all.0.inode; source = all.0.source; there = keeps.names item.to other ∙ all.0.there },
  linked_still s m t name keeps items (λ one. apart (inr one)) all.1,
)
  where
    other : IsOneOf (name ∷ []) item.to → ⊥
    other (inl same) = apart (inl (sym same))
    other (inr none) = none

-- one more item is linked
pub one_more : (s m mid : FsState) (paths : List Path) (front : List PlanItem) (item : PlanItem) → IsOneOf paths item.to → ChangesOnlyAt paths s m → LinksItem m item mid → (IsOneOf paths item.from → ⊥) → (IsOneOf (targets front) item.to → ⊥) → AreLinked s m front → AreLinked s mid (front ++ item ∷ [])
one_more s m mid paths front item one keeps links outside apart linked =
    all_append (IsLinked s mid) front (item ∷ []) (linked_still s m mid item.to (link_keeps (item.to ∷ []) m m mid item (inl refl) (keeps_itself (item.to ∷ []) m) links) front apart linked) (link_linked paths s m mid item one keeps links outside, tt)

-- the calls for one item are the plan's
pub item_links : (plan : List PlanItem) (i : ℕ) (item : PlanItem) → i < length plan → item ≡ get_or plan i item → (a b : Trail) → Goes (LinksItems (item ∷ [])) a b → Goes (LinksItems plan) a b
item_links plan i item below at a b goes =
    goes_weaker (LinksItems (item ∷ [])) (LinksItems plan) (λ s call allowed. subst (λ items. LinksItems items s call) (sym (whole_at plan i item below at)) (items_link item (drop (i + 1) plan) (take i plan) s call allowed)) goes

-- the next item of the plan
module _ (s : FsState) (plan : List PlanItem) (i : ℕ) (item : PlanItem) (below : i < length plan) (at : item ≡ get_or plan i item) (can : CanBeCarried s.names plan) where
  -- it succeeded
  pub done_next : (m mid : FsState) → ChangesOnlyAt (targets plan) s m → LinksItem m item mid → AreLinked s m (take i plan) → AreLinked s mid (take (i + 1) plan)
  done_next m mid keeps links done =
      subst (AreLinked s mid) (sym (taken_next plan i item below at))
      (one_more s m mid (targets plan) (take i plan) item (is_target plan i item below at) keeps links (is_no_target plan i item below at s.names can) (new_before plan i item below at s.names can) done)

  -- it failed
  pub partly_done : (m t : FsState) → ChangesOnlyAt (item.to ∷ []) m t → AllByRecursion (λ x. get m.names x.to ≡ get s.names x.to) (drop i plan) → AreLinked s m (take i plan) → IsPartlyLinked s t plan
  partly_done m t keeps waits done = record {
    done = take i plan;
    left = item ∷ drop (i + 1) plan;
    is = whole_at plan i item below at;
    linked = linked_still s m t item.to keeps (take i plan) (new_before plan i item below at s.names can) done;
    untouched = waits_behind plan i item below at s.names can s m t keeps waits;
  }

-- all are linked
pub all_done : (s t : FsState) (plan : List PlanItem) (i : ℕ) → length plan ≤ i → AreLinked s t (take i plan) → AreLinked s t plan
all_done s t plan i over done = subst (AreLinked s t) (take_all i plan over) done

pub wholly_done : (s t : FsState) (plan : List PlanItem) (i : ℕ) → length plan ≤ i → AreLinked s t (take i plan) → IsPartlyLinked s t plan
wholly_done s t plan i over done = record { done = plan; left = []; is = sym (append-nil plan); linked = all_done s t plan i over done; untouched = tt }
  where
    append-nil : (items : List PlanItem) → items ++ [] ≡ items
    append-nil [] = refl
    append-nil (item ∷ items) = ap (λ rest. item ∷ rest) (append-nil items)

-- ---- who shares a file

one_or_none : (paths : List Path) (path : Path) → IsOneOf paths path ⊎ (IsOneOf paths path → ⊥)
one_or_none [] path = inr (λ none. none)
one_or_none (first ∷ paths) path =
    elim (one_or_none paths path) [
      | inl one ↦ inl (inr one)
      | inr others ↦ same_path_by others
    ]
  where
    same_path_by : (IsOneOf paths path → ⊥) → IsOneOf (first ∷ paths) path ⊎ (IsOneOf (first ∷ paths) path → ⊥)
    same_path_by others = by (same_path path first) refl
      where
        by : (test : Bool) → same_path path first ≡ test → IsOneOf (first ∷ paths) path ⊎ (IsOneOf (first ∷ paths) path → ⊥)
        by true is = inl (inl (same_path_true path first is))
        by false is = inr (λ one. elim one [ inl same ↦ (let here = ap (same_path path) same ∙ is in let tied = same_path_refl path in cc (here, tied)) | inr one ↦ others one ])

module _ (items : List PlanItem) (old new : List Path) (s t : FsState) (apart : (path : Path) → IsInside old path → IsOutside new path) (inside : (path : Path) → IsOneOf (targets items) path → IsInside new path) (keeps : ChangesOnlyAt (targets items) s t) where
  -- old names stay
  old_stays : (path : Path) → IsInside old path → get t.names path ≡ get s.names path
  old_stays path in_old = keeps.names path (λ one. apart path in_old (inside path one))

  pub share_only : ShareOnly old new (λ path. ⊥) s.names → ShareOnly old new (IsOneOf (targets items)) t.names
  share_only none path other inode in_old in_new named named_new =
      elim (one_or_none (targets items) other) [
        | inl one ↦ one
        | inr others ↦ absurd (none path other inode in_old in_new (sym (old_stays path in_old) ∙ named) (sym (keeps.names other others) ∙ named_new))
      ]

  pub same_file : (item : PlanItem) → IsInside old item.from → IsLinked s t item → get t.names item.to ≡ get t.names item.from
  same_file item in_old linked = linked.there ∙ sym linked.source ∙ sym (old_stays item.from in_old)
