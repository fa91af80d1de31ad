-- Files that are copied one after another.
use Rattle.std.proofs.Common.{◌≡◌, ◌≢◌, ◌∙◌, ◌++◌, ℕ, true, inl, inr, List, [], ◌∷◌, ◌<◌, ◌≤◌, ◌+◌, length, take, drop, get_or, Option, Some, None, refl, sym, ap, subst}
use Rattle.std.proofs.lemmas.List.{take_all}
use Rattle.std.specs.Prelude.{is_some}
use Rattle.std.specs.Option.{option_map, unwrap_or}
use Rattle.std.specs.List.{AllByRecursion}
use Rattle.std.specs.FinMap.{get, insert}
use Rattle.fs_model.specs.declared.node.Node.{Node}
use Rattle.fs_model.specs.declared.node.Node.TheVariants.{Dir, File, Sym}
use Rattle.fs_model.specs.declared.effect.Effect.TheVariants.{NewFile}
use Rattle.fs_model.specs.Names.{Path}
use Rattle.fs_model.specs.State.{Contents, FsState}
use Rattle.fs_model.specs.Effects.{apply, bytes_of, with_change}
use Rattle.fs_model.specs.Calls.{Call, Stats, ReadsAt, Creates, WritesAt, Links, Unlinks}
use Rattle.fs_model.specs.Reading.{inode_of_node}
use Rattle.fs_model.specs.WellFormed.{WellFormed, IsKnown}
use Rattle.fs_model.specs.Trail.{Trail, Goes, Since}
use Rattle.fs_model.proofs.Lookups.{set_name_here, insert_here}
use Rattle.fs_model.proofs.Runs.{all_append}
use Rattle.fs_model.proofs.Going.{goes_then, goes_weaker}
use Rattle.crash_safety.specs.Frame.{IsInside}
use Rattle.crash_safety.specs.Calling.{MakesWithin}
use Rattle.crash_safety.specs.Synced.{IsOneOf}
use Rattle.crash_safety.specs.Upgrade.{Upgrade, IsReady}
use Rattle.crash_safety.specs.Sound.{Stage, Moving, Sound}
use Rattle.crash_safety.proofs.Going.{goes_sound}
use Rattle.fs_tools.specs.Copied.{Copies}
use Rattle.fs_tools.proofs.Filling.{named_bytes}
use Rattle.transfer_plan.specs.declared.plan.PlanItem.{PlanItem}
use Rattle.transfer_plan.specs.Carriable.{targets, CanBeCarried}
use Rattle.transfer_plan.specs.Changed.{ChangesOnlyAt, TransfersTo, Removes, cleared}
use Rattle.transfer_plan.proofs.Keeping.{keeps_itself, keeps_name, keeps_bytes, none_before, transfers_since, rebased, one_inside, inside_inside}
use Rattle.transfer_plan.proofs.Listing.{cleared_bytes, cleared_keeps, taken_next, whole_at, is_target, is_no_target, new_before, waits_behind}
use Rattle.copy_transfer.specs.CopiedFiles.{CopiesTo, CopiesItem, IsCopied, HaveOwnFiles, AreCopied, IsPartlyCopied}

-- ---- the calls

-- removing the new name, and copying a file to it, are such runs
pub removes_copy : (path : Path) (a s : FsState) (call : Call) → Removes path s call → CopiesTo (path ∷ []) a s call
removes_copy path a s (Unlinks at) allowed = (inl allowed, tt)
removes_copy path a s call allowed = absurd allowed

pub copies_copy : (from to : Path) (a s : FsState) (call : Call) → Copies from to a s call → CopiesTo (to ∷ []) a s call
copies_copy from to a s (Stats path) allowed = (tt, tt)
copies_copy from to a s (ReadsAt path) allowed = (tt, tt)
copies_copy from to a s (Creates path) allowed = (inl allowed, tt)
copies_copy from to a s (WritesAt path at bytes) allowed = ((inl allowed.0, allowed.1), tt)
copies_copy from to a s call allowed = absurd allowed

pub copies_since : (paths : List Path) (a b : Trail) → Goes (CopiesTo paths a.present) a b → Since (ChangesOnlyAt paths a.present) a b
copies_since paths a b goes = transfers_since paths a b (goes_weaker (CopiesTo paths a.present) (TransfersTo paths a.present) (λ s call allowed. allowed.0) goes)

-- two runs after each other, of which the second speaks of its own beginning
pub copies_joined : (paths inner : List Path) → ((path : Path) → IsOneOf inner path → IsOneOf paths path) → (a b c : Trail) → Goes (CopiesTo paths a.present) a b → Goes (CopiesTo inner b.present) b c → Goes (CopiesTo paths a.present) a c
copies_joined paths inner within a b c front back =
    let keeps = (copies_since paths a b front).present in
    goes_then (CopiesTo paths a.present) front (goes_weaker (CopiesTo inner b.present) (CopiesTo paths a.present) (λ s call allowed. (rebased paths inner within a.present b.present s call keeps allowed.0, allowed.1)) back)

pub copies_within : (paths : List Path) (a s : FsState) (call : Call) → CopiesTo paths a s call → MakesWithin paths a s call
copies_within paths a s (Stats path) allowed = (tt, tt)
copies_within paths a s (ReadsAt path) allowed = (tt, tt)
copies_within paths a s (Unlinks path) allowed = (one_inside paths path allowed.0, tt)
copies_within paths a s (Creates path) allowed = (one_inside paths path allowed.0, tt)
copies_within paths a s (WritesAt path from bytes) allowed = (allowed.0.1, tt)
copies_within paths a s (Links from to) allowed = absurd allowed.1
copies_within paths a s call allowed = absurd allowed.0

-- they keep an upgrade sound, where these are names of the new cluster
pub copies_sound : (u : Upgrade) → IsReady u → (stage : Stage) (paths : List Path) → ((path : Path) → IsOneOf paths path → IsInside u.new_tops path) → (stage ≡ Moving → ⊥) → (a b : Trail) → Sound u stage a.present → Goes (CopiesTo paths a.present) a b → Since (Sound u stage) a b
copies_sound u ready stage paths inside still a b sound goes =
    goes_sound u ready stage paths (inside_inside u.new_tops paths inside) still a b sound (goes_weaker (CopiesTo paths a.present) (MakesWithin paths a.present) (copies_within paths a.present) goes)

-- ---- what stands

file_at : (node : Option Node) (f : ℕ → List ℕ) (bytes : List ℕ) → option_map f (inode_of_node node) ≡ Some bytes → (inode : ℕ) × (node ≡ Some (File inode)) × (bytes ≡ f inode)
file_at None f bytes e = absurd (cc e)
file_at (Some Dir) f bytes e = absurd (cc e)
file_at (Some (File inode)) f bytes e = (inode, refl, cc e)
file_at (Some (Sym target)) f bytes e = absurd (cc e)

file_known : (s : FsState) → WellFormed s → (path : Path) (inode : ℕ) → get s.names path ≡ Some (File inode) → is_some (get s.bytes inode) ≡ true
file_known s well path inode named = subst (IsKnown s.bytes s.devices path) named (well.names path)

-- one copy
module _ (paths : List Path) (s m mid : FsState) (item : PlanItem) (one : IsOneOf paths item.to) (keeps : ChangesOnlyAt paths s m) (copies : CopiesItem m item mid) where
  before : ChangesOnlyAt paths s (cleared m item)
  before = cleared_keeps m item paths s one keeps

  pub copy_keeps : ChangesOnlyAt paths s mid
  copy_keeps =
      let (number, (bytes, source, size, (made, unused, is))) = copies in
      let none = none_before paths s (cleared m item) before made unused in
      subst (ChangesOnlyAt paths s) (sym is)
      (keeps_bytes paths s (apply (cleared m item) (NewFile item.to made)) made bytes none
      (keeps_bytes paths s (with_change (cleared m item) ((item.to, Some (File made)) ∷ [])) made [] none (keeps_name paths s (cleared m item) item.to (Some (File made)) one before)))

  pub copy_copied : WellFormed s → (IsOneOf paths item.from → ⊥) → IsCopied s mid item
  copy_copied well outside =
      let (number, (bytes, source, size, (made, unused, is))) = copies in
      let (inode, named, same) = file_at (get (cleared m item).names item.from) (bytes_of (cleared m item).bytes) bytes source in
      let first : get s.names item.from ≡ Some (File inode) = sym (before.names item.from outside) ∙ named in
      let bytes_same : bytes ≡ bytes_of s.bytes inode = same ∙ ap (λ found. unwrap_or found []) (before.bytes inode (file_known s well item.from inode first)) in
      record {
        bytes = bytes;
        source = named_bytes s item.from inode first ∙ ap (λ b. Some b) (sym bytes_same);
        made = made;
        there = ap (λ (x : FsState). get x.names item.to) is ∙ set_name_here (cleared m item).names item.to (Some (File made));
        unused = none_before paths s (cleared m item) before made unused;
        same = ap (λ (x : FsState). get x.bytes made) is ∙ insert_here (insert (cleared m item).bytes made []) made bytes;
      }

  -- the copy has an inode that no file had before it
  pub copy_new : (inode : ℕ) → is_some (get m.bytes inode) ≡ true → get mid.names item.to ≢ Some (File inode)
  copy_new inode has there =
      let (number, (bytes, source, size, (made, unused, is))) = copies in
      let here : get mid.names item.to ≡ Some (File made) = ap (λ (x : FsState). get x.names item.to) is ∙ set_name_here (cleared m item).names item.to (Some (File made)) in
      let none : get m.bytes made ≡ None = sym (ap (λ (b : Contents). get b made) (cleared_bytes m item)) ∙ unused in
      let e : inode ≡ made = (let x = sym there ∙ here in cc x) in
      let some : is_some (get m.bytes made) ≡ true = subst (λ i. is_some (get m.bytes i) ≡ true) e has in
      let no = ap is_some none in
      cc (some, no)

-- what is copied is copied still when another name changes
module _ (s m t : FsState) (name : Path) (keeps : ChangesOnlyAt (name ∷ []) m t) where
  other : (path : Path) → path ≢ name → IsOneOf (name ∷ []) path → ⊥
  other path apart (inl same) = apart same
  other path apart (inr none) = none

  one_still : (item : PlanItem) → item.to ≢ name → IsCopied s m item → IsCopied s t item
  one_still item apart copied = record {
    bytes = copied.bytes;
    source = copied.source;
    made = copied.made;
    there = keeps.names item.to (other item.to apart) ∙ copied.there;
    unused = copied.unused;
    same = keeps.bytes copied.made (ap is_some copied.same) ∙ copied.same;
  }

  each_still : (items : List PlanItem) → (IsOneOf (targets items) name → ⊥) → AllByRecursion (IsCopied s m) items → AllByRecursion (IsCopied s t) items
  each_still [] apart all = tt
  each_still (item ∷ items) apart all = (one_still item (λ same. apart (inl (sym same))) all.0, each_still items (λ one. apart (inr one)) all.1)

  differ_still : (found : Option Node) (items : List PlanItem) → (IsOneOf (targets items) name → ⊥) → AllByRecursion (λ later. found ≢ get m.names later.to) items → AllByRecursion (λ later. found ≢ get t.names later.to) items
  differ_still found [] apart all = tt
  differ_still found (item ∷ items) apart all = (
    (λ same. all.0 (same ∙ keeps.names item.to (other item.to (λ e. apart (inl (sym e)))))),
    differ_still found items (λ one. apart (inr one)) all.1,
  )

  own_still : (items : List PlanItem) → (IsOneOf (targets items) name → ⊥) → HaveOwnFiles m items → HaveOwnFiles t items
  own_still [] apart own = tt
  own_still (item ∷ items) apart own = (
    subst (λ node. AllByRecursion (λ later. node ≢ get t.names later.to) items) (sym (keeps.names item.to (other item.to (λ e. apart (inl (sym e))))))
        (differ_still (get m.names item.to) items (λ one. apart (inr one)) own.0),
    own_still items (λ one. apart (inr one)) own.1,
  )

  pub copied_still : (items : List PlanItem) → (IsOneOf (targets items) name → ⊥) → AreCopied s m items → AreCopied s t items
  copied_still items apart copied = record { each = each_still items apart copied.each; own = own_still items apart copied.own }

own_more : (t : FsState) (items : List PlanItem) (item : PlanItem) → HaveOwnFiles t items → AllByRecursion (λ x. get t.names x.to ≢ get t.names item.to) items → HaveOwnFiles t (items ++ item ∷ [])
own_more t [] item own all = (tt, tt)
own_more t (first ∷ items) item own all = (all_append (λ later. get t.names first.to ≢ get t.names later.to) items (item ∷ []) own.0 (all.0, tt), own_more t items item own.1 all.1)

-- one more item is copied
module _ (s m mid : FsState) (well : WellFormed s) (paths : List Path) (front : List PlanItem) (item : PlanItem) (one : IsOneOf paths item.to) (keeps : ChangesOnlyAt paths s m) (copies : CopiesItem m item mid) where
  alone : ChangesOnlyAt (item.to ∷ []) m mid
  alone = copy_keeps (item.to ∷ []) m m mid item (inl refl) (keeps_itself (item.to ∷ []) m) copies

  differs : (items : List PlanItem) → (IsOneOf (targets items) item.to → ⊥) → AllByRecursion (IsCopied s m) items → AllByRecursion (λ x. get mid.names x.to ≢ get mid.names item.to) items
  differs [] apart all = tt
  differs (first ∷ items) apart all = (
    (λ same. copy_new (item.to ∷ []) m m mid item (inl refl) (keeps_itself (item.to ∷ []) m) copies all.0.made (ap is_some all.0.same)
        (sym same ∙ alone.names first.to (other m m mid item.to alone first.to (λ e. apart (inl (sym e)))) ∙ all.0.there)),
    differs items (λ one. apart (inr one)) all.1,
  )

  pub one_more : (IsOneOf paths item.from → ⊥) → (IsOneOf (targets front) item.to → ⊥) → AreCopied s m front → AreCopied s mid (front ++ item ∷ [])
  one_more outside apart copied = record {
    each = all_append (IsCopied s mid) front (item ∷ []) (each_still s m mid item.to alone front apart copied.each) (copy_copied paths s m mid item one keeps copies well outside, tt);
    own = own_more mid front item (own_still s m mid item.to alone front apart copied.own) (differs front apart copied.each);
  }

-- the next item's new name is one of the plan's
pub only_that : (plan : List PlanItem) (i : ℕ) (item : PlanItem) → i < length plan → item ≡ get_or plan i item → (path : Path) → IsOneOf (item.to ∷ []) path → IsOneOf (targets plan) path
only_that plan i item below at path (inl same) = subst (IsOneOf (targets plan)) (sym same) (is_target plan i item below at)
only_that plan i item below at path (inr none) = absurd none

-- the next item of the plan
module _ (s : FsState) (plan : List PlanItem) (i : ℕ) (item : PlanItem) (below : i < length plan) (at : item ≡ get_or plan i item) (can : CanBeCarried s.names plan) where
  -- it succeeded
  pub done_next : WellFormed s → (m mid : FsState) → ChangesOnlyAt (targets plan) s m → CopiesItem m item mid → AreCopied s m (take i plan) → AreCopied s mid (take (i + 1) plan)
  done_next well m mid keeps copies done =
      subst (AreCopied s mid) (sym (taken_next plan i item below at))
      (one_more s m mid well (targets plan) (take i plan) item (is_target plan i item below at) keeps copies (is_no_target plan i item below at s.names can) (new_before plan i item below at s.names can) done)

  -- it failed
  pub partly_done : (m t : FsState) → ChangesOnlyAt (item.to ∷ []) m t → AllByRecursion (λ x. get m.names x.to ≡ get s.names x.to) (drop i plan) → AreCopied s m (take i plan) → IsPartlyCopied s t plan
  partly_done m t keeps waits done = record {
    done = take i plan;
    left = item ∷ drop (i + 1) plan;
    is = whole_at plan i item below at;
    copied = copied_still s m t item.to keeps (take i plan) (new_before plan i item below at s.names can) done;
    untouched = waits_behind plan i item below at s.names can s m t keeps waits;
  }

-- all are copied
pub all_done : (s t : FsState) (plan : List PlanItem) (i : ℕ) → length plan ≤ i → AreCopied s t (take i plan) → AreCopied s t plan
all_done s t plan i over done = subst (AreCopied s t) (take_all i plan over) done

pub wholly_done : (s t : FsState) (plan : List PlanItem) (i : ℕ) → length plan ≤ i → AreCopied s t (take i plan) → IsPartlyCopied s t plan
wholly_done s t plan i over done = record { done = plan; left = []; is = sym (append-nil plan); copied = all_done s t plan i over done; untouched = tt }
  where
    append-nil : (items : List PlanItem) → items ++ [] ≡ items
    append-nil [] = refl
    append-nil (item ∷ items) = ap (λ rest. item ∷ rest) (append-nil items)
