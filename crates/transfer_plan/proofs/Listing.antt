-- A plan that is carried out item by item: those that are done, the next one and the rest.
use Rattle.std.proofs.Common.{◌≡◌, ◌≢◌, ◌∙◌, ◌++◌, ◌+◌, ◌<◌, ◌≤◌, ℕ, true, false, inl, inr, List, [], ◌∷◌, length, take, drop, get_or, Some, None, refl, sym, ap, subst, add-one}
use Rattle.std.proofs.Math.Seq.{take-suc}
use Rattle.std.proofs.lemmas.List.{take-append-drop}
use Rattle.std.specs.List.{AllByRecursion}
use Rattle.std.specs.FinMap.{get}
use Rattle.fs_model.specs.declared.node.Node.TheVariants.{Dir}
use Rattle.fs_model.specs.Names.{Path, parent}
use Rattle.fs_model.specs.State.{Names, Devices, FsState}
use Rattle.crash_safety.specs.Synced.{IsOneOf}
use Rattle.fs_tools.proofs.Clearing.{next_of}
use Rattle.transfer_plan.specs.declared.plan.PlanItem.{PlanItem}
use Rattle.transfer_plan.specs.Carriable.{sources, targets, IsCarriable, AreApart, CanBeCarried, HaveOneDevice}
use Rattle.transfer_plan.specs.Changed.{ChangesOnlyAt, cleared}
use Rattle.transfer_plan.proofs.Staying.{carriable_still, devices_stay}
use Rattle.transfer_plan.proofs.Keeping.{keeps_name}

-- those before a place, the one there and those behind it
pub taken_next : {A : Type 0} (xs : List A) (i : ℕ) (x : A) → i < length xs → x ≡ get_or xs i x → take (i + 1) xs ≡ take i xs ++ x ∷ []
taken_next xs i x below is = ap (λ n. take n xs) (add-one i) ∙ take-suc xs i x below ∙ ap (λ y. take i xs ++ y ∷ []) (sym is)

pub whole_at : {A : Type 0} (xs : List A) (i : ℕ) (x : A) → i < length xs → x ≡ get_or xs i x → xs ≡ take i xs ++ x ∷ drop (i + 1) xs
whole_at xs i x below is = sym (take-append-drop i xs) ∙ ap (λ rest. take i xs ++ rest) (next_of xs i x below is)

-- a place in a list is one in an equal list
pub below_in : (xs ys : List PlanItem) → xs ≡ ys → (i : ℕ) → i < length xs → i < length ys
below_in xs ys same i below = subst (λ items. i < length items) same below

pub at_in : (xs ys : List PlanItem) → xs ≡ ys → (i : ℕ) (x : PlanItem) → x ≡ get_or xs i x → x ≡ get_or ys i x
at_in xs ys same i x at = subst (λ items. x ≡ get_or items i x) same at

pub over_in : (xs ys : List PlanItem) → xs ≡ ys → (i : ℕ) → length xs ≤ i → length ys ≤ i
over_in xs ys same i over = subst (λ items. length items ≤ i) same over

module _ (item : PlanItem) (rest : List PlanItem) where
  pub target_in : (front : List PlanItem) → IsOneOf (targets (front ++ item ∷ rest)) item.to
  target_in [] = inl refl
  target_in (first ∷ front) = inr (target_in front)

  pub source_in : (front : List PlanItem) → IsOneOf (sources (front ++ item ∷ rest)) item.from
  source_in [] = inl refl
  source_in (first ∷ front) = inr (source_in front)

  -- its new name is none of those before it
  pub apart_from : (front : List PlanItem) → AreApart (front ++ item ∷ rest) → IsOneOf (targets front) item.to → ⊥
  apart_from [] apart none = none
  apart_from (first ∷ front) apart (inl same) = apart.0 (subst (IsOneOf (targets (front ++ item ∷ rest))) same (target_in front))
  apart_from (first ∷ front) apart (inr one) = apart_from front apart.1 one

  -- and none of those behind it
  pub apart_behind : (front : List PlanItem) → AreApart (front ++ item ∷ rest) → IsOneOf (targets rest) item.to → ⊥
  apart_behind [] apart one = apart.0 one
  apart_behind (first ∷ front) apart one = apart_behind front apart.1 one

-- where one name changed, which is that of no directory and of none of these items, they can be carried still
module _ (a b : Names) (name : Path) (no_dir : get a name ≢ Some Dir) (same : (path : Path) → path ≢ name → get b path ≡ get a path) where
  others_still : (items : List PlanItem) → (IsOneOf (sources items) name → ⊥) → (IsOneOf (targets items) name → ⊥) → AllByRecursion (IsCarriable a) items → AllByRecursion (IsCarriable b) items
  others_still [] source target all = tt
  others_still (item ∷ items) source target all = (
    carriable_still a b item (same item.from (λ e. source (inl (sym e)))) (same item.to (λ e. target (inl (sym e)))) (same (parent item.to) (λ e. no_dir (ap (get a) (sym e) ∙ all.0.dir))) all.0,
    others_still items (λ one. source (inr one)) (λ one. target (inr one)) all.1,
  )

one_only : (name path : Path) → path ≢ name → IsOneOf (name ∷ []) path → ⊥
one_only name path other (inl same) = other same
one_only name path other (inr none) = none

-- the items behind the first can be carried when its new name alone has changed
pub next_ready : (a b : FsState) (item : PlanItem) (rest : List PlanItem) → CanBeCarried a.names (item ∷ rest) → ChangesOnlyAt (item.to ∷ []) a b → CanBeCarried b.names rest
next_ready a b item rest can keeps = record {
  each = others_still a.names b.names item.to can.each.0.no_dir (λ path other. keeps.names path (one_only item.to path other)) rest (λ one. can.other item.to (inr one) (inl refl)) can.apart.0 can.each.1;
  apart = can.apart.1;
  other = λ path source target. can.other path (inr source) (inr target);
}

pub next_devices : (a b : FsState) (item : PlanItem) (rest : List PlanItem) → HaveOneDevice a (item ∷ rest) → ChangesOnlyAt (item.to ∷ []) a b → HaveOneDevice b rest
next_devices a b item rest have keeps = devices_stay a b rest (λ name one. ap (λ (devices : Devices). get devices name) keeps.devices) have.1

-- the old name of an item that can be carried isn't the new one
pub names_differ : (names : Names) (item : PlanItem) (rest : List PlanItem) → CanBeCarried names (item ∷ rest) → item.from ≢ item.to
names_differ names item rest can same = can.other item.from (inl refl) (inl same)

-- what stood at the new name is gone, or nothing was to be removed
module _ (s : FsState) (item : PlanItem) where
  pub cleared_bytes : (cleared s item).bytes ≡ s.bytes
  cleared_bytes = elim item.replaces as (λ b. (cleared s (record item { replaces = b })).bytes ≡ s.bytes) [ true ↦ refl | false ↦ refl ]

  pub cleared_keeps : (paths : List Path) (a : FsState) → IsOneOf paths item.to → ChangesOnlyAt paths a s → ChangesOnlyAt paths a (cleared s item)
  cleared_keeps paths a one keeps = elim item.replaces as (λ b. ChangesOnlyAt paths a (cleared s (record item { replaces = b }))) [ true ↦ keeps_name paths a s item.to None one keeps | false ↦ keeps ]

-- what a plan's next step needs, and what it leaves
module _ (plan : List PlanItem) (i : ℕ) (item : PlanItem) (below : i < length plan) (at : item ≡ get_or plan i item) where
  pub is_target : IsOneOf (targets plan) item.to
  is_target = subst (λ xs. IsOneOf (targets xs) item.to) (sym (whole_at plan i item below at)) (target_in item (drop (i + 1) plan) (take i plan))

  pub is_no_target : (names : Names) → CanBeCarried names plan → IsOneOf (targets plan) item.from → ⊥
  is_no_target names can one = can.other item.from (subst (λ xs. IsOneOf (sources xs) item.from) (sym (whole_at plan i item below at)) (source_in item (drop (i + 1) plan) (take i plan))) one

  pub new_before : (names : Names) → CanBeCarried names plan → IsOneOf (targets (take i plan)) item.to → ⊥
  new_before names can one = apart_from item (drop (i + 1) plan) (take i plan) (subst AreApart (whole_at plan i item below at) can.apart) one

  pub new_behind : (names : Names) → CanBeCarried names plan → IsOneOf (targets (drop (i + 1) plan)) item.to → ⊥
  new_behind names can one = apart_behind item (drop (i + 1) plan) (take i plan) (subst AreApart (whole_at plan i item below at) can.apart) one

  pub ready_here : (names : Names) → CanBeCarried names (drop i plan) → CanBeCarried names (item ∷ (drop (i + 1) plan))
  ready_here names can = subst (CanBeCarried names) (next_of plan i item below at) can

  pub ready_behind : (a b : FsState) → CanBeCarried a.names (drop i plan) → ChangesOnlyAt (item.to ∷ []) a b → CanBeCarried b.names (drop (i + 1) plan)
  ready_behind a b can keeps = next_ready a b item (drop (i + 1) plan) (ready_here a.names can) keeps

  pub devices_here : (s : FsState) → HaveOneDevice s (drop i plan) → HaveOneDevice s (item ∷ (drop (i + 1) plan))
  devices_here s have = subst (HaveOneDevice s) (next_of plan i item below at) have

  pub devices_behind : (a b : FsState) → HaveOneDevice a (drop i plan) → ChangesOnlyAt (item.to ∷ []) a b → HaveOneDevice b (drop (i + 1) plan)
  devices_behind a b have keeps = next_devices a b item (drop (i + 1) plan) (devices_here a have) keeps

  -- the new names behind it stay as they were
  pub waits_behind : (names : Names) → CanBeCarried names plan → (a s t : FsState) → ChangesOnlyAt (item.to ∷ []) s t → AllByRecursion (λ x. get s.names x.to ≡ get a.names x.to) (drop i plan) → AllByRecursion (λ x. get t.names x.to ≡ get a.names x.to) (drop (i + 1) plan)
  waits_behind names can a s t keeps all = still (drop (i + 1) plan) (new_behind names can) (subst (AllByRecursion (λ x. get s.names x.to ≡ get a.names x.to)) (next_of plan i item below at) all).1
    where
      still : (items : List PlanItem) → (IsOneOf (targets items) item.to → ⊥) → AllByRecursion (λ x. get s.names x.to ≡ get a.names x.to) items → AllByRecursion (λ x. get t.names x.to ≡ get a.names x.to) items
      still [] apart all = tt
      still (first ∷ items) apart all = (keeps.names first.to (one_only item.to first.to (λ same. apart (inl (sym same)))) ∙ all.0, still items (λ one. apart (inr one)) all.1)

-- nothing has changed yet
pub all_wait : (a : FsState) (items : List PlanItem) → AllByRecursion (λ x. get a.names x.to ≡ get a.names x.to) items
all_wait a [] = tt
all_wait a (item ∷ items) = (refl, all_wait a items)
