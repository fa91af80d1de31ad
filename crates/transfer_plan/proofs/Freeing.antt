-- What can be carried isn't refused.
use Rattle.std.proofs.Common.{◌≡◌, ◌≢◌, ◌∙◌, ◌++◌, ℕ, true, false, List, [], ◌∷◌, length, Option, Some, None, Result, Ok, Err, OnOk, refl, sym, ap, subst, arith, length-append}
use Rattle.std.specs.Prelude.{is_some}
use Rattle.std.specs.FinMap.{get}
use Rattle.fs_model.specs.declared.node.Node.{Node}
use Rattle.fs_model.specs.declared.node.Node.TheVariants.{Dir, File, Sym}
use Rattle.fs_model.specs.declared.error.FsError.{FsError}
use Rattle.fs_model.specs.Names.{Path, parent}
use Rattle.fs_model.specs.State.{Names, FsState}
use Rattle.fs_model.specs.Effects.{with_change}
use Rattle.fs_model.specs.Calls.{Unlinks, refusal, blocked, or_else, no_file, no_leaf, taken}
use Rattle.fs_model.specs.WellFormed.{IsTree}
use Rattle.fs_model.specs.Trail.{Trail, Steps, error_of}
use Rattle.fs_model.proofs.Lookups.{set_name_here, set_name_other}
use Rattle.fs_model.proofs.Ways.{blocked_set, free_below}
use Rattle.crash_safety.proofs.Needing.{parent_of}
use Rattle.fs_tools.proofs.Clearing.{unlink_present}
use Rattle.fs_tools.proofs.Copying.{prefix_is_dir}
use Rattle.transfer_plan.specs.declared.plan.PlanItem.{PlanItem}
use Rattle.transfer_plan.specs.Carriable.{IsCarriable}
use Rattle.transfer_plan.specs.Changed.{IsFree}

-- a path that has a name has a last one
splits : (name : List ℕ) (rest : Path) → (dir : Path) × (last : List ℕ) × (name ∷ rest ≡ dir ++ last ∷ [])
splits name [] = ([], name, refl)
splits name (next ∷ rest) =
    let (dir, last, is) = splits next rest in
    (name ∷ dir, last, ap (λ p. name ∷ p) is)

-- the way into a directory that stands is free
pub way_free : (names : Names) → IsTree names → (path : Path) → get names (parent path) ≡ Some Dir → blocked names path ≡ None
way_free names tree [] dir = refl
way_free names tree (name ∷ rest) dir =
    let (top, last, is) = splits name rest in
    ap (blocked names) is ∙ free_below names tree top last (ap (get names) (sym (ap parent is ∙ parent_of top last)) ∙ dir)

leaf_of : (node : Option Node) → is_some node ≡ true → node ≢ Some Dir → no_leaf node ≡ None
leaf_of None stands other = absurd (cc stands)
leaf_of (Some Dir) stands other = absurd (other refl)
leaf_of (Some (File inode)) stands other = refl
leaf_of (Some (Sym target)) stands other = refl

gone_of : (node : Option Node) → is_some node ≡ false → taken node ≡ None
gone_of None none = refl
gone_of (Some node) none = absurd (cc none)

module _ (s : FsState) (tree : IsTree s.names) (item : PlanItem) (can : IsCarriable s.names item) where
  way : blocked s.names item.to ≡ None
  way = way_free s.names tree item.to can.dir

  from_way : blocked s.names item.from ≡ None
  from_way = tree item.from (ap is_some can.file)

  pub unlink_free : item.replaces ≡ true → refusal s (Unlinks item.to) ≡ None
  unlink_free replaces = λ i. or_else (way i) (leaf_of (get s.names item.to) (sym can.replaces ∙ replaces) can.no_dir i)

  pub free_before : item.replaces ≡ false → IsFree s item
  free_before keeps = ((λ i. or_else (from_way i) (no_file (can.file i))), (λ i. or_else (way i) (gone_of (get s.names item.to) (sym can.replaces ∙ keeps) i)))

  pub free_after : item.from ≢ item.to → IsFree (with_change s ((item.to, None) ∷ [])) item
  free_after other = (
    (λ i. or_else ((blocked_set s.names item.to None item.from no_part ∙ from_way) i) (no_file ((set_name_other s.names item.to None item.from other ∙ can.file) i))),
    (λ i. or_else ((blocked_set s.names item.to None item.to shorter ∙ way) i) (taken (set_name_here s.names item.to None i))),
  )
    where
      no_part : (front back : Path) → item.from ≡ front ++ back → 0 ≢ length back → front ≢ item.to
      no_part front back whole some same = can.no_dir (ap (get s.names) (sym same) ∙ prefix_is_dir s.names front back some (ap (blocked s.names) (sym whole) ∙ from_way))

      shorter : (front back : Path) → item.to ≡ front ++ back → 0 ≢ length back → front ≢ item.to
      shorter front back whole some same =
          let a = ap length whole in
          let b = ap length same in
          some (omega (arith, length-append front back, a, b))

-- after the unlink the new name is free
pub unlinked_free : (old new : Trail) (item : PlanItem) → IsTree old.present.names → IsCarriable old.present.names item → item.from ≢ item.to → (result : Result (Unit {0}) FsError) → Steps (Unlinks item.to) (error_of result) old new → OnOk result (IsFree new.present item)
unlinked_free old new item tree can other (Ok value) steps = subst (λ s. IsFree s item) (sym (unlink_present item.to old new steps)) (free_after old.present tree item can other)
unlinked_free old new item tree can other (Err error) steps = tt
