-- The control file is named back.
use Rattle.std.proofs.Common.{◌≡◌, ◌∙◌, ℕ, Bool, true, false, cond, [], ◌∷◌, Option, Some, None, refl, sym, ap, subst}
use Rattle.std.specs.FinMap.{get}
use Rattle.fs_model.specs.declared.effect.Effect.{Effect}
use Rattle.fs_model.specs.declared.effect.Effect.TheVariants.{Names as ChangeNames}
use Rattle.fs_model.specs.declared.node.Node.{Node}
use Rattle.fs_model.specs.declared.node.Node.TheVariants.{File}
use Rattle.fs_model.specs.Names.{Path, same_path}
use Rattle.fs_model.specs.PathLaws.{same_path_true}
use Rattle.fs_model.specs.State.{Names, FsState}
use Rattle.fs_model.specs.Calls.{Renames, Does}
use Rattle.fs_model.specs.Effects.{apply, changed}
use Rattle.crash_safety.specs.Crashes.{IsSafe, AsBefore}
use Rattle.crash_safety.specs.Frame.{IsInside}
use Rattle.crash_safety.specs.Places.{control_at, disabled_at}
use Rattle.crash_safety.specs.Upgrade.{Upgrade, IsReady, CanDisable, names_of}
use Rattle.crash_safety.proofs.Renamed.{get_two, may_rename, renamed_there}
use Rattle.verdicts.specs.Crashed.{upgrade_to_16}

-- at each path a rename and the rename back leave what was there
back_again : (names : Names) (from to : Path) (node : Option Node) → get names from ≡ node → get names to ≡ None → (later : Names) (path : Path) → get later path ≡ get (changed names ((from, None) ∷ (to, node) ∷ [])) path
    → get (changed later ((to, None) ∷ (from, node) ∷ [])) path ≡ get names path
back_again names from to node at_from at_to later path is = get_two later to from None node path ∙ of (same_path path from) (same_path path to) refl refl
  where
    of : (a b : Bool) → same_path path from ≡ a → same_path path to ≡ b → cond a node (cond b None (get later path)) ≡ get names path
    of true b here other = sym at_from ∙ ap (get names) (sym (same_path_true path from here))
    of false true other here = sym at_to ∙ ap (get names) (sym (same_path_true path to here))
    of false false not_from not_to = is ∙ get_two names from to None node path ∙ (λ i. cond (not_to i) node (cond (not_from i) None (get names path)))

module _ (start : FsState) (old new : Path) (ready : IsReady (upgrade_to_16 start old new true)) (x : FsState) (safe : IsSafe (upgrade_to_16 start old new true) x) where
  abbrev pub u : Upgrade
  u = upgrade_to_16 start old new true

  can : CanDisable u
  can = ready.can_disable refl

  free : get start.names (disabled_at old) ≡ None
  free = (may_rename start (control_at old) (disabled_at old) can.free).free

  -- where a file has the other name, the rename was done
  was_moved : (inode : ℕ) → get x.names (disabled_at old) ≡ Some (File inode) → safe.old_kept.moved ≡ true
  was_moved inode there = of safe.old_kept.moved (safe.old_kept.names (disabled_at old) (ready.apart (disabled_at old) can.renamed_old))
    where
      of : (moved : Bool) → get x.names (disabled_at old) ≡ get (names_of u moved) (disabled_at old) → moved ≡ true
      of true is = refl
      of false is = absurd (let none = free in cc (is, none, there))

  pub restored : (effect : Effect) → Does x (Renames (disabled_at old) (control_at old)) effect → AsBefore start u.old_tops (apply x effect)
  restored effect (inode, there, is) =
      let moved = was_moved inode there in
      let as_after : (path : Path) → IsInside u.old_tops path → get x.names path ≡ get (names_of u true) path = λ path inside. safe.old_kept.names path (ready.apart path inside) ∙ ap (λ b. get (names_of u b) path) moved in
      let node : Some (File inode) ≡ get start.names (control_at old) = sym there ∙ as_after (disabled_at old) can.renamed_old ∙ renamed_there u can in
      subst (λ e. AsBefore start u.old_tops (apply x e)) (sym (is ∙ ap (λ n. ChangeNames ((disabled_at old, None) ∷ (control_at old, n) ∷ [])) node))
      (record {
        names = λ path inside. back_again start.names (control_at old) (disabled_at old) (get start.names (control_at old)) refl free x.names path (as_after path inside);
        bytes = λ path number inside at_path. safe.old_kept.bytes number (path, inside, at_path);
      })
