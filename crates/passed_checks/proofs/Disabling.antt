-- The old cluster's control file can be renamed.
use Rattle.std.proofs.Common.{◌≡◌, ℕ, Bool, true, false, not, ◌||◌, if◌then◌else◌, List, [], ◌∷◌, ◌++◌, Option, Some, None, refl, sym, ◌∙◌, ap, append_assoc}
use Rattle.std.specs.Prelude.{codes, is_some}
use Rattle.std.specs.FinMap.{get}
use Rattle.fs_model.specs.declared.node.Node.TheVariants.{Dir, File}
use Rattle.fs_model.specs.declared.error.FsError.TheVariants.{CrossDir}
use Rattle.fs_model.specs.Names.{Path, same_path, parent}
use Rattle.fs_model.specs.PathLaws.{same_path_refl}
use Rattle.fs_model.specs.State.{FsState}
use Rattle.fs_model.specs.Calls.{Renames, refusal, blocked, or_else, no_dir, no_file, taken, refuse_if, crosses, is_root}
use Rattle.fs_model.specs.WellFormed.{WellFormed}
use Rattle.fs_model.proofs.Ways.{none_second, no_dir_none, blocked_push, free_below}
use Rattle.fs_tools.specs.Children.{child_of}
use Rattle.fs_tools.proofs.Naming.{parent_child}
use Rattle.crash_safety.specs.Places.{control_at, disabled_at}

two : (p : Path) (x y : List ℕ) → (p ++ x ∷ []) ++ y ∷ [] ≡ p ++ x ∷ y ∷ []
two p x y = append_assoc p (x ∷ []) (y ∷ [])

no_root : (p : Path) (x : List ℕ) (q : Path) → is_root (p ++ x ∷ q) ≡ false
no_root [] x q = refl
no_root (y ∷ p) x q = refl

module _ (s : FsState) (well : WellFormed s) (old : Path) (inode : ℕ) (stands : get s.names (control_at old) ≡ Some (File inode)) where
  global_dir : get s.names (old ++ codes "global" ∷ []) ≡ Some Dir
  global_dir =
      let dir = old ++ codes "global" ∷ [] in
      let way : blocked s.names (dir ++ codes "pg_control" ∷ []) ≡ None = ap (blocked s.names) (two old (codes "global") (codes "pg_control")) ∙ well.tree (control_at old) (ap is_some stands) in
      no_dir_none (get s.names dir) (none_second (blocked s.names dir) (no_dir (get s.names dir)) (sym (blocked_push s.names dir (codes "pg_control")) ∙ way))

  other_way : blocked s.names (disabled_at old) ≡ None
  other_way = ap (blocked s.names) (sym (two old (codes "global") (codes "pg_control.old"))) ∙ free_below s.names well.tree (old ++ codes "global" ∷ []) (codes "pg_control.old") global_dir

  parent_is : (name : List ℕ) → parent (old ++ codes "global" ∷ name ∷ []) ≡ old ++ codes "global" ∷ []
  parent_is name = ap parent (sym (two old (codes "global") name)) ∙ parent_child (old ++ codes "global" ∷ []) name

  one_dir : crosses (control_at old) (disabled_at old) ≡ false
  one_dir =
      let same : same_path (parent (control_at old)) (parent (disabled_at old)) ≡ true =
      (λ i. same_path (parent_is (codes "pg_control") i) (parent_is (codes "pg_control.old") i)) ∙ same_path_refl (old ++ codes "global" ∷ []) in
      (λ i. no_root old (codes "global") (codes "pg_control" ∷ []) i || (no_root old (codes "global") (codes "pg_control.old" ∷ []) i || not (same i)))

  pub can_rename : get s.names (disabled_at old) ≡ None → refusal s (Renames (control_at old) (disabled_at old)) ≡ None
  can_rename free =
      (λ i. or_else (well.tree (control_at old) (ap is_some stands) i) (or_else (other_way i) (or_else (refuse_if (one_dir i) CrossDir) (or_else (no_file (stands i)) (taken (free i))))))
