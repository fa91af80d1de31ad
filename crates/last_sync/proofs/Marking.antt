-- The mark, call by call.
use Rattle.std.proofs.Common.{◌≡◌, ◌∙◌, ◌++◌, ◌∷◌, [], ◌-◌, ◌⊎◌, ℕ, suc, List, length, take, Some, None, Result, Ok, Err, OnOk, inl, inr, refl, sym, ap, arith}
use Rattle.std.specs.FinMap.{get}
use Rattle.fs_model.specs.declared.node.Node.TheVariants.{File}
use Rattle.fs_model.specs.declared.error.FsError.{FsError}
use Rattle.fs_model.specs.Names.{Path, parent}
use Rattle.fs_model.specs.State.{FsState, Names}
use Rattle.fs_model.specs.Effects.{apply}
use Rattle.fs_model.specs.Calls.{Creates, SyncsFile, SyncsDir, refusal, blocked, or_else, no_dir, no_file, taken}
use Rattle.fs_model.specs.Crash.{Settled}
use Rattle.fs_model.specs.WellFormed.{WellFormed}
use Rattle.fs_model.specs.Trail.{Trail, Steps, error_of}
use Rattle.fs_model.proofs.Lookups.{set_name_here}
use Rattle.fs_model.proofs.Runs.{present_after}
use Rattle.fs_model.proofs.Ways.{blocked_push, none_first, none_second}
use Rattle.crash_safety.proofs.Settling.{mark_settled, mark_stands}
use Rattle.fs_tools.proofs.Making.{own_way, after_create}
use Rattle.last_sync.specs.Finished.{IsFileAt}

-- by the answer of the last call
pub settled_by : {T : Type 0} (mark dir : Path) → dir ≡ parent mark → (a b c d : Trail) → Steps (Creates mark) None a b → Steps (SyncsFile mark) None b c → (result : Result T FsError) → Steps (SyncsDir dir) (error_of result) c d
    → Settled a.present → WellFormed a.present → OnOk result (Settled d.present)
settled_by mark dir dir_is a b c d creates keeps (Ok value) syncs settled well_formed = mark_settled mark dir dir_is a b c d creates keeps syncs settled well_formed
settled_by mark dir dir_is a b c d creates keeps (Err error) syncs settled well_formed = tt

pub stands_by : {T : Type 0} (mark dir : Path) → dir ≡ parent mark → (a b c d : Trail) → Steps (Creates mark) None a b → Steps (SyncsFile mark) None b c → (result : Result T FsError) → Steps (SyncsDir dir) (error_of result) c d
    → OnOk result (IsFileAt d.present mark)
stands_by mark dir dir_is a b c d creates keeps (Ok value) syncs = mark_stands mark dir dir_is a b c d creates keeps syncs
stands_by mark dir dir_is a b c d creates keeps (Err error) syncs = tt

-- a path that isn't the root is its parent with one name more
last_name : (path : Path) → (path ≡ []) ⊎ ((name : List ℕ) × (path ≡ parent path ++ name ∷ []))
last_name [] = inl refl
last_name (first ∷ rest) = inr (split first rest)
  where
    split : (first : List ℕ) (rest : Path) → (name : List ℕ) × (first ∷ rest ≡ parent (first ∷ rest) ++ name ∷ [])
    split first [] = (first, refl)
    split first (second ∷ rest) =
        let (name, is) = split second rest in
        let one : length (first ∷ second ∷ rest) - 1 ≡ suc (length (second ∷ rest) - 1) = omega arith in
        (name, ap (λ p. first ∷ p) is ∙ sym (ap (λ n. take n (first ∷ second ∷ rest) ++ name ∷ []) one))

module _ (mark : Path) (a b : Trail) (creates : Steps (Creates mark) None a b) where
  -- the way of the mark is as it was
  same_way : blocked b.present.names mark ≡ blocked a.present.names mark
  same_way = let made = after_create mark [] a b creates in ap (λ (s : FsState). blocked s.names mark) made.2 ∙ own_way a.present.names mark (Some (File made.0))

  here : (inode : ℕ) × (get b.present.names mark ≡ Some (File inode))
  here = let made = after_create mark [] a b creates in (made.0, ap (λ (s : FsState). get s.names mark) made.2 ∙ set_name_here a.present.names mark (Some (File made.0)))

  pub file_free : refusal a.present (Creates mark) ≡ None → refusal b.present (SyncsFile mark) ≡ None
  file_free free = (λ i. or_else ((same_way ∙ none_first (blocked a.present.names mark) (taken (get a.present.names mark)) free) i) (no_file (here.1 i)))

  pub dir_free : (c : Trail) → Steps (SyncsFile mark) None b c → WellFormed a.present → refusal a.present (Creates mark) ≡ None → refusal c.present (SyncsDir (parent mark)) ≡ None
  dir_free c keeps formed free = by (last_name mark)
    where
      same_names : c.present.names ≡ b.present.names
      same_names = let (effect, _, (inode, named, is), present) = present_after (SyncsFile mark) b c keeps in ap (λ (s : FsState). s.names) (present ∙ ap (apply b.present) is)

      by : (mark ≡ []) ⊎ ((name : List ℕ) × (mark ≡ parent mark ++ name ∷ [])) → refusal c.present (SyncsDir (parent mark)) ≡ None
      by (inl root) =
          let none : taken (get a.present.names []) ≡ None = ap (λ p. taken (get a.present.names p)) (sym root) ∙ none_second (blocked a.present.names mark) (taken (get a.present.names mark)) free in
          let there = ap taken formed.root in
          absurd (cc (none, there))
      by (inr (name, is)) =
          ap (λ (names : Names). or_else (blocked names (parent mark)) (no_dir (get names (parent mark)))) same_names
          ∙ sym (blocked_push b.present.names (parent mark) name) ∙ ap (blocked b.present.names) (sym is) ∙ same_way
          ∙ none_first (blocked a.present.names mark) (taken (get a.present.names mark)) free

-- whether a name may be created depends on the names alone
pub create_still : (a b : FsState) (path : Path) → b.names ≡ a.names → refusal a (Creates path) ≡ None → refusal b (Creates path) ≡ None
create_still a b path same free = ap (λ (names : Names). or_else (blocked names path) (taken (get names path))) same ∙ free
