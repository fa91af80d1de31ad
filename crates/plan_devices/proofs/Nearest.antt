-- The nearest directory on the way to a path.
use Rattle.std.proofs.Common.{ℕ, ◌≡◌, ◌≢◌, ◌∙◌, ◌⊎◌, inl, inr, [], ◌∷◌, ◌++◌, List, Option, Some, None, refl, sym, ap, subst, append_assoc, append-nil}
use Rattle.std.specs.FinMap.{get}
use Rattle.fs_model.specs.declared.node.Node.{Node}
use Rattle.fs_model.specs.declared.node.Node.TheVariants.{Dir, File, Sym}
use Rattle.fs_model.specs.Names.{Path, IsUnder}
use Rattle.fs_model.specs.State.{Names}
use Rattle.crash_safety.proofs.Needing.{below_stands, parent_of}
use Rattle.phase_facts.specs.CanUpgrade.{IsNearestDir}

-- a directory is the nearest of itself
pub itself : (names : Names) (dir : Path) → get names dir ≡ Some Dir → IsNearestDir names dir dir
itself names dir there = record {
  on_way = ([], sym (append-nil dir));
  stands = there;
  nearest = λ other under stands. under;
}

-- where nothing else stands on the way to a name in a directory, the nearest of the directory is that of the name
further : (names : Names) (dir near : Path) (name : List ℕ) → get names (dir ++ name ∷ []) ≢ Some Dir → IsNearestDir names dir near → IsNearestDir names (dir ++ name ∷ []) near
further names dir near name other is = record {
  on_way = let (rest, whole) = is.on_way in (rest ++ name ∷ [], ap (λ (p : Path). p ++ name ∷ []) whole ∙ append_assoc near rest (name ∷ []));
  stands = is.stands;
  nearest = λ above under stands. is.nearest above (above_it above stands under) stands;
}
  where
    above_it : (above : Path) → get names above ≡ Some Dir → IsUnder above (dir ++ name ∷ []) → IsUnder above dir
    above_it above stands ([], whole) = absurd (other (ap (get names) (whole ∙ append-nil above) ∙ stands))
    above_it above stands (first ∷ rest, whole) = subst (IsUnder above) (parent_of dir name) (below_stands above (dir ++ name ∷ []) first rest whole).0

is_dir_or_not : (node : Option Node) → (node ≡ Some Dir) ⊎ (node ≢ Some Dir)
is_dir_or_not None = inr (λ e. cc e)
is_dir_or_not (Some Dir) = inl refl
is_dir_or_not (Some (File inode)) = inr (λ e. cc e)
is_dir_or_not (Some (Sym target)) = inr (λ e. cc e)

abbrev HasNearest : Names → Path → Type 0
HasNearest names path = (near : Path) × IsNearestDir names path near

one_further : (names : Names) (dir : Path) (name : List ℕ) → HasNearest names dir → HasNearest names (dir ++ name ∷ [])
one_further names dir name (near, is) = elim (is_dir_or_not (get names (dir ++ name ∷ []))) [
  | inl there ↦ (dir ++ name ∷ [], itself names (dir ++ name ∷ []) there)
  | inr other ↦ (near, further names dir near name other is)
]

all_further : (names : Names) (dir rest : Path) → HasNearest names dir → HasNearest names (dir ++ rest)
all_further names dir [] has = subst (HasNearest names) (sym (append-nil dir)) has
all_further names dir (name ∷ rest) has = subst (HasNearest names) (append_assoc dir (name ∷ []) rest) (all_further names (dir ++ name ∷ []) rest (one_further names dir name has))

-- each path has one, where the root is a directory
pub has_nearest : (names : Names) (path : Path) → get names [] ≡ Some Dir → (near : Path) × IsNearestDir names path near
has_nearest names path root = all_further names [] path ([], itself names [] root)
