-- What is in the way in one directory more, and in all.
use Rattle.std.proofs.Common.{◌≡◌, ◌⊎◌, inl, inr, List, [], ◌∷◌, ◌++◌, Option, refl, sym, subst}
use Rattle.fs_model.specs.Names.{Path}
use Rattle.fs_model.specs.State.{Names}
use Rattle.fs_tools.specs.Walked.{IsAmong}
use Rattle.fs_tools.proofs.Walking.{among_left, among_right}
use Rattle.tree_checks.specs.declared.new_dirs.NewDir.{NewDir}
use Rattle.tree_checks.specs.declared.new_dirs.NewDir.TheVariants.{Base, Template1, Template0, Postgres, Links, Profile}
use Rattle.tree_checks.specs.Findings.{IsLeast, lesser}
use Rattle.tree_checks.specs.NewDirs.{IsNameIn, IsUsed, IsUsedIn, new_dir, new_dirs, is_in_way}
use Rattle.tree_checks.proofs.Leasts.{least_by, lesser_least}

among_push : (front : List NewDir) (last dir : NewDir) → IsAmong (front ++ last ∷ []) dir → IsAmong front dir ⊎ (last ≡ dir)
among_push [] last dir (inl same) = inr same
among_push [] last dir (inr none) = absurd none
among_push (x ∷ front) last dir (inl same) = inl (inl same)
among_push (x ∷ front) last dir (inr among) = elim (among_push front last dir among) [ inl here ↦ inl (inr here) | inr same ↦ inr same ]

pub used_next : (names : Names) (root : Path) (front dirs : List NewDir) (dir : NewDir) (least found : Option Path) → dirs ≡ front ++ dir ∷ [] → IsLeast (IsUsedIn names root front) least → IsLeast (IsNameIn names (new_dir root dir) (is_in_way dir)) found
    → IsLeast (IsUsedIn names root dirs) (lesser least found)
used_next names root front dirs dir least found is so_far next =
    subst (λ l. IsLeast (IsUsedIn names root l) (lesser least found)) (sym is)
    (least_by (λ p. IsUsedIn names root front p ⊎ IsNameIn names (new_dir root dir) (is_in_way dir) p) (IsUsedIn names root (front ++ dir ∷ [])) (lesser least found)
    (λ p has. elim has [ inl used ↦ (used.0, among_left front (dir ∷ []) used.0 used.1, used.2) | inr here ↦ (dir, among_right front (dir ∷ []) dir (inl refl), here) ])
    (λ p used. elim (among_push front dir used.0 used.1) [ inl before ↦ inl (used.0, before, used.2) | inr same ↦ inr (subst (λ d. IsNameIn names (new_dir root d) (is_in_way d) p) (sym same) used.2) ])
    (lesser_least (IsUsedIn names root front) (IsNameIn names (new_dir root dir) (is_in_way dir)) least found so_far next))

all_dirs : (dir : NewDir) → IsAmong new_dirs dir
all_dirs Base = inl refl
all_dirs Template1 = inr (inl refl)
all_dirs Template0 = inr (inr (inl refl))
all_dirs Postgres = inr (inr (inr (inl refl)))
all_dirs Links = inr (inr (inr (inr (inl refl))))
all_dirs Profile = inr (inr (inr (inr (inr (inl refl)))))

pub used_all : (names : Names) (root : Path) (dirs : List NewDir) (least : Option Path) → dirs ≡ new_dirs → IsLeast (IsUsedIn names root dirs) least → IsLeast (IsUsed names root) least
used_all names root dirs least is so_far =
    least_by (IsUsedIn names root dirs) (IsUsed names root) least (λ p used. (used.0, used.2)) (λ p used. (used.0, subst (λ l. IsAmong l used.0) (sym is) (all_dirs used.0), used.1)) so_far
