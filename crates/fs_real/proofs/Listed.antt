-- A list of names in ascending order, each once, has the names of the list that it was made from.
use Rattle.std.proofs.Common.{◌≡◌, ◌↔◌, ℕ, List, true, subst, sym}
use Rattle.std.specs.List.{Contains, dedup}
use Rattle.std.specs.List.Sorted.{IsPermutation}
use Rattle.std.specs.Ordering.{nat_cmp, eq_by_cmp}
use Rattle.std.specs.Cmp.Lexicographic.{slice_cmp}
use Rattle.std.specs.Cmp.{Equal-is}
use Rattle.std.specs.FinMap.{nat_cmp-IsAntisymmetric, slice_cmp-IsAntisymmetric}
use Rattle.std.proofs.lemmas.Cmp.{nat_list_cmp_total, eq_by_cmp_equiv}
use Rattle.std.proofs.lemmas.List.Kept.{Contains-dedup, Contains-from_dedup}
use Rattle.std.proofs.lemmas.List.Sorted.{Contains-permutation, IsPermutation-sym}

same_name : (a b : List ℕ) → eq_by_cmp (slice_cmp nat_cmp) a b ≡ true → a ≡ b
same_name a b same = slice_cmp-IsAntisymmetric nat_cmp-IsAntisymmetric a b ((Equal-is (slice_cmp nat_cmp a b)).0 same)

pub same_names : (given ordered names : List (List ℕ)) → IsPermutation given ordered → names ≡ dedup (eq_by_cmp (slice_cmp nat_cmp)) ordered → (name : List ℕ) → Contains names name ↔ Contains given name
same_names given ordered names moved once name = (
  λ there. Contains-permutation ordered given name (IsPermutation-sym given ordered moved) (Contains-from_dedup (eq_by_cmp (slice_cmp nat_cmp)) ordered name (subst (λ x. Contains x name) once there)),
  λ there. subst (λ x. Contains x name) (sym once) (Contains-dedup (eq_by_cmp_equiv nat_list_cmp_total) same_name ordered name (Contains-permutation given ordered name moved there)),
)
