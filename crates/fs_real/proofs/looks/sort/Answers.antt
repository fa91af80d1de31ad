use Rattle.std.proofs.Common.{subst, sym, refl}
use Rattle.std.specs.List.Sorted.{IsStrictlySortedBy}
use Rattle.std.specs.Ordering.{nat_cmp, eq_by_cmp}
use Rattle.std.specs.Cmp.Lexicographic.{slice_cmp}
use Rattle.std.proofs.lemmas.Cmp.{nat_list_cmp_total}
use Rattle.std.proofs.lemmas.List.Filters.{dedup_is}
use Rattle.std.proofs.lemmas.List.Kept.{IsStrictlySortedBy-dedup}
use Rattle.fs_real.proofs.Listed.{same_names}
use Rattle.fs_real.proofs.looks.sort.Goals as goal

pub returns-clause-ascending : goal.returns-clause-ascending
returns-clause-ascending c = subst (IsStrictlySortedBy (slice_cmp nat_cmp)) (sym (dedup_is (eq_by_cmp (slice_cmp nat_cmp)) _ _ c.dedup.ensures.filtered)) (IsStrictlySortedBy-dedup nat_list_cmp_total (λ x y. refl) _ c.sort_unstable.ensures.sorted)

pub returns-clause-same : goal.returns-clause-same
returns-clause-same c = same_names _ _ _ c.sort_unstable.ensures.permutation (dedup_is (eq_by_cmp (slice_cmp nat_cmp)) _ _ c.dedup.ensures.filtered)
