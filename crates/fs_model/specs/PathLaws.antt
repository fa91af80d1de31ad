-- Paths are totally ordered, and only equal paths tie.
use Rattle.std.specs.Prelude.{◌≡◌, true}
use Rattle.std.proofs.Common.{ap}
use Rattle.std.specs.Ordering.{is_eq}
use Rattle.std.specs.Cmp.{tied_itself, Equal-is}
use Rattle.std.specs.Cmp.{IsTotalOrder, nat_cmp_total}
use Rattle.std.specs.Cmp.Lexicographic.{lists_total}
use Rattle.std.specs.FinMap.{IsAntisymmetric, nat_cmp-IsAntisymmetric, slice_cmp-IsAntisymmetric}
use Rattle.fs_model.specs.Names.{Path, path_cmp, same_path}

pub path_total : IsTotalOrder path_cmp
path_total = lists_total (lists_total nat_cmp_total)

pub path_exact : IsAntisymmetric path_cmp
path_exact = slice_cmp-IsAntisymmetric (slice_cmp-IsAntisymmetric nat_cmp-IsAntisymmetric)

pub same_path_true : (p q : Path) → same_path p q ≡ true → p ≡ q
same_path_true p q same = path_exact p q ((Equal-is (path_cmp p q)).0 same)

pub same_path_refl : (p : Path) → same_path p p ≡ true
same_path_refl p = ap is_eq (tied_itself path_total p)
