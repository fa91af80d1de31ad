use Rattle.std.proofs.Common.{rules}
use Rattle.std.proofs.lemmas.Fn.{dedup_same}
use Rattle.shared_inodes.proofs.Covering.{goes, covered}
use Rattle.shared_inodes.proofs.outermost.keep_outermost.Goals as goal

pub returns : goal.returns
returns c = covered _ _ _ c.sort_unstable.ensures.permutation c.sort_unstable.ensures.sorted (dedup_same _ goes _ (λ x y b f' x' y' k. search rules) _ _ c.dedup_by.ensures.filtered)
