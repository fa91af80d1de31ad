use Rattle.std.proofs.Common.{◌≡◌, drop}
use Rattle.std.specs.Ordering.{nat_cmp}
use Rattle.std.specs.FinMap as map
use Rattle.fs_state.proofs.image.named_bytes.Given as goal

abbrev pub invariant-loop-other : goal.invariant-loop-other
invariant-loop-other l = map.find nat_cmp l.inode (drop l.other-index l.named) ≡ map.find nat_cmp l.inode l.named
