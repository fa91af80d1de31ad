use Rattle.std.proofs.Common.{◌≡◌, ◌++◌}
use Rattle.cluster_gen.specs.Numbers.{zeros}
use Rattle.cluster_gen.proofs.numbers.put_zeros.Given as goal

abbrev pub invariant-loop : goal.invariant-loop
invariant-loop l = l.out.items ≡ l.fn.out.items ++ zeros l.counter
