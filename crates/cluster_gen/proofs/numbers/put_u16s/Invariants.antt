use Rattle.std.proofs.Common.{◌≡◌, ◌++◌, drop}
use Rattle.std.specs.List.{flat_map}
use Rattle.cluster_gen.specs.Numbers.{two_bytes}
use Rattle.cluster_gen.proofs.numbers.put_u16s.Given as goal

abbrev pub invariant-loop-number : goal.invariant-loop-number
invariant-loop-number l = l.out.items ++ flat_map two_bytes (drop l.number-index l.numbers) ≡ l.fn.out.items ++ flat_map two_bytes l.numbers
