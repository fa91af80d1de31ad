use Rattle.std.proofs.Common.{◌≡◌, ◌++◌, drop}
use Rattle.std.specs.List.{flat_map}
use Rattle.cluster_gen.specs.Numbers.{four_bytes}
use Rattle.cluster_gen.proofs.numbers.put_u32s.Given as goal

abbrev pub invariant-loop-number : goal.invariant-loop-number
invariant-loop-number l = l.out.items ++ flat_map four_bytes (drop l.number-index l.numbers) ≡ l.fn.out.items ++ flat_map four_bytes l.numbers
