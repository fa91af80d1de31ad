use Rattle.std.proofs.Common.{◌≡◌, ◌++◌, length}
use Rattle.dump_lex.specs.Value.{bytes_in}
use Rattle.dump_lex.proofs.value.bytes_in.Given as goal

abbrev pub invariant-loop-rest : goal.invariant-loop-rest
invariant-loop-rest l = l.bytes.items ++ bytes_in l.rest ≡ bytes_in l.digits

abbrev pub decreases-loop-rest : goal.decreases-loop-rest
decreases-loop-rest l = length l.rest
