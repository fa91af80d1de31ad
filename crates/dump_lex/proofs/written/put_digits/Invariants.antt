use Rattle.std.proofs.Common.{◌≡◌, ◌++◌, length}
use Rattle.dump_lex.specs.Written.{hex_of}
use Rattle.dump_lex.proofs.written.put_digits.Given as goal

abbrev pub invariant-loop-rest : goal.invariant-loop-rest
invariant-loop-rest l = l.out.items ++ hex_of l.rest ≡ l.fn.out.items ++ hex_of l.bytes

abbrev pub decreases-loop-rest : goal.decreases-loop-rest
decreases-loop-rest l = length l.rest
