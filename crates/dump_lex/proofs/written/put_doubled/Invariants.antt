use Rattle.std.proofs.Common.{◌≡◌, ◌++◌, length}
use Rattle.dump_lex.specs.Enclosed.{doubled}
use Rattle.dump_lex.proofs.written.put_doubled.Given as goal

abbrev pub invariant-loop-rest : goal.invariant-loop-rest
invariant-loop-rest l = l.out.items ++ doubled l.delimiter l.rest ≡ l.fn.out.items ++ doubled l.delimiter l.text

abbrev pub decreases-loop-rest : goal.decreases-loop-rest
decreases-loop-rest l = length l.rest
