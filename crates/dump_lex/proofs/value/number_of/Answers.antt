use Rattle.std.proofs.Common.{◌+◌, ◌*◌, ◌-◌, get_or, sym, refl, arith}
use Rattle.dump_lex.proofs.Digits.{too_large}
use Rattle.dump_lex.proofs.value.number_of.Goals as goal

pub returns-then-n-gt-LARGEST : goal.returns-then-n-gt-LARGEST
returns-then-n-gt-LARGEST c = sym (too_large c.args.digits.now c.loop-rest.rest.now c.loop-rest.n (10 * c.loop-rest.n + (get_or c.loop-rest.rest.now 0 0 - 48)) (omega arith) refl c.loop-rest.invariant.same (omega arith))
