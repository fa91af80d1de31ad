use Rattle.std.proofs.Common.{◌≡◌, [], length, drop}
use Rattle.dump_lex.specs.Enclosed.{closing}
use Rattle.dump_lex.proofs.Enclosing.{gathered}
use Rattle.dump_lex.proofs.enclosed.enclosed_text.Given as goal

abbrev pub invariant-parts : goal.invariant-parts
invariant-parts l = gathered l.text.items (closing l.delimiter l.rest) ≡ gathered [] (closing l.delimiter (drop 1 l.fn.token))

abbrev pub decreases-parts : goal.decreases-parts
decreases-parts l = length l.rest
