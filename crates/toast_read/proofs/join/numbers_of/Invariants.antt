use Rattle.toast_read.specs.Places.{TellsFirst}
use Rattle.toast_read.proofs.join.numbers_of.Given as goal

abbrev pub invariant-loop-place : goal.invariant-loop-place
invariant-loop-place l = TellsFirst l.parts l.place l.numbers
