use Rattle.toast_read.proofs.Noting.{first_more}
use Rattle.toast_read.proofs.join.numbers_of.Goals as goal

pub loop-place-preserved : goal.loop-place-preserved
loop-place-preserved c =
    first_more c.args.parts.now c.loop-place.place c.index-parts-place.result c.loop-place.numbers c.note.new.numbers c.loop-place-test.true c.index-parts-place.is c.loop-place.invariant (λ q. c.in_ok-note.ensures.places q) (λ q. c.in_ok-note.ensures.twice q)
