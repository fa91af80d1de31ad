use Rattle.std.proofs.Common.{◌∙◌}
use Rattle.std.specs.Prelude.{nat_eq}
use Rattle.object_places.proofs.KeyLemmas.{none_before}
use Rattle.object_places.proofs.number_places.NumberPlaces.put_each.Goals as goal

pub returns-in_err-put-clause-others : goal.returns-in_err-put-clause-others
returns-in_err-put-clause-others c = λ q h.
    let n = none_before (nat_eq q) c.args.numbers.now c.loop-number.number-index 0 c.loop-number-test.true h in
    c.in_err-put.ensures.others q n.1 ∙ c.loop-number.invariant.others q n.0
