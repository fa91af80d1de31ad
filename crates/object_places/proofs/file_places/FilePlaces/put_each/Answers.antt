use Rattle.std.proofs.Common.{◌∙◌}
use Rattle.std.specs.Prelude.{nat_eq}
use Rattle.object_places.proofs.KeyLemmas.{no_file_before}
use Rattle.object_places.proofs.file_places.FilePlaces.put_each.Goals as goal

pub returns-in_err-put-clause-others : goal.returns-in_err-put-clause-others
returns-in_err-put-clause-others c = λ t q h.
    let n = no_file_before (nat_eq t c.args.tablespace) (nat_eq q) c.args.numbers.now c.loop-number.number-index c.loop-number-test.true h in
    c.in_err-put.ensures.others t q n.1 ∙ c.loop-number.invariant.others t q n.0
