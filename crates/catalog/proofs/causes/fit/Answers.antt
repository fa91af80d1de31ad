use Rattle.std.proofs.Common.{◌≡◌, true, ◌<◌, ◌^◌, get_or, ◌∙◌, arith, rules}
use Rattle.std.proofs.lemmas.List.Folds.{list_all_more}
use Rattle.catalog.specs.Forms.{is_32_bits}
use Rattle.catalog.proofs.ListLemmas.{and_both}
use Rattle.catalog.proofs.causes.fit.Goals as goal

pub loop-number-preserved : goal.loop-number-preserved
loop-number-preserved c =
    let fits = c.type_inv.numbers c.loop-number.number-index in
    let below : get_or c.args.numbers.now c.loop-number.number-index 0 < 2 ^ 32 = omega (arith, fits) in
    let test : is_32_bits (get_or c.args.numbers.now c.loop-number.number-index 0) ≡ true = search rules in
    list_all_more is_32_bits c.args.numbers.now c.loop-number.number-index 0 c.loop-number-test.true ∙ and_both _ _ c.loop-number.invariant test
