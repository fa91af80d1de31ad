use Rattle.std.proofs.Common.{◌≡◌, ◌∙◌, ◌-◌, ◌^◌, ◌==◌, min, length, false, sym, ap, arith}
use Rattle.fs_model.specs.PathText.{text_of, joined}
use Rattle.catalog_checks.proofs.Counting.{text_of_names, names_all}
use Rattle.catalog_checks.proofs.Searching.{at_end}
use Rattle.catalog_checks.proofs.limits.text_length.Goals as goal

pub returns : goal.returns
returns c =
    let names = c.names-names.result.now in
    let some : (length names == 0) ≡ false = sym c.is_empty.ensures ∙ c.if-is_empty.false in
    names_all names c.loop-name.name-index c.loop-name.bytes _ c.loop-name.invariant.fits (at_end names c.loop-name.name-index c.loop-name-test.false) c.loop-name.invariant.counted
    ∙ ap (λ l. min (length l) (2 ^ 64 - 1)) (sym (text_of_names names some) ∙ ap text_of c.names-names.ensures)
