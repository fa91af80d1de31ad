use Rattle.std.proofs.Common.{◌≡◌, true, take}
use Rattle.std.specs.List.{list_all}
use Rattle.catalog.specs.Forms.{is_32_bits}
use Rattle.catalog.proofs.causes.fit.Given as goal

abbrev pub invariant-loop-number : goal.invariant-loop-number
invariant-loop-number l = list_all is_32_bits (take l.number-index l.numbers) ≡ true
