use Rattle.std.proofs.Common.{◌∙◌, sym}
use Rattle.file_checks.specs.Tablespaces.{overlaps_other}
use Rattle.file_checks.proofs.Locating.{any_here, any_not}
use Rattle.file_checks.proofs.tablespaces.overlaps_any.Goals as goal

pub returns-then-overlaps_placed : goal.returns-then-overlaps_placed
returns-then-overlaps_placed c = sym (any_here (overlaps_other c.args.tablespace.now) c.args.catalog.now.tablespaces c.loop-i.i c.in-Some.other.now (sym c.in-Some.ensures) (sym c.overlaps_placed.ensures ∙ c.if-overlaps_placed.true))

pub loop-i-preserved : goal.loop-i-preserved
loop-i-preserved c = any_not (overlaps_other c.args.tablespace.now) c.args.catalog.now.tablespaces c.loop-i.i c.in-Some.other.now (sym c.in-Some.ensures) (sym c.overlaps_placed.ensures ∙ c.if-overlaps_placed.false) c.loop-i.invariant
