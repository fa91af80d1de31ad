use Rattle.std.proofs.Common.{◌∙◌}
use Rattle.upgrade_run.proofs.Testing.{has_rows}
use Rattle.upgrade_run.proofs.rows.rows_read.Goals as goal

pub returns-in-Ok-clause-rows : goal.returns-in-Ok-clause-rows
returns-in-Ok-clause-rows g c told =
    has_rows g.S.Server.catalog_of c.args.root.now (g.F.Fs.trail c.args.fs.now).present (g.F.Fs.trail c.read_catalog.new.fs).present c.in-Ok.catalog c.counted.result (c.read_catalog.ensures.unchanged told).present (c.in-Ok.ensures.catalog told)
    (c.counted.ensures.rows (c.read_catalog.ensures.told ∙ told))
