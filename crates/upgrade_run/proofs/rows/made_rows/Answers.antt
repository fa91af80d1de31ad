use Rattle.std.proofs.Common.{◌≡◌, ◌<◌, ◌∙◌, refl, ap, arith}
use Rattle.std.specs.Prelude.{◌%◌}
use Rattle.cluster_gen.specs.Page.{live_rows}
use Rattle.upgrade_run.proofs.Testing.{live_next}
use Rattle.upgrade_run.proofs.rows.made_rows.Goals as goal

pub loop-table-preserved : goal.loop-table-preserved
loop-table-preserved c = record {
  exact = live_next c.loop-table.table c.loop-table.rows _ c.loop-table.invariant.exact refl (omega arith);
  few = (let few = c.loop-table.invariant.few in omega arith);
}

pub returns : goal.returns
returns c =
    let done : c.loop-table.table ≡ c.args.tables = omega arith in
    c.loop-table.invariant.exact ∙ ap live_rows done
