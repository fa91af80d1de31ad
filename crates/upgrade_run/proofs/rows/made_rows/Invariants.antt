use Rattle.std.proofs.Common.{◌≡◌, ◌≤◌, ◌*◌}
use Rattle.cluster_gen.specs.Page.{live_rows}
use Rattle.upgrade_run.proofs.rows.made_rows.Given as goal

abbrev pub invariant-loop-table : goal.invariant-loop-table
invariant-loop-table l = record { exact : l.rows ≡ live_rows l.table; few : l.rows ≤ 7 * l.table }
