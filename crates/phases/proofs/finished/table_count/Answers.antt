use Rattle.std.proofs.Common.{◌∙◌, ◌+◌, ◌-◌, ◌^◌, sym, ap, arith}
use Rattle.std.specs.Prelude.{min}
use Rattle.phases.proofs.Summing.{adding_tables, all_tables}
use Rattle.phases.proofs.finished.table_count.Goals as goal

pub loop-i-preserved : goal.loop-i-preserved
loop-i-preserved c = record {
  small = (let s = c.saturating_add-tables.ensures in omega arith);
  counted = adding_tables c.args.catalog.now.databases c.loop-i.i c.in-Some.database.now c.loop-i.tables c.saturating_add-tables.result _ (2 ^ 64 - 1) (sym c.in-Some.ensures) (c.saturating_add-tables.ensures ∙ ap (λ n. min (c.loop-i.tables + n) (2 ^ 64 - 1)) c.table_count.ensures) c.loop-i.invariant.counted;
}

pub returns : goal.returns
returns c = all_tables c.args.catalog.now.databases c.loop-i.i c.loop-i.tables (2 ^ 64 - 1) (let t = c.loop-i-test.false in let n = c.database_count-count.ensures in omega arith) c.loop-i.invariant.small c.loop-i.invariant.counted
