use Rattle.std.proofs.Common.{refl, sym, arith}
use Rattle.catalog.specs.Spaces.{table_oids}
use Rattle.catalog_checks.proofs.Counting.{counted_more, counted_all}
use Rattle.catalog_checks.proofs.Searching.{at_end}
use Rattle.catalog_checks.proofs.limits.relations_in_tables.Goals as goal

pub loop-i-preserved : goal.loop-i-preserved
loop-i-preserved c = record {
  fits = omega arith;
  counted =
      counted_more table_oids c.args.database.now.tables c.loop-i.i c.in-Some.table.now c.loop-i.relations c.table_relations.result c.saturating_add-relations.result _ (sym c.in-Some.ensures) (omega arith) (omega arith) c.loop-i.invariant.counted;
}

pub returns : goal.returns
returns c = counted_all table_oids c.args.database.now.tables c.loop-i.i c.loop-i.relations _ c.loop-i.invariant.fits (at_end c.args.database.now.tables c.loop-i.i (omega arith)) c.loop-i.invariant.counted
