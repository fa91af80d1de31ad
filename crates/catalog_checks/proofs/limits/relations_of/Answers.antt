use Rattle.std.proofs.Common.{refl, sym, arith}
use Rattle.catalog.specs.Spaces.{relation_oids}
use Rattle.catalog_checks.proofs.Counting.{counted_more, counted_all}
use Rattle.catalog_checks.proofs.Searching.{at_end}
use Rattle.catalog_checks.proofs.limits.relations_of.Goals as goal

pub loop-i-preserved : goal.loop-i-preserved
loop-i-preserved c = record {
  fits = omega arith;
  counted =
      counted_more relation_oids c.args.catalog.now.databases c.loop-i.i c.in-Some.database.now c.loop-i.relations c.relations_in.result c.saturating_add-relations.result _ (sym c.in-Some.ensures) (omega arith) (omega arith) c.loop-i.invariant.counted;
}

pub returns : goal.returns
returns c = counted_all relation_oids c.args.catalog.now.databases c.loop-i.i c.loop-i.relations _ c.loop-i.invariant.fits (at_end c.args.catalog.now.databases c.loop-i.i (omega arith)) c.loop-i.invariant.counted
