use Rattle.std.proofs.Common.{sym}
use Rattle.dump_grammar.specs.Canonical.{index_statements}
use Rattle.dump_print.proofs.Appends.{going}
use Rattle.dump_print.proofs.contents.put_indexes.Goals as goal

pub loop-i-preserved : goal.loop-i-preserved
loop-i-preserved c =
    going (index_statements c.args.catalog.now.tablespaces c.args.database.now.tables) c.args.database.now.indexes c.loop-i.i c.in-Some.index.now c.loop-i.out.items c.put_index.new.out.items _ (sym c.in-Some.ensures) c.in_ok-put_index-in-Some.ensures c.loop-i.invariant
