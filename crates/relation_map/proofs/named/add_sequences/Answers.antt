use Rattle.std.proofs.Common.{sym}
use Rattle.relation_map.specs.Named.{sequence_named}
use Rattle.relation_map.proofs.Lists.{adding_one}
use Rattle.relation_map.proofs.named.add_sequences.Goals as goal

pub loop-i-preserved : goal.loop-i-preserved
loop-i-preserved c =
    adding_one sequence_named c.args.database.now.sequences c.loop-i.i c.in-Some.sequence.now c.loop-i.relations.items c.add_named.new.relations.items _ (sym c.in-Some.ensures) c.in_ok-add_named-in-Some.ensures c.loop-i.invariant
