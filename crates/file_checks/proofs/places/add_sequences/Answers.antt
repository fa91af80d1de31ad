use Rattle.std.proofs.Common.{sym}
use Rattle.catalog.specs.declared.relations.Sequence.{Sequence}
use Rattle.catalog.specs.Spaces.{sequence_place}
use Rattle.relation_files.specs.Relations.{relation_at}
use Rattle.file_checks.proofs.Lists.{adding_one}
use Rattle.file_checks.proofs.places.add_sequences.Goals as goal

pub loop-i-preserved : goal.loop-i-preserved
loop-i-preserved c =
    adding_one (λ (s : Sequence). relation_at c.args.database.now (sequence_place s)) c.args.database.now.sequences c.loop-i.i c.in-Some.sequence.now c.loop-i.relations.items c.add_relation.new.relations.items _ (sym c.in-Some.ensures) c.in_ok-add_relation-in-Some.ensures c.loop-i.invariant
