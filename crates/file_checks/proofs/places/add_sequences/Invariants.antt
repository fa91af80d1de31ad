use Rattle.std.proofs.Common.{◌≡◌, ◌++◌, drop, map}
use Rattle.catalog.specs.declared.relations.Sequence.{Sequence}
use Rattle.catalog.specs.Spaces.{sequence_place}
use Rattle.relation_files.specs.Relations.{relation_at}
use Rattle.file_checks.proofs.places.add_sequences.Given as goal

abbrev pub invariant-loop-i : goal.invariant-loop-i
invariant-loop-i l = l.relations.items ++ map (λ (s : Sequence). relation_at l.database (sequence_place s)) (drop l.i l.database.sequences) ≡ l.fn.relations.items ++ map (λ (s : Sequence). relation_at l.database (sequence_place s)) l.database.sequences
