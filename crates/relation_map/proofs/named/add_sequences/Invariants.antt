use Rattle.std.proofs.Common.{◌≡◌, ◌++◌, drop, map}
use Rattle.relation_map.specs.Named.{sequence_named}
use Rattle.relation_map.proofs.named.add_sequences.Given as goal

abbrev pub invariant-loop-i : goal.invariant-loop-i
invariant-loop-i l = l.relations.items ++ map sequence_named (drop l.i l.database.sequences) ≡ l.fn.relations.items ++ map sequence_named l.database.sequences
