use Rattle.std.proofs.Common.{◌≡◌, ◌++◌, drop, map}
use Rattle.catalog_server.specs.ReplayNames.{sequence_relation}
use Rattle.server_profile.proofs.relations.add_sequences.Given as goal

abbrev pub invariant-loop-i : goal.invariant-loop-i
invariant-loop-i l = l.relations.items ++ map sequence_relation (drop l.i l.database.sequences) ≡ l.fn.relations.items ++ map sequence_relation l.database.sequences
