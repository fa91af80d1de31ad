use Rattle.std.proofs.Common.{◌≡◌, ◌++◌, drop}
use Rattle.std.specs.List.{flat_map}
use Rattle.relation_files.specs.Relations.{relations_in}
use Rattle.file_checks.proofs.places.relations_of.Given as goal

abbrev pub invariant-loop-i : goal.invariant-loop-i
invariant-loop-i l = l.relations.items ++ flat_map relations_in (drop l.i l.catalog.databases) ≡ flat_map relations_in l.catalog.databases
