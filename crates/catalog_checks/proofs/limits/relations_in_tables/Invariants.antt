use Rattle.std.proofs.Common.{◌≡◌, ◌+◌, ◌-◌, ◌^◌, ◌≤◌, min, length, drop, flat_map}
use Rattle.catalog.specs.Spaces.{table_oids}
use Rattle.catalog_checks.proofs.limits.relations_in_tables.Given as goal

abbrev pub invariant-loop-i : goal.invariant-loop-i
invariant-loop-i l = record {
  fits : l.relations ≤ 2 ^ 64 - 1;
  counted : min (l.relations + length (flat_map table_oids (drop l.i l.database.tables))) (2 ^ 64 - 1) ≡ min (length (flat_map table_oids l.database.tables)) (2 ^ 64 - 1);
}
