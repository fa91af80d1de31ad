use Rattle.std.proofs.Common.{◌≡◌, ◌+◌, ◌-◌, ◌^◌, ◌≤◌, min, length, drop, flat_map}
use Rattle.catalog.specs.Spaces.{relation_oids}
use Rattle.catalog_checks.proofs.limits.relations_of.Given as goal

abbrev pub invariant-loop-i : goal.invariant-loop-i
invariant-loop-i l = record {
  fits : l.relations ≤ 2 ^ 64 - 1;
  counted : min (l.relations + length (flat_map relation_oids (drop l.i l.catalog.databases))) (2 ^ 64 - 1) ≡ min (length (flat_map relation_oids l.catalog.databases)) (2 ^ 64 - 1);
}
