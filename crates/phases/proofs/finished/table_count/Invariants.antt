use Rattle.std.proofs.Common.{◌≡◌, ◌≤◌, ◌+◌, ◌-◌, ◌^◌, drop}
use Rattle.std.specs.Prelude.{min}
use Rattle.phases.specs.Summing.{tables_in}
use Rattle.phases.proofs.finished.table_count.Given as goal

abbrev pub invariant-loop-i : goal.invariant-loop-i
invariant-loop-i l = record {
  small : l.tables ≤ 2 ^ 64 - 1;
  counted : min (l.tables + tables_in (drop l.i l.catalog.databases)) (2 ^ 64 - 1) ≡ min (tables_in l.catalog.databases) (2 ^ 64 - 1);
}
