use Rattle.std.proofs.Common.{◌≡◌, ◌+◌, ◌-◌, ◌^◌, ◌≤◌, min, length, drop}
use Rattle.fs_model.specs.PathText.{joined}
use Rattle.catalog_checks.proofs.limits.text_length.Given as goal

abbrev pub invariant-loop-name : goal.invariant-loop-name
invariant-loop-name l = record {
  fits : l.bytes ≤ 2 ^ 64 - 1;
  counted : min (l.bytes + length (joined (drop l.name-index l.names))) (2 ^ 64 - 1) ≡ min (length (joined l.names)) (2 ^ 64 - 1);
}
