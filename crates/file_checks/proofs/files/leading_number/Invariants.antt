use Rattle.std.proofs.Common.{◌≡◌, true, take}
use Rattle.std.specs.Prelude.{string_bytes}
use Rattle.std.specs.List.{list_all}
use Rattle.tree_checks.specs.NewDirs.{is_digit}
use Rattle.file_checks.proofs.files.leading_number.Given as goal

abbrev pub invariant-loop-byte : goal.invariant-loop-byte
invariant-loop-byte l = record {
  taken : string_bytes l.number ≡ take l.byte-index l.name;
  digits : list_all is_digit (take l.byte-index l.name) ≡ true;
}
