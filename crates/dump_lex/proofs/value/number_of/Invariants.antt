use Rattle.std.proofs.Common.{◌≡◌, ◌≤◌, length, false}
use Rattle.dump_lex.specs.Value.{value_after, has_leading_zero}
use Rattle.dump_lex.proofs.value.number_of.Given as goal

abbrev pub invariant-loop-rest : goal.invariant-loop-rest
invariant-loop-rest l = record {
  leads : has_leading_zero l.digits ≡ false;
  same : value_after l.n l.rest ≡ value_after 0 l.digits;
  small : l.n ≤ 4294967295;
}

abbrev pub decreases-loop-rest : goal.decreases-loop-rest
decreases-loop-rest l = length l.rest
