use Rattle.std.proofs.Common.{◌≡◌, ◌+◌, ◌≤◌, length}
use Rattle.dump_lex.specs.Enclosed.{closing}
use Rattle.dump_lex.proofs.Enclosing.{further}
use Rattle.dump_lex.proofs.enclosed.closing.Given as goal

abbrev pub invariant-parts : goal.invariant-parts
invariant-parts l = record {
  same : further l.text_len l.len (closing l.delimiter l.rest) ≡ further 0 0 (closing l.delimiter l.bytes);
  all : l.len + length l.rest ≡ length l.bytes;
  fewer : l.text_len ≤ l.len;
}

abbrev pub decreases-parts : goal.decreases-parts
decreases-parts l = length l.rest
