use Rattle.std.proofs.Common.{◌≡◌, ◌+◌, length, false}
use Rattle.dump_lex.specs.Bytes.{blanks}
use Rattle.dump_lex.proofs.bytes.blank_len.Given as goal

abbrev pub invariant-loop-len : goal.invariant-loop-len
invariant-loop-len l = record {
  blank : l.n + blanks false l.rest ≡ blanks false l.bytes;
  all : l.n + length l.rest ≡ length l.bytes;
}

abbrev pub decreases-loop-len : goal.decreases-loop-len
decreases-loop-len l = length l.rest
