use Rattle.std.proofs.Common.{◌≢◌, ◌<◌, ℕ}
use Rattle.std.specs.Fmt.{decimal}
use Rattle.command_words.proofs.selftest.tables_in.Given as goal

abbrev pub invariant-loop-n : goal.invariant-loop-n
invariant-loop-n l = record { others : (m : ℕ) → m < l.n → l.word ≢ decimal m }
