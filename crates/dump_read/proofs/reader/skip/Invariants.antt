use Rattle.std.proofs.Common.{◌≡◌, ◌<◌, ◌≤◌, ◌+◌, ℕ, suc, List, length}
use Rattle.dump_lex.specs.Place.{PlacedToken, rest_of}
use Rattle.dump_read.specs.Ahead.{first_line}
use Rattle.dump_read.specs.Reading.{gather, with_tokens}
use Rattle.dump_read.proofs.reader.skip.Given as goal

-- so many tokens were passed, and with those that follow they are the statement's
abbrev pub invariant-tokens : goal.invariant-tokens
invariant-tokens l =
    (l.count ≤ l.lexer.start) × (length (rest_of l.lexer) + l.count ≤ length (rest_of l.fn.lexer))
    × ((front : List PlacedToken) × (length front ≡ l.count) × (first_line front ≡ l.line)
    × ((n : ℕ) × (length (rest_of l.lexer) < n) × (with_tokens front (gather n l.lexer) ≡ gather (suc (length (rest_of l.fn.lexer))) l.fn.lexer)))

abbrev pub decreases-tokens : goal.decreases-tokens
decreases-tokens l = length (rest_of l.lexer)
