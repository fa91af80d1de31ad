-- The accepted command lines of a run, and the position of a usage fault.
use Rattle.std.specs.Prelude.{◌+◌, ◌<◌, ◌≤◌, ℕ, List, ◌++◌, length, take}
use Rattle.command_words.specs.declared.command.Command.{Command}
use Rattle.command_words.specs.declared.command.Command.TheVariants as command
use Rattle.command_words.specs.Words.{Word, Accepts}
use Rattle.accepted_words.specs.declared.line.Line.{Line}
use Rattle.accepted_words.specs.declared.line.Line.TheVariants.{Upgrade, Report, SelfTest}

-- a line as a command
abbrev pub as_command : Line → Command
as_command (Upgrade job check) = command.Upgrade job check
as_command (Report old new) = command.Report old new
as_command (SelfTest tables mode) = command.Selftest tables mode

-- the words spell the choices of an upgrade or a report, or are those of a self-test
abbrev pub Asks : List Word → Line → Type 0
Asks words line = Accepts words (as_command line)

-- the words begin an accepted list
abbrev pub Begins : List Word → Type 0
Begins words = (more : List Word) × (line : Line) × Asks (words ++ more) line

-- The words aren't accepted, and this is the least position such that the words up to and with it begin no accepted list;
-- their number, where all of them begin one.
pub record IsFaultAt (words : List Word) (position : ℕ) : Type 0 where
  pub not_accepted : (line : Line) → Asks words line → ⊥
  pub within : position ≤ length words
  pub before : (n : ℕ) → n < position → Begins (take (n + 1) words)
  pub here : position < length words → Begins (take (position + 1) words) → ⊥
