-- For which words a reader may lack memory.
use Rattle.std.proofs.Common.{◌≡◌, ◌+◌, ◌++◌, ◌∙◌, ℕ, List, Option, Some, None, Result, Ok, Err, OnErr, inl, inr, refl, sym, ap}
use Rattle.std.specs.Prelude.{slice_get}
use Rattle.control_file.specs.declared.modes.Side.{Side}
use Rattle.command_words.specs.declared.chosen.Reader.{Reader}
use Rattle.command_words.specs.declared.command.WordsError.{WordsError}
use Rattle.command_words.specs.Words.{Word, short_option, long_option, MayName, AsksForDirectory}
use Rattle.command_words.specs.Reading.{HasLong, TakesMemory}

-- the short option of the side whose directory is awaited stands before a position
abbrev pub Awaited : List Word → ℕ → Option Side → Type 0
Awaited words position awaits = (side : Side) → awaits ≡ Some side → (before : ℕ) × (position ≡ before + 1) × (slice_get words before ≡ Some (short_option side))

pub has_long : (result : Result (Option Reader) WordsError) (side : Side) (word rest : Word) → word ≡ long_option side ++ rest → OnErr result (MayName rest) → OnErr result (HasLong word)
has_long (Ok next) side word rest is may = tt
has_long (Err error) side word rest is may = (side, rest, is, may)

pub asks_for : (words : List Word) (position : ℕ) (word : Word) (awaits : Option Side) → slice_get words position ≡ Some word → Awaited words position awaits → TakesMemory awaits word → AsksForDirectory words
asks_for words position word (Some side) here awaited may = let (before, is, option) = awaited side refl in (side, word, may, before, inl (option, ap (slice_get words) (sym is) ∙ here))
asks_for words position word None here awaited (side, rest, is, may) = (side, rest, may, position, inr (here ∙ ap (λ w. Some w) is))
