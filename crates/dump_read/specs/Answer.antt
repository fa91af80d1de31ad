-- What a reader of words answers.
use Rattle.std.specs.Prelude.{◌≡◌, Bool, true, false, List, [], ◌∷◌, Option, Some, None, Result, Ok, Err}
use Rattle.dump_grammar.specs.Spelling.{Word}
use Rattle.dump_read.specs.declared.error.ReadError.{ReadError}
use Rattle.dump_read.specs.declared.error.ReadError.TheVariants.{Unknown}

-- What was answered, seen by view, is what was to be found; it is Unknown only where nothing was.
abbrev pub Answers : {X Y : Type 0} → (X → Y) → Result X ReadError → Option Y → Type 0
Answers view (Ok x) found = found ≡ Some (view x)
Answers view (Err e) found = e ≡ Unknown → found ≡ None

-- The words were taken where they stand; else none was taken.
abbrev pub Takes : Option (List Word) → List Word → List Word → Bool → Type 0
Takes found old new true = found ≡ Some new
Takes found old new false = (found ≡ None) × (new ≡ old)

abbrev pub is_nil : List Word → Bool
is_nil [] = true
is_nil (w ∷ ws) = false
