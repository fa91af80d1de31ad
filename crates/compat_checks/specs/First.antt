-- Which refusal comes first of those that the tests of the conditions find, and when none does.
use Rattle.std.specs.Prelude.{◌≡◌, ◌<◌, if◌then◌else◌, List, [], ◌∷◌, Option, Some, None}
use Rattle.control_file.specs.declared.modes.Mode.{Mode}
use Rattle.compat_checks.specs.declared.refusal.Refusal.{Refusal}
use Rattle.compat_checks.specs.Order.{Condition, condition_of, applies, rank}

-- what the test of each condition finds: a refusal with its numbers and paths, or nothing
abbrev pub Findings : Type 0
Findings = Condition → Option Refusal

-- each test finds refusals of its own condition alone
abbrev pub AreOwn : Findings → Type 0
AreOwn found = (condition : Condition) (refusal : Refusal) → found condition ≡ Some refusal → condition_of refusal ≡ condition

-- only those are asked that apply in this mode
abbrev pub asked : Mode → Findings → Findings
asked mode found condition = if applies mode condition then found condition else None

-- The refusal's condition holds, with its exact parameters.
abbrev pub Holds : Findings → Refusal → Type 0
Holds found refusal = found (condition_of refusal) ≡ Some refusal

-- Its condition holds, and no earlier one's does.
pub record IsFirst (found : Findings) (refusal : Refusal) : Type 0 where
  pub holds : Holds found refusal
  pub earlier : (other : Refusal) → rank other < rank refusal → Holds found other → ⊥

-- No condition holds: the two clusters pass the checks.
abbrev pub Passes : Findings → Type 0
Passes found = (refusal : Refusal) → Holds found refusal → ⊥

-- the first of the two, if there is one
abbrev pub or_first : Option Refusal → Option Refusal → Option Refusal
or_first (Some refusal) later = Some refusal
or_first None later = later

-- the first refusal that the tests of these conditions find, in their order
abbrev pub first_of : Findings → List Condition → Option Refusal
first_of found [] = None
first_of found (condition ∷ conditions) = or_first (found condition) (first_of found conditions)
