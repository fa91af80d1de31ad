-- Parts of a log: numbers of segments with their bytes.
use Rattle.std.specs.Prelude.{ℕ, ◌≤◌, ◌==◌, List, count_by}
use Rattle.xact_status.specs.declared.error.SegmentsError.{SegmentsError}
use Rattle.xact_status.specs.declared.error.SegmentsError.TheVariants.{Twice, OutOfMemory}

-- how often a number comes
abbrev pub count_of : ℕ → List (ℕ × List ℕ) → ℕ
count_of number parts = count_by (λ part. part.0 == number) parts

-- a number comes twice, and none below it does
pub record IsLeastTwice (parts : List (ℕ × List ℕ)) (number : ℕ) : Type 0 where
  pub comes_twice : 2 ≤ count_of number parts
  pub least : (other : ℕ) → 2 ≤ count_of other parts → number ≤ other

-- when each error comes; only want of memory is left open
abbrev pub IsCause : List (ℕ × List ℕ) → SegmentsError → Type 0
IsCause parts (Twice number) = IsLeastTwice parts number
IsCause parts OutOfMemory = Unit {0}
