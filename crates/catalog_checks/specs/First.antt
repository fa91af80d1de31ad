-- The first element of a list that passes a test.
use Rattle.std.specs.Prelude.{◌≡◌, Bool, true, false, List, ◌∷◌, ◌++◌}
use Rattle.std.specs.List.{list_any}

-- It passes, and none before it does.
pub record IsFirst {A : Type 0} (test : A → Bool) (xs : List A) (x : A) : Type 0 where
  pub before : List A
  pub behind : List A
  pub stands : xs ≡ before ++ x ∷ behind
  pub passes : test x ≡ true
  pub none : list_any test before ≡ false
