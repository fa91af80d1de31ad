-- A look-up that leads to each object of a list by each of its keys.
use Rattle.std.specs.Prelude.{◌≡◌, ℕ, Bool, true, false, List, slice_get, Option, Some, None, if◌then◌else◌}

-- Where an object of the list has a key, the key leads to its place. A key that no object has may lead anywhere.
abbrev pub Finds : {K A : Type 0} → (K → Option ℕ) → (K → A → Bool) → List A → Type 0
Finds {K} {A} place has objects =
    (i : ℕ) (x : A) (k : K) → slice_get objects i ≡ Some x → has k x ≡ true → place k ≡ Some i

-- the object at a place
abbrev pub object_at : {A : Type 0} → List A → Option ℕ → Option A
object_at objects None = None
object_at objects (Some i) = slice_get objects i

abbrev pub passes : {A : Type 0} → (A → Bool) → Option A → Bool
passes test None = false
passes test (Some x) = test x

-- the object, if it passes
abbrev pub passing : {A : Type 0} → (A → Bool) → Option A → Option A
passing test None = None
passing test (Some x) = if test x then Some x else None
