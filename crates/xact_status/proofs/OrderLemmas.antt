-- The order of normal ids.
use Rattle.std.proofs.Common.{◌≡◌, ◌<◌, ◌≤◌, ◌+◌, ◌-◌, ◌%◌, ◌^◌, ℕ, ◌↔◌, IsTrue, arith, leb-true, le-leb}
use Rattle.std.proofs.lemmas.Bool.Decides.{nat_tests}
use Rattle.std.specs.Prelude.{nat_le}
use Rattle.xact_status.specs.Window.{is_before, ids_from}

back : (a b : ℕ) → a < 2 ^ 32 → b < 2 ^ 32 → 2 ^ 31 ≤ (a + (2 ^ 32 - b)) % 2 ^ 32 → (1 ≤ (b + (2 ^ 32 - a)) % 2 ^ 32) × ((b + (2 ^ 32 - a)) % 2 ^ 32 ≤ 2 ^ 31) × ((a + (b + (2 ^ 32 - a)) % 2 ^ 32) % 2 ^ 32 ≡ b)
back a b ha hb h = (omega arith, omega arith, omega arith)

ahead_is_before : (a b ahead : ℕ) → a < 2 ^ 32 → b < 2 ^ 32 → 1 ≤ ahead → ahead ≤ 2 ^ 31 → (a + ahead) % 2 ^ 32 ≡ b → 2 ^ 31 ≤ (a + (2 ^ 32 - b)) % 2 ^ 32
ahead_is_before a b ahead ha hb low high is = omega arith

before_normal : (a b : ℕ) → 3 ≤ a → 3 ≤ b → is_before a b ≡ nat_le (2 ^ 31) (ids_from b a)
before_normal a b ha hb = grind (arith, nat_tests)

pub before_law : (a b : ℕ) → 3 ≤ a → a < 2 ^ 32 → 3 ≤ b → b < 2 ^ 32 → (IsTrue (is_before a b) ↔ ((ahead : ℕ) × (1 ≤ ahead) × (ahead ≤ 2 ^ 31) × ((a + ahead) % 2 ^ 32 ≡ b)))
before_law a b la ha lb hb =
    rw (before_normal a b la lb)
    (λ before. let facts = back a b ha hb (leb-true _ _ before) in (ids_from a b, facts.0, facts.1, facts.2), λ found. le-leb _ _ (ahead_is_before a b found.0 ha hb found.1 found.2 found.3))
