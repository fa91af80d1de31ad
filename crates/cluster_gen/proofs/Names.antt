-- The names of the tables.
use Rattle.std.proofs.Common.{◌≡◌, ℕ, suc, ◌+◌, ◌<◌, ◌≤◌, ◌^◌, ◌%◌, ◌&&◌, Bool, true, List, [], ◌∷◌, ◌++◌, length, refl, ◌∙◌, arith, le-leb}
use Rattle.std.specs.Prelude.{nat_lt}
use Rattle.std.specs.Fmt.{decimal}
use Rattle.std.specs.List.{list_all}
use Rattle.std.proofs.lemmas.Fmt.{decimal_by_steps, length-decimal-le}
use Rattle.std.proofs.lemmas.List.Folds.{list_all-append}
use Rattle.catalog.specs.Forms.{is_name, table_form}
use Rattle.cluster_gen.specs.Catalogs.{table_name, table_numbered}

both : (a b : Bool) → a ≡ true → b ≡ true → (a && b) ≡ true
both a b is does = λ i. is i && does i

-- no byte is zero
abbrev HasNoZero : List ℕ → Type 0
HasNoZero text = list_all (λ b. nat_lt 0 b) text ≡ true

digit : (d : ℕ) → nat_lt 0 (48 + d) ≡ true
digit d = le-leb 1 (48 + d) (omega arith)

one_digit : (n : ℕ) → n < 10 → HasNoZero ((48 + n) ∷ [])
one_digit n lt = both (nat_lt 0 (48 + n)) true (digit n) refl

last_digit : (n : ℕ) (text : List ℕ) → 10 ≤ n → HasNoZero text → HasNoZero (text ++ ((48 + n % 10) ∷ []))
last_digit n text le h =
    list_all-append (λ b. nat_lt 0 b) text ((48 + n % 10) ∷ []) ∙ both (list_all (λ b. nat_lt 0 b) text) _ h (both (nat_lt 0 (48 + n % 10)) true (digit (n % 10)) refl)

digits : (n : ℕ) → n < 2 ^ 64 → HasNoZero (decimal n)
digits = decimal_by_steps (λ n text. HasNoZero text) one_digit last_digit

few : (n : ℕ) → n < 200 → suc (length (decimal n)) ≤ 63
few n lt = let ten : length (decimal n) ≤ 10 = length-decimal-le 10 n (omega arith) (omega arith) (omega arith) in omega arith

name_has_form : (n : ℕ) → n < 200 → is_name (table_name n) ≡ true
name_has_form n lt = λ i. le-leb 1 (suc (length (decimal n))) (omega arith) i && le-leb (suc (length (decimal n))) 63 (few n lt) i && digits n (omega arith) i

-- each of the tables has the form of one
pub table_has_form : (table : ℕ) → table < 200 → table_form (table_numbered table) ≡ true
table_has_form table lt = both (is_name (table_name table)) true (name_has_form table lt) refl
