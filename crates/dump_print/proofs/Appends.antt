-- One part appended after another.
use Rattle.std.proofs.Common.{◌≡◌, ℕ, ◌+◌, Bool, true, ◌&&◌, List, ◌∷◌, ◌++◌, drop, Some, sym, ap, ◌∙◌, append_assoc}
use Rattle.std.specs.Prelude.{slice_get}
use Rattle.std.specs.List.{flat_map, list_all}
use Rattle.std.proofs.lemmas.List.{drop_more}
use Rattle.std.proofs.lemmas.Option.{slice_get_within, get_or_from_slice_get}
use Rattle.std.proofs.lemmas.Grind.{flat_map-append}
use Rattle.dump_grammar.specs.declared.statement.Statement.{Statement}
use Rattle.dump_print.specs.Parts.{line_text, lines_text}

-- a line of two parts
pub joined : (old x y a b line : List ℕ) → x ≡ old ++ a → y ≡ x ++ b → line ≡ a ++ b → y ≡ old ++ line
joined old x y a b line e f g = f ∙ ap (λ (l : List ℕ). l ++ b) e ∙ append_assoc old a b ∙ ap (λ (l : List ℕ). old ++ l) (sym g)

-- ---- objects one after another

-- what is at a place, and what stands behind it
drop_at_place : {A : Type 0} (xs : List A) (i : ℕ) (x : A) → slice_get xs i ≡ Some x → drop i xs ≡ x ∷ drop (i + 1) xs
drop_at_place xs i x h = drop_more xs i x (slice_get_within xs i x h) ∙ ap (λ y. y ∷ drop (i + 1) xs) (get_or_from_slice_get xs i x x h)

-- the lines of the objects from a place on
abbrev pub lines_from : {A : Type 0} → (A → List Statement) → ℕ → List A → List ℕ
lines_from f i xs = lines_text (flat_map f (drop i xs))

-- the lines of one more object
pub going : {A : Type 0} (f : A → List Statement) (xs : List A) (i : ℕ) (x : A) (out next total : List ℕ) → slice_get xs i ≡ Some x → next ≡ out ++ lines_text (f x) → out ++ lines_from f i xs ≡ total → next ++ lines_from f (i + 1) xs ≡ total
going f xs i x out next total h e so_far =
    let t = lines_from f (i + 1) xs in
    ap (λ (l : List ℕ). l ++ t) e ∙ append_assoc out (lines_text (f x)) t
    ∙ ap (λ (l : List ℕ). out ++ l) (sym (flat_map-append line_text (f x) (flat_map f (drop (i + 1) xs))))
    ∙ ap (λ l. out ++ lines_text (flat_map f l)) (sym (drop_at_place xs i x h)) ∙ so_far

-- a test of one more object
pub tested : {A : Type 0} (p : A → Bool) (xs : List A) (i : ℕ) (x : A) → slice_get xs i ≡ Some x → p x ≡ true → list_all p (drop i xs) ≡ list_all p xs → list_all p (drop (i + 1) xs) ≡ list_all p xs
tested p xs i x h e so_far = sym (ap (λ b. b && list_all p (drop (i + 1) xs)) e) ∙ ap (list_all p) (sym (drop_at_place xs i x h)) ∙ so_far
