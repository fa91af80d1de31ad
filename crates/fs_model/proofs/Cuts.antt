-- A text cut at its first slash, and the same of the parts between its slashes.
use Rattle.std.proofs.Common.{refl, Option, Some, None, if◌then◌else◌, Bor, ◌≡◌, ◌<◌, ℕ, List, [], ◌∷◌, ◌++◌, length, true, false, ap, ◌∙◌, subst, sym, arith, length-append}
use Rattle.std.specs.Prelude.{◌==◌, ◌&&◌, not, MatchOption}
use Rattle.std.specs.List.{list_all, slice_split, before_first, after_first, position_or_len}
use Rattle.std.proofs.lemmas.List.Elements.{filter-append}
use Rattle.std.proofs.lemmas.List.Folds.{list_all-append}
use Rattle.std.proofs.lemmas.List.Splits.{slice_split_first, slice_split_none}
use Rattle.std.proofs.lemmas.List.Sums.{fails_before_first, split_at_first}
use Rattle.std.proofs.lemmas.Bool.{eqb-true}
use Rattle.fs_model.specs.Names.{slash, is_name}
use Rattle.fs_model.specs.PathText.{filled, parts, path_in}

pub parts_cut : (text part after : List ℕ) → position_or_len (λ b. b == slash) text < length text → part ≡ before_first (λ b. b == slash) text → after ≡ after_first (λ b. b == slash) text → parts text ≡ filled (part ∷ []) ++ parts after
parts_cut text part after inside is_part is_after =
    ap filled (slice_split_first (λ b. b == slash) text 0 inside)
    ∙ filter-append (λ part. not (length part == 0)) (before_first (λ b. b == slash) text ∷ []) (slice_split (λ b. b == slash) (after_first (λ b. b == slash) text))
    ∙ (λ i. filled (sym is_part i ∷ []) ++ parts (sym is_after i))

pub parts_whole : (text : List ℕ) → position_or_len (λ b. b == slash) text ≡ length text → parts text ≡ filled (text ∷ [])
parts_whole text whole =
    ap filled (slice_split_none (λ b. b == slash) text (λ k d below. fails_before_first (λ b. b == slash) text k d (subst (λ n. k < n) (sym whole) below)))

pub names_cut : (text part after : List ℕ) → parts text ≡ filled (part ∷ []) ++ parts after → list_all is_name (parts text) ≡ (list_all is_name (filled (part ∷ [])) && list_all is_name (parts after))
names_cut text part after cut = ap (list_all is_name) cut ∙ list_all-append is_name (filled (part ∷ [])) (parts after)

-- a text and what stands round its first slash, if it has one
pub around_first : (text : List ℕ) (cut : Option (Bor (List ℕ) × Bor (List ℕ)))
    → MatchOption cut (position_or_len (λ b. b == slash) text ≡ length text)
    (λ x. (x.0.now ≡ before_first (λ b. b == slash) text) × (x.1.now ≡ after_first (λ b. b == slash) text) × (position_or_len (λ b. b == slash) text < length text))
    → MatchOption cut (parts text ≡ filled (text ∷ [])) (λ x. (parts text ≡ filled (x.0.now ∷ []) ++ parts x.1.now) × (length x.1.now < length text))
around_first text None whole = parts_whole text whole
around_first text (Some x) (before, after, inside) = (parts_cut text x.0.now x.1.now inside before after, subst (λ l. length l < length text) (sym after) (shorter text inside))
  where
    shorter : (text : List ℕ) → position_or_len (λ b. b == slash) text < length text → length (after_first (λ b. b == slash) text) < length text
    shorter text inside =
        let whole = split_at_first (λ b. b == slash) text 0 inside in
        omega (arith, simp length-append at (ap length whole))

-- a text that doesn't begin with a slash is no path
pub no_path : (text : List ℕ) → ((rest : List ℕ) → text ≡ (slash ∷ []) ++ rest → ⊥) → path_in text ≡ None
no_path [] none = refl
no_path (b ∷ rest) none =
    elim (b == slash) as (λ t. b == slash ≡ t → (if t && list_all is_name (parts rest) then Some (parts rest) else None) ≡ None) [
      | true ↦ λ e. absurd (none rest (ap (λ c. c ∷ rest) (eqb-true b slash e)))
      | false ↦ λ e. refl
    ] refl
