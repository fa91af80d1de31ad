-- The loops that read items in parentheses.
use Rattle.std.proofs.Common.{◌≡◌, ℕ, zero, suc, ◌<◌, ◌≤◌, List, [], ◌∷◌, ◌++◌, length, Option, Some, None, option_and_then, refl, sym, ap, ◌∙◌, arith, append_assoc}
use Rattle.std.proofs.lemmas.List.{append-nil}
use Rattle.dump_grammar.specs.Spelling.{Word}
use Rattle.dump_read.specs.Takes.{mark_at}
use Rattle.dump_read.specs.Form.{with_items, more_by, more_at}
use Rattle.dump_read.proofs.Steps.{mark_consumes}

with_items-more : {A : Type 0} (f g : List A) (r : Option (List A × List Word)) → with_items f (with_items g r) ≡ with_items (f ++ g) r
with_items-more {A} f g None = refl
with_items-more {A} f g (Some x) = ap (λ (xs : List A). Some (xs, x.1)) (sym (append_assoc f g x.0))

pub mark_shorter : (b : ℕ) (ws rest : List Word) → mark_at b ws ≡ Some rest → length rest < length ws
mark_shorter b ws rest e = omega (arith, (mark_consumes b ws rest e).count)

-- no comma stands next
pub more_none : {A : Type 0} (item : List Word → Option (A × List Word)) (n : ℕ) (ws : List Word) (front : List A) (total : Option (List A × List Word)) → length ws < n → mark_at 44 ws ≡ None → with_items front (more_at item n ws) ≡ total → total ≡ Some (front, ws)
unfolding more_at
more_none item zero ws front total lt h so_far = absurd (omega arith)
more_none {A} item (suc n) ws front total lt h so_far =
    sym so_far ∙ ap (λ (r : Option (List Word)). with_items front (more_by item (more_at item n) ws r)) h ∙ ap (λ (xs : List A). Some (xs, ws)) (append-nil front)

-- no item stands behind the comma
pub more_refused : {A : Type 0} (item : List Word → Option (A × List Word)) (n : ℕ) (ws rest : List Word) (front : List A) (total : Option (List A × List Word)) → length ws < n → mark_at 44 ws ≡ Some rest → item rest ≡ None → with_items front (more_at item n ws) ≡ total → total ≡ None
unfolding more_at
more_refused item zero ws rest front total lt h refused so_far = absurd (omega arith)
more_refused {A} item (suc n) ws rest front total lt h refused so_far =
    let go : Option (A × List Word) → Option (List A × List Word) = λ r. with_items front (option_and_then (λ x. with_items (x.0 ∷ []) (more_at item n x.1)) r) in
    sym so_far ∙ ap (λ (r : Option (List Word)). with_items front (more_by item (more_at item n) ws r)) h ∙ ap go refused

-- an item stands behind the comma
pub more_on : {A : Type 0} (item : List Word → Option (A × List Word)) (n : ℕ) (ws rest behind : List Word) (x : A) (front : List A) (total : Option (List A × List Word)) → length ws < n → mark_at 44 ws ≡ Some rest → item rest ≡ Some (x, behind) → length behind ≤ length rest → with_items front (more_at item n ws) ≡ total
    → (m : ℕ) × (length behind < m) × (with_items (front ++ x ∷ []) (more_at item m behind) ≡ total)
unfolding more_at
more_on item zero ws rest behind x front total lt h found shorter so_far = absurd (omega arith)
more_on {A} item (suc n) ws rest behind x front total lt h found shorter so_far =
    let go : Option (A × List Word) → Option (List A × List Word) = λ r. with_items front (option_and_then (λ y. with_items (y.0 ∷ []) (more_at item n y.1)) r) in
    let less : length rest < length ws = mark_shorter 44 ws rest h in
    let one : with_items front (more_at item (suc n) ws) ≡ with_items (front ++ x ∷ []) (more_at item n behind) = ap (λ (r : Option (List Word)). with_items front (more_by item (more_at item n) ws r)) h ∙ ap go found ∙ with_items-more front (x ∷ []) (more_at item n behind) in
    (n, omega arith, sym one ∙ so_far)
