-- Lists that are made piece by piece.
use Rattle.std.proofs.Common.{◌≡◌, ℕ, zero, suc, ◌+◌, List, [], ◌∷◌, ◌++◌, sym, ap, ◌∙◌, append_assoc, arith, replicate}
use Rattle.std.specs.List.{flat_map, range_with_len}
use Rattle.std.proofs.lemmas.List.{flat_map_more, replicate_more}

-- a piece, and what follows it
pub joined : {A : Type 0} (old part out rest last : List A) → out ≡ old ++ part → last ≡ out ++ rest → last ≡ old ++ (part ++ rest)
joined old part out rest last e f = f ∙ ap (λ (l : List _). l ++ rest) e ∙ append_assoc old part rest

-- one zero more
pub zero_more : (n : ℕ) (old out next : List ℕ) → out ≡ old ++ replicate n 0 → next ≡ out ++ 0 ∷ [] → next ≡ old ++ replicate (n + 1) 0
zero_more n old out next e f =
    joined old (replicate n 0) out (0 ∷ []) next e f ∙ ap (λ (l : List ℕ). old ++ l) (replicate_more n 0)

range_next : (a n : ℕ) → range_with_len a (suc n) ≡ range_with_len a n ++ (a + n) ∷ []
range_next a zero = ap (λ (x : ℕ). x ∷ []) (omega arith)
range_next a (suc n) = ap (λ (l : List ℕ). a ∷ l) (range_next (a + 1) n ∙ ap (λ (x : ℕ). range_with_len (a + 1) n ++ x ∷ []) (omega arith))

-- one number more
pub range_more : (n : ℕ) → range_with_len 0 (n + 1) ≡ range_with_len 0 n ++ n ∷ []
range_more n =
    let more : n + 1 ≡ suc n = omega arith in
    let same : 0 + n ≡ n = omega arith in
    ap (λ (k : ℕ). range_with_len 0 k) more ∙ range_next 0 n ∙ ap (λ (x : ℕ). range_with_len 0 n ++ x ∷ []) same

-- the pieces of one number more
pub going : {A : Type 0} (f : ℕ → List A) (i : ℕ) (old out next : List A) → out ≡ old ++ flat_map f (range_with_len 0 i) → next ≡ out ++ f i → next ≡ old ++ flat_map f (range_with_len 0 (i + 1))
going f i old out next so_far e =
    e ∙ ap (λ (l : List _). l ++ f i) so_far ∙ flat_map_more f old (range_with_len 0 i) i ∙ ap (λ (r : List ℕ). old ++ flat_map f r) (sym (range_more i))
