-- What `closing` finds, from the next delimiter on.
use Rattle.std.proofs.Common.{◌≡◌, ℕ, suc, ◌+◌, ◌<◌, ◌≤◌, Bool, true, false, cond, List, [], ◌∷◌, ◌++◌, length, get_or, take, drop, Option, Some, None, refl, sym, ap, ◌∙◌, append_assoc, length-append, length-take-le, length-drop, add-zero, arith}
use Rattle.std.specs.Prelude.{nat_eq, not, option_map}
use Rattle.std.specs.Option.{option_map_or}
use Rattle.std.specs.List.{position_or_len}
use Rattle.std.proofs.lemmas.Bool.{eqb-true, eq-eqb, ne_eqb, not-false}
use Rattle.std.proofs.lemmas.List.{append-nil, get_or-drop, drop-drop}
use Rattle.std.proofs.lemmas.List.Sums.{prefix_len_stops}
use Rattle.dump_lex.specs.declared.enclosed.Closed.{Closed}
use Rattle.dump_lex.specs.Enclosed.{behind, closing, closed_of}

pub behind-behind : (s t : List ℕ) (m n : ℕ) (q : Option (List ℕ × ℕ)) → behind s m (behind t n q) ≡ behind (s ++ t) (m + n) q
behind-behind s t m n None = refl
behind-behind s t m n (Some x) =
    let e : m + (n + x.1) ≡ m + n + x.1 = omega arith in
    rw (e, append_assoc s t x.0) refl

behind-none : (q : Option (List ℕ × ℕ)) → behind [] 0 q ≡ q
behind-none None = refl
behind-none (Some x) = let e : 0 + x.1 ≡ x.1 = omega arith in rw e refl

-- a byte that isn't the delimiter is one of the text
pub closing-other : (d b : ℕ) (rest : List ℕ) → nat_eq b d ≡ false → closing d (b ∷ rest) ≡ behind (b ∷ []) 1 (closing d rest)
closing-other d b [] h = rw h refl
closing-other d b (c ∷ cs) h = rw h refl

abbrev pub until : ℕ → List ℕ → ℕ
until d bs = position_or_len (λ b. nat_eq b d) bs

-- the bytes before the next delimiter are of the text
pub closing-until : (d : ℕ) (bs : List ℕ) → closing d bs ≡ behind (take (until d bs) bs) (until d bs) (closing d (drop (until d bs) bs))
closing-until d [] = refl
closing-until d (b ∷ bs) =
    let n = until d bs in
    let one : 1 + n ≡ suc n = omega arith in
    let P : Bool → Type 0 = λ t. nat_eq b d ≡ t → closing d (b ∷ bs) ≡ behind (take (cond (not t) (1 + n) 0) (b ∷ bs)) (cond (not t) (1 + n) 0) (closing d (drop (cond (not t) (1 + n) 0) (b ∷ bs))) in
    elim (nat_eq b d) as P [
      | true ↦ λ _. sym (behind-none (closing d (b ∷ bs)))
      | false ↦ λ e.
          closing-other d b bs e ∙ ap (behind (b ∷ []) 1) (closing-until d bs) ∙ behind-behind (b ∷ []) (take n bs) 1 n (closing d (drop n bs))
          ∙ (λ i. behind (take (sym one i) (b ∷ bs)) (1 + n) (closing d (drop (sym one i) (b ∷ bs))))
    ] refl

-- ---- the parts that the loop meets

abbrev pub Found : Type 0
Found = Option (List ℕ × ℕ)

abbrev pub found : List ℕ × ℕ → Found
found x = Some x

closing_at : (d : ℕ) (bs rest : List ℕ) (n : ℕ) → n ≡ until d bs → rest ≡ drop n bs → closing d bs ≡ behind (take n bs) n (closing d rest)
closing_at d bs rest n e f =
    closing-until d bs ∙ (λ i. behind (take (sym e i) bs) (sym e i) (closing d (drop (sym e i) bs))) ∙ ap (λ (l : List ℕ). behind (take n bs) n (closing d l)) (sym f)

-- the next delimiter is one
first_is : (d : ℕ) (bs rest : List ℕ) (n : ℕ) → n ≡ until d bs → rest ≡ drop n bs → 0 < length rest → get_or rest 0 0 ≡ d
first_is d bs rest n e f lt =
    let short : until d bs < length bs = omega (arith, ap length f, length-drop n bs) in
    let stop = prefix_len_stops (λ b. not (nat_eq b d)) bs 0 short in
    let same : get_or rest 0 0 ≡ get_or bs (until d bs) 0 = rw f (get_or-drop n bs 0 0 ∙ ap (λ (k : ℕ). get_or bs k 0) (add-zero n ∙ e)) in
    same ∙ eqb-true (get_or bs (until d bs) 0) d (not-false (nat_eq (get_or bs (until d bs) 0) d) stop)

pub ends_at : (d : ℕ) (bs rest : List ℕ) (n : ℕ) → n ≡ until d bs → rest ≡ drop n bs → length rest < 1 → ◌≡◌ {A = Found} (closing d bs) None
ends_at d bs [] n e f lt = closing_at d bs [] n e f
ends_at d bs (c ∷ cs) n e f lt = absurd (omega arith)

closed_here : (bs : List ℕ) (n : ℕ) → behind (take n bs) n (found ([], 1)) ≡ found (take n bs, n + 1)
closed_here bs n = rw (append-nil (take n bs)) refl

abbrev pub ClosesAt : ℕ → ℕ → List ℕ → Type 0
ClosesAt d n bs = (closing d bs ≡ found (take n bs, n + 1)) × (n < length bs)

pub closes_last : (d : ℕ) (bs rest : List ℕ) (n : ℕ) → n ≡ until d bs → rest ≡ drop n bs → 1 ≤ length rest → length rest < 2 → ClosesAt d n bs
closes_last d bs [] n e f lt le = absurd (omega arith)
closes_last d bs (b ∷ []) n e f lt le =
    let one : closing d (b ∷ []) ≡ found ([], 1) = rw (eq-eqb b d (first_is d bs (b ∷ []) n e f lt)) refl in
    (closing_at d bs (b ∷ []) n e f ∙ ap (behind (take n bs) n) one ∙ closed_here bs n, omega (arith, ap length f, length-drop n bs))
closes_last d bs (b ∷ c ∷ cs) n e f lt le = absurd (omega arith)

pub closes_before : (d : ℕ) (bs rest : List ℕ) (n : ℕ) → n ≡ until d bs → rest ≡ drop n bs → 2 ≤ length rest → (get_or rest 1 0 ≡ d → ⊥) → ClosesAt d n bs
closes_before d bs [] n e f lt other = absurd (omega arith)
closes_before d bs (b ∷ []) n e f lt other = absurd (omega arith)
closes_before d bs (b ∷ c ∷ cs) n e f lt other =
    let one : closing d (b ∷ c ∷ cs) ≡ found ([], 1) = rw (eq-eqb b d (first_is d bs (b ∷ c ∷ cs) n e f (omega arith)), ne_eqb c d other) refl in
    (closing_at d bs (b ∷ c ∷ cs) n e f ∙ ap (behind (take n bs) n) one ∙ closed_here bs n, omega (arith, ap length f, length-drop n bs))

abbrev pub PairsAt : ℕ → ℕ → List ℕ → Type 0
PairsAt d n bs = (closing d bs ≡ behind (take n bs ++ d ∷ []) (n + 2) (closing d (drop (n + 2) bs))) × (n + 2 ≤ length bs)

pub pairs_at : (d : ℕ) (bs rest : List ℕ) (n : ℕ) → n ≡ until d bs → rest ≡ drop n bs → 2 ≤ length rest → get_or rest 1 0 ≡ d → PairsAt d n bs
pairs_at d bs [] n e f lt second = absurd (omega arith)
pairs_at d bs (b ∷ []) n e f lt second = absurd (omega arith)
pairs_at d bs (b ∷ c ∷ cs) n e f lt second =
    let two : closing d (b ∷ c ∷ cs) ≡ behind (d ∷ []) 2 (closing d cs) = rw (eq-eqb b d (first_is d bs (b ∷ c ∷ cs) n e f (omega arith)), eq-eqb c d second) refl in
    let tail : cs ≡ drop (n + 2) bs = ap (drop 2) f ∙ drop-drop 2 n bs in (
      closing_at d bs (b ∷ c ∷ cs) n e f ∙ ap (behind (take n bs) n) two ∙ behind-behind (take n bs) (d ∷ []) n 2 (closing d cs) ∙ ap (λ (l : List ℕ). behind (take n bs ++ d ∷ []) (n + 2) (closing d l)) tail,
      omega (arith, ap length f, length-drop n bs),
    )

-- ---- the loop

-- what is to be answered when a text of this length, which that many bytes write, stands before
abbrev pub further : ℕ → ℕ → Option (List ℕ × ℕ) → Option Closed
further text_len len q = option_map (λ x. record { text_len = text_len + length x.0; len = len + x.1 }) q

further-none : (q : Option (List ℕ × ℕ)) → further 0 0 q ≡ option_map closed_of q
further-none None = refl
further-none (Some x) = let e : 0 + length x.0 ≡ length x.0 = omega arith in let f : 0 + x.1 ≡ x.1 = omega arith in rw (e, f) refl

further-behind : (m n : ℕ) (text : List ℕ) (k : ℕ) (q : Option (List ℕ × ℕ)) → further m n (behind text k q) ≡ further (m + length text) (n + k) q
further-behind m n text k None = refl
further-behind m n text k (Some x) =
    let e : m + length (text ++ x.0) ≡ m + length text + length x.0 = omega (arith, length-append text x.0) in
    let f : n + (k + x.1) ≡ n + k + x.1 = omega arith in
    rw (e, f) refl

abbrev pub SoFar : ℕ → ℕ → ℕ → List ℕ → List ℕ → Type 0
SoFar d m n rest bytes = further m n (closing d rest) ≡ further 0 0 (closing d bytes)

pub at_end : (d m n : ℕ) (rest bytes : List ℕ) → ◌≡◌ {A = Found} (closing d rest) None → SoFar d m n rest bytes → ◌≡◌ {A = Option Closed} None (option_map closed_of (closing d bytes))
at_end d m n rest bytes e so_far = sym (ap (further m n) e) ∙ so_far ∙ further-none (closing d bytes)

abbrev pub told : ℕ → ℕ → Option Closed
told m n = Some (record { text_len = m; len = n })

pub at_close : (d m n k : ℕ) (rest bytes : List ℕ) → ◌≡◌ {A = Found} (closing d rest) (Some (take k rest, k + 1)) → k < length rest → SoFar d m n rest bytes → told (m + k) (n + k + 1) ≡ option_map closed_of (closing d bytes)
at_close d m n k rest bytes e lt so_far =
    let a : length (take k rest) ≡ k = length-take-le k rest (omega arith) in
    let b : n + (k + 1) ≡ n + k + 1 = omega arith in
    let one : told (m + length (take k rest)) (n + (k + 1)) ≡ told (m + k) (n + k + 1) = rw (a, b) refl in
    sym one ∙ sym (ap (further m n) e) ∙ so_far ∙ further-none (closing d bytes)

pub at_pair : (d m n k : ℕ) (rest tail bytes : List ℕ) → closing d rest ≡ behind (take k rest ++ d ∷ []) (k + 2) (closing d (drop (k + 2) rest)) → tail ≡ drop (k + 2) rest → k + 2 ≤ length rest → SoFar d m n rest bytes → SoFar d (m + (k + 1)) (n + (k + 2)) tail bytes
at_pair d m n k rest tail bytes e t le so_far =
    let a : length (take k rest ++ d ∷ []) ≡ k + 1 = omega (arith, length-append (take k rest) (d ∷ []), length-take-le k rest (omega arith)) in
    let joined : further m n (behind (take k rest ++ d ∷ []) (k + 2) (closing d (drop (k + 2) rest))) ≡ further (m + (k + 1)) (n + (k + 2)) (closing d (drop (k + 2) rest)) = further-behind m n (take k rest ++ d ∷ []) (k + 2) (closing d (drop (k + 2) rest)) ∙ ap (λ (j : ℕ). further (m + j) (n + (k + 2)) (closing d (drop (k + 2) rest))) a in
    rw t (sym joined ∙ sym (ap (further m n) e) ∙ so_far)

-- ---- the loop that gathers the text

-- the text so far, with what is found further on
abbrev pub gathered : List ℕ → Found → List ℕ
gathered text q = option_map_or (λ x. text ++ x.0) q []

pub gathered-behind : (text more : List ℕ) (n : ℕ) (q : Found) → gathered text (behind more n q) ≡ gathered (text ++ more) q
gathered-behind text more n None = refl
gathered-behind text more n (Some x) = sym (append_assoc text more x.0)

pub gather_pair : (d k : ℕ) (text more all before rest tail whole : List ℕ) → closing d rest ≡ behind (take k rest ++ d ∷ []) (k + 2) (closing d (drop (k + 2) rest)) → tail ≡ drop (k + 2) rest → before ≡ take k rest → more ≡ text ++ before → all ≡ more ++ d ∷ []
    → gathered text (closing d rest) ≡ whole → gathered all (closing d tail) ≡ whole
gather_pair d k text more all before rest tail whole e t b m a so_far =
    let grown : all ≡ text ++ (take k rest ++ d ∷ []) = a ∙ ap (λ (l : List ℕ). l ++ d ∷ []) (m ∙ ap (λ (l : List ℕ). text ++ l) b) ∙ append_assoc text (take k rest) (d ∷ []) in
    (λ i. gathered (grown i) (closing d (t i))) ∙ sym (gathered-behind text (take k rest ++ d ∷ []) (k + 2) (closing d (drop (k + 2) rest))) ∙ ap (gathered text) (sym e) ∙ so_far
