-- `closing` against `doubled`: it finds the text whose delimiters were doubled, and nothing else.
use Rattle.std.proofs.Common.{◌≡◌, ℕ, ◌+◌, ◌<◌, Bool, true, false, cond, List, [], ◌∷◌, ◌++◌, length, take, Some, None, refl, sym, ap, subst, ◌∙◌, append_assoc, length-append, inl, inr, arith}
use Rattle.std.specs.Prelude.{nat_eq, nat_lt, ◌&&◌}
use Rattle.std.specs.List.{list_all}
use Rattle.std.proofs.lemmas.Bool.{eqb-true, eq-eqb, lt-ltb}
use Rattle.std.proofs.lemmas.List.{take_at}
use Rattle.dump_lex.specs.Bytes.{begins}
use Rattle.dump_lex.specs.Enclosed.{doubled, enclosed, behind, closing}
use Rattle.dump_lex.specs.Grammar.{NeverCloses}
use Rattle.dump_lex.proofs.Runs.{chosen}
use Rattle.dump_lex.proofs.Enclosing.{Found, found, closing-other}

is_self : (d : ℕ) → nat_eq d d ≡ true
is_self d = eq-eqb d d refl

-- ---- a closed text is found

closes : (d : ℕ) (rest : List ℕ) → begins (λ b. nat_eq b d) rest ≡ false → closing d (d ∷ rest) ≡ found ([], 1)
closes d [] h = rw (is_self d) refl
closes d (c ∷ cs) h = rw (is_self d, h) refl

pub closing-doubled : (d : ℕ) (text rest : List ℕ) → begins (λ b. nat_eq b d) rest ≡ false → closing d (doubled d text ++ d ∷ rest) ≡ found (text, length (doubled d text) + 1)
closing-doubled d [] rest h = closes d rest h
closing-doubled d (b ∷ bs) rest h =
    let inner = closing-doubled d bs rest h in
    let P : Bool → Type 0 = λ t. nat_eq b d ≡ t → closing d (cond t (d ∷ d ∷ doubled d bs) (b ∷ doubled d bs) ++ d ∷ rest) ≡ found (b ∷ bs, length (cond t (d ∷ d ∷ doubled d bs) (b ∷ doubled d bs)) + 1) in
    elim (nat_eq b d) as P [
      | true ↦ λ e.
          let k : 2 + (length (doubled d bs) + 1) ≡ length (d ∷ d ∷ doubled d bs) + 1 = omega arith in
          let pair : closing d (d ∷ d ∷ (doubled d bs ++ d ∷ rest)) ≡ behind (d ∷ []) 2 (closing d (doubled d bs ++ d ∷ rest)) = rw (is_self d) refl in
          pair ∙ ap (behind (d ∷ []) 2) inner ∙ (λ i. found (sym (eqb-true b d e) i ∷ bs, k i))
      | false ↦ λ e.
          let k : 1 + (length (doubled d bs) + 1) ≡ length (b ∷ doubled d bs) + 1 = omega arith in
          closing-other d b (doubled d bs ++ d ∷ rest) e ∙ ap (behind (b ∷ []) 1) inner ∙ (λ i. found (b ∷ bs, k i))
    ] refl

-- ---- what is found is a closed text

pub record Closes (d : ℕ) (bs : List ℕ) (x : List ℕ × ℕ) : Type 0 where
  pub rest : List ℕ
  pub whole : bs ≡ doubled d x.0 ++ d ∷ rest
  pub len : x.1 ≡ length (doubled d x.0) + 1
  pub stops : begins (λ b. nat_eq b d) rest ≡ false

same_closes : (d : ℕ) (bs : List ℕ) (x y : List ℕ × ℕ) → found x ≡ found y → Closes d bs x → Closes d bs y
same_closes d bs x y e h = let k : x ≡ y = cc in subst (Closes d bs) k h

closes_here : (d b : ℕ) (rest : List ℕ) → b ≡ d → begins (λ c. nat_eq c d) rest ≡ false → Closes d (b ∷ rest) ([], 1)
closes_here d b rest is stop = record { rest = rest; whole = ap (λ (c : ℕ). c ∷ rest) is; len = refl; stops = stop }

closes_other : (d b : ℕ) (bs : List ℕ) (q : Found) (x : List ℕ × ℕ) → nat_eq b d ≡ false → behind (b ∷ []) 1 q ≡ found x → ((y : List ℕ × ℕ) → q ≡ found y → Closes d bs y) → Closes d (b ∷ bs) x
closes_other d b bs None x isnt e on = absurd cc
closes_other d b bs (Some y) x isnt e on =
    let p = on y refl in
    same_closes d (b ∷ bs) (b ∷ y.0, 1 + y.1) x e (record {
      rest = p.rest;
      whole = rw isnt (ap (λ (l : List ℕ). b ∷ l) p.whole);
      len = rw isnt (omega (arith, p.len));
      stops = p.stops;
    })

closes_pair : (d b c : ℕ) (bs : List ℕ) (q : Found) (x : List ℕ × ℕ) → b ≡ d → c ≡ d → behind (d ∷ []) 2 q ≡ found x → ((y : List ℕ × ℕ) → q ≡ found y → Closes d bs y) → Closes d (b ∷ c ∷ bs) x
closes_pair d b c bs None x is also e on = absurd cc
closes_pair d b c bs (Some y) x is also e on =
    let p = on y refl in
    same_closes d (b ∷ c ∷ bs) (d ∷ y.0, 2 + y.1) x e (record {
      rest = p.rest;
      whole = rw (is_self d) (λ i. is i ∷ also i ∷ p.whole i);
      len = rw (is_self d) (omega (arith, p.len));
      stops = p.stops;
    })

pub closing-parts : (d : ℕ) (bs : List ℕ) (x : List ℕ × ℕ) → closing d bs ≡ found x → Closes d bs x
closing-parts d [] x e = absurd cc
closing-parts d (b ∷ []) x e = elim (chosen (nat_eq b d) (found ([], 1)) None (found x) e) [ inl t ↦ same_closes d (b ∷ []) ([], 1) x t.1 (closes_here d b [] (eqb-true b d t.0) refl) | inr f ↦ absurd (let h = f.1 in cc) ]
closing-parts d (b ∷ c ∷ bs) x e =
    elim (chosen (nat_eq b d) (cond (nat_eq c d) (behind (d ∷ []) 2 (closing d bs)) (found ([], 1))) (behind (b ∷ []) 1 (closing d (c ∷ bs))) (found x) e) [
      | inl t ↦ elim (chosen (nat_eq c d) (behind (d ∷ []) 2 (closing d bs)) (found ([], 1)) (found x) t.1) [
        | inl u ↦ closes_pair d b c bs (closing d bs) x (eqb-true b d t.0) (eqb-true c d u.0) u.1 (closing-parts d bs)
        | inr g ↦ same_closes d (b ∷ c ∷ bs) ([], 1) x g.1 (closes_here d b (c ∷ bs) (eqb-true b d t.0) g.0)
      ]
      | inr f ↦ closes_other d b (c ∷ bs) (closing d (c ∷ bs)) x f.0 f.1 (closing-parts d (c ∷ bs))
    ]

-- ---- nothing is found where nothing closes

pub none_closes : (d : ℕ) (bs : List ℕ) → ◌≡◌ {A = Found} (closing d bs) None → NeverCloses d bs
none_closes d bs e text rest stops is =
    let some : ◌≡◌ {A = Found} None (found (text, length (doubled d text) + 1)) = sym e ∙ ap (closing d) is ∙ closing-doubled d text rest stops in
    absurd cc

pub never_closes : (d : ℕ) (bs : List ℕ) → NeverCloses d bs → ◌≡◌ {A = Found} (closing d bs) None
never_closes d bs h = none_of (closing d bs) refl
  where
    none_of : (q : Found) → closing d bs ≡ q → q ≡ None
    none_of None e = refl
    none_of (Some x) e = let p = closing-parts d bs x e in absurd (h x.0 p.rest p.stops p.whole)

-- ---- the whole token

pub enclosed-append : (d : ℕ) (text rest : List ℕ) → enclosed d text ++ rest ≡ d ∷ (doubled d text ++ d ∷ rest)
enclosed-append d text rest = ap (λ (l : List ℕ). d ∷ l) (append_assoc (doubled d text) (d ∷ []) rest)

pub length-enclosed : (d : ℕ) (text : List ℕ) → length (enclosed d text) ≡ length (doubled d text) + 1 + 1
length-enclosed d text = omega (arith, length-append (doubled d text) (d ∷ []))

-- ---- zero bytes

nonzero-doubled : (d : ℕ) (text : List ℕ) → 0 < d → list_all (λ b. nat_lt 0 b) (doubled d text ++ d ∷ []) ≡ list_all (λ b. nat_lt 0 b) text
nonzero-doubled d [] lt = rw (lt-ltb 0 d lt) refl
nonzero-doubled d (b ∷ bs) lt =
    let all : List ℕ → Bool = list_all (λ b. nat_lt 0 b) in
    let P : Bool → Type 0 = λ t. nat_eq b d ≡ t → all (cond t (d ∷ d ∷ doubled d bs) (b ∷ doubled d bs) ++ d ∷ []) ≡ (nat_lt 0 b && all bs) in
    elim (nat_eq b d) as P [
      | true ↦ λ e. rw (eqb-true b d e, lt-ltb 0 d lt) (nonzero-doubled d bs lt)
      | false ↦ λ _. ap (λ (t : Bool). nat_lt 0 b && t) (nonzero-doubled d bs lt)
    ] refl

-- the bytes that write a text have a zero byte where the text has one
pub nonzero-written : (d : ℕ) (bs : List ℕ) (x : List ℕ × ℕ) → 0 < d → closing d bs ≡ found x → list_all (λ b. nat_lt 0 b) (take x.1 bs) ≡ list_all (λ b. nat_lt 0 b) x.0
nonzero-written d bs x lt e =
    let p = closing-parts d bs x e in
    let len : length (doubled d x.0 ++ d ∷ []) ≡ x.1 = omega (arith, p.len, length-append (doubled d x.0) (d ∷ [])) in
    let whole : bs ≡ (doubled d x.0 ++ d ∷ []) ++ p.rest = p.whole ∙ sym (append_assoc (doubled d x.0) (d ∷ []) p.rest) in
    ap (λ (l : List ℕ). list_all (λ b. nat_lt 0 b) (take x.1 l)) whole ∙ ap (list_all (λ b. nat_lt 0 b)) (take_at (doubled d x.0 ++ d ∷ []) p.rest x.1 len) ∙ nonzero-doubled d x.0 lt
