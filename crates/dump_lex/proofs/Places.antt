-- The next token behind a place, from what the parts of `next` found.
use Rattle.std.proofs.Common.{◌≡◌, ℕ, ◌+◌, ◌<◌, false, cond, List, [], ◌∷◌, ◌++◌, length, take, drop, Result, sym, ap, ◌∙◌, arith}
use Rattle.std.specs.Prelude.{nat_eq, count_by}
use Rattle.std.proofs.lemmas.List.{take-append-drop, take-take, drop-take, drop-drop}
use Rattle.std.proofs.lemmas.List.Sums.{sum_by-append}
use Rattle.dump_lex.specs.declared.token.TokenKind.{TokenKind}
use Rattle.dump_lex.specs.declared.token.LexKind.{LexKind}
use Rattle.dump_lex.specs.Bytes.{blanks}
use Rattle.dump_lex.specs.Place.{token_there, token_or_end, next, line_at}
use Rattle.dump_lex.specs.Front.{front}

pub take-add : {A : Type 0} (m n : ℕ) (xs : List A) → take (m + n) xs ≡ take m xs ++ take n (drop m xs)
take-add m n xs =
    let front : take m (take (m + n) xs) ≡ take m xs = take-take m (m + n) xs (omega arith) in
    sym (take-append-drop m (take (m + n) xs)) ∙ (λ i. front i ++ drop-take m n xs i)

pub newlines_in : List ℕ → ℕ
newlines_in bytes = count_by (λ b. nat_eq b 10) bytes

-- the line some bytes further on
pub line_on : (source rest : List ℕ) (start n : ℕ) → rest ≡ drop start source → line_at source (start + n) ≡ line_at source start + count_by (λ b. nat_eq b 10) (take n rest)
line_on source rest start n e =
    let f = λ (b : ℕ). cond (nat_eq b 10) 1 0 in
    let one : count_by (λ b. nat_eq b 10) (take (start + n) source) ≡ count_by (λ b. nat_eq b 10) (take start source) + count_by (λ b. nat_eq b 10) (take n (drop start source)) = ap (count_by (λ b. nat_eq b 10)) (take-add start n source) ∙ sum_by-append f (take start source) (take n (drop start source)) in
    rw e (omega (arith, one))

there : (source : List ℕ) (at : ℕ) (bytes : List ℕ) (r : Result (TokenKind × ℕ) LexKind) → 0 < length bytes → r ≡ front bytes → token_or_end source at bytes ≡ token_there source at bytes r
there source at [] r lt e = absurd (omega arith)
there source at (b ∷ bs) r lt e = ap (token_there source at (b ∷ bs)) (sym e)

pub next_is : (source rest bytes : List ℕ) (start blank : ℕ) → rest ≡ drop start source → blank ≡ blanks false rest → bytes ≡ drop blank rest → next (record { source = source; start = start }) ≡ token_or_end source (start + blank) bytes
unfolding next
next_is source rest bytes start blank e f g =
    let e1 : blanks false (drop start source) ≡ blank = ap (blanks false) (sym e) ∙ sym f in
    let e2 : drop (blanks false (drop start source)) (drop start source) ≡ bytes = (λ i. drop (e1 i) (sym e i)) ∙ sym g in
    λ i. token_or_end source (start + e1 i) (e2 i)

pub next_there : (source rest bytes : List ℕ) (start blank : ℕ) (r : Result (TokenKind × ℕ) LexKind) → rest ≡ drop start source → blank ≡ blanks false rest → bytes ≡ drop blank rest → 0 < length bytes → r ≡ front bytes
    → next (record { source = source; start = start }) ≡ token_there source (start + blank) bytes r
next_there source rest bytes start blank r e f g lt h = next_is source rest bytes start blank e f g ∙ there source (start + blank) bytes r lt h

pub line_next : (source rest text : List ℕ) (start line n k : ℕ) → rest ≡ drop start source → line ≡ line_at source start → n ≡ count_by (λ b. nat_eq b 10) text → text ≡ take k rest → line + n ≡ line_at source (start + k)
line_next source rest text start line n k e f g h = rw (f, g, h) (sym (line_on source rest start k e))

pub rest_next : (source rest bytes : List ℕ) (start k : ℕ) → rest ≡ drop start source → bytes ≡ drop k rest → bytes ≡ drop (start + k) source
rest_next source rest bytes start k e f = f ∙ ap (drop k) e ∙ drop-drop k start source
