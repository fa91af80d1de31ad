-- What `blanks` skips is spaces, newlines and whole comments, and nothing else.
use Rattle.std.proofs.Common.{◌≡◌, ℕ, suc, ◌+◌, Bool, true, false, List, [], ◌∷◌, ◌++◌, length, take, drop, refl, sym, ap, subst, append_assoc, length-append, inl, inr, arith}
use Rattle.std.specs.Prelude.{not, nat_eq}
use Rattle.std.specs.List.{position_or_len, list_all}
use Rattle.std.proofs.lemmas.Bool.{eqb-true, and_parts, or_parts, or_from, or_right, cases_Bool}
use Rattle.std.proofs.lemmas.List.{drop_at}
use Rattle.dump_lex.specs.Bytes.{begins, is_newline, begins_blank, is_separator, is_dash, starts_comment, blanks}
use Rattle.dump_lex.specs.Grammar.{Separates, nothing, one, comment, BlanksSeparate, SeparatedIsBlank}
use Rattle.dump_lex.proofs.Runs.{run_len_is}
use Rattle.dump_lex.proofs.Blank as blank

abbrev stays : ℕ → Bool
stays b = not (is_newline b)

-- ---- what separates is skipped

no_blank : (rest : List ℕ) → begins_blank rest ≡ false → blanks false rest ≡ 0
no_blank [] h = refl
no_blank (c ∷ cs) h = let p = or_parts (is_separator c) (starts_comment (c ∷ cs)) h in rw (p.0, p.1) refl

skipped : (rest s : List ℕ) → Separates rest s → begins_blank rest ≡ false → blanks false (s ++ rest) ≡ length s
skipped rest _ nothing h = no_blank rest h
skipped rest _ (one b s is sep) h = rw is (omega (arith, skipped rest s sep h))
skipped rest _ (comment line s whole ends sep) h =
    let bytes : List ℕ = 45 ∷ 45 ∷ (line ++ (s ++ rest)) in
    let regrouped : (line ++ s) ++ rest ≡ line ++ (s ++ rest) = append_assoc line s rest in
    let len : position_or_len is_newline bytes ≡ length (45 ∷ 45 ∷ line) = run_len_is stays (45 ∷ 45 ∷ line) (s ++ rest) whole ends in
    let skip = blank.comment bytes (length (45 ∷ 45 ∷ line)) refl (sym len) in
    let left : drop (length (45 ∷ 45 ∷ line)) bytes ≡ s ++ rest = drop_at (45 ∷ 45 ∷ line) (s ++ rest) (length (45 ∷ 45 ∷ line)) refl in
    let here : blanks false (45 ∷ 45 ∷ ((line ++ s) ++ rest)) ≡ blanks false bytes = ap (λ (l : List ℕ). blanks false (45 ∷ 45 ∷ l)) regrouped in
    omega (arith, here, skip.0, ap (blanks false) left, skipped rest s sep h, length-append line s)

pub separated_is_blank : SeparatedIsBlank
separated_is_blank s rest sep h = skipped rest s sep h

-- ---- what is skipped separates

record Skips (bs : List ℕ) (n : ℕ) : Type 0 where
  sep : Separates (drop n bs) (take n bs)
  stops : begins_blank (drop n bs) ≡ false

-- within a comment: the rest of its line, and what separates behind it
record SkipsLine (bs : List ℕ) (n : ℕ) : Type 0 where
  line : List ℕ
  after : List ℕ
  parts : take n bs ≡ line ++ after
  whole : list_all stays line ≡ true
  ends : begins stays (after ++ drop n bs) ≡ false
  sep : Separates (drop n bs) after
  stops : begins_blank (drop n bs) ≡ false

abbrev Either : Bool → List ℕ → ℕ → Type 0
Either true bs n = SkipsLine bs n
Either false bs n = Skips bs n

skips_one : (b : ℕ) (bs : List ℕ) (n : ℕ) → is_separator b ≡ true → Skips bs n → Skips (b ∷ bs) (suc n)
skips_one b bs n is s = record { sep = one b (take n bs) is s.sep; stops = s.stops }

skips_newline : (b : ℕ) (bs : List ℕ) (n : ℕ) → nat_eq b 10 ≡ true → Skips bs n → SkipsLine (b ∷ bs) (suc n)
skips_newline b bs n is s = record {
  line = [];
  after = b ∷ take n bs;
  parts = refl;
  whole = refl;
  ends = rw is refl;
  sep = one b (take n bs) (or_right (nat_eq b 32) (nat_eq b 10) is) s.sep;
  stops = s.stops;
}

skips_more : (b : ℕ) (bs : List ℕ) (n : ℕ) → nat_eq b 10 ≡ false → SkipsLine bs n → SkipsLine (b ∷ bs) (suc n)
skips_more b bs n isnt s = record {
  line = b ∷ s.line;
  after = s.after;
  parts = ap (λ (l : List ℕ). b ∷ l) s.parts;
  whole = rw isnt s.whole;
  ends = s.ends;
  sep = s.sep;
  stops = s.stops;
}

-- a comment, from what stands behind its `--`
skips_comment : (cs : List ℕ) (n : ℕ) → SkipsLine cs n → Skips (45 ∷ 45 ∷ cs) (suc (suc n))
skips_comment cs n s = record {
  sep = let there = comment s.line s.after s.whole s.ends s.sep in subst (λ (l : List ℕ). Separates (drop n cs) (45 ∷ 45 ∷ l)) (sym s.parts) there;
  stops = s.stops;
}

starts_comment_skips : (b c : ℕ) (cs : List ℕ) → SkipsLine cs (blanks true cs) → starts_comment (b ∷ c ∷ cs) ≡ true → Skips (b ∷ c ∷ cs) (1 + blanks true (c ∷ cs))
starts_comment_skips b c cs s h =
    let p = and_parts (is_dash b) (is_dash c) h in
    let two : suc (suc (blanks true cs)) ≡ 1 + (1 + blanks true cs) = omega arith in
    rw (eqb-true b 45 p.0, eqb-true c 45 p.1) (subst (Skips (45 ∷ 45 ∷ cs)) two (skips_comment cs (blanks true cs) s))

stops_here : (bs : List ℕ) → begins is_separator bs ≡ false → starts_comment bs ≡ false → Skips bs 0
stops_here bs h k = record { sep = nothing; stops = or_from (begins is_separator bs) (starts_comment bs) h k }

-- by what stands at the front
front_skips : (b : ℕ) (bs : List ℕ) → Skips bs (blanks false bs) → (starts_comment (b ∷ bs) ≡ true → Skips (b ∷ bs) (1 + blanks true bs)) → Skips (b ∷ bs) (blanks false (b ∷ bs))
front_skips b bs s t =
    let next : suc (blanks false bs) ≡ 1 + blanks false bs = omega arith in
    elim (cases_Bool (is_separator b)) [
      | inl h ↦ rw h (subst (Skips (b ∷ bs)) next (skips_one b bs (blanks false bs) h s))
      | inr h ↦ elim (cases_Bool (starts_comment (b ∷ bs))) [
        | inl k ↦ rw (h, k) (t k)
        | inr k ↦ rw (h, k) (stops_here (b ∷ bs) h k)
      ]
    ]

both : (bs : List ℕ) (within : Bool) → Either within bs (blanks within bs)
both [] true = record { line = []; after = []; parts = refl; whole = refl; ends = refl; sep = nothing; stops = refl }
both [] false = record { sep = nothing; stops = refl }
both (b ∷ bs) true =
    let P : Bool → Type 0 = λ t. nat_eq b 10 ≡ t → SkipsLine (b ∷ bs) (1 + blanks (not t) bs) in
    elim (nat_eq b 10) as P [
      | true ↦ λ e. let next : suc (blanks false bs) ≡ 1 + blanks false bs = omega arith in subst (SkipsLine (b ∷ bs)) next (skips_newline b bs (blanks false bs) e (both bs false))
      | false ↦ λ e. let next : suc (blanks true bs) ≡ 1 + blanks true bs = omega arith in subst (SkipsLine (b ∷ bs)) next (skips_more b bs (blanks true bs) e (both bs true))
    ] refl
both (b ∷ []) false = front_skips b [] (both [] false) (λ h. absurd (let p = and_parts (is_dash b) false h in let q = p.1 in cc))
both (b ∷ c ∷ cs) false = front_skips b (c ∷ cs) (both (c ∷ cs) false) (starts_comment_skips b c cs (both cs true))

pub blanks_separate : BlanksSeparate
blanks_separate bytes = let s = both bytes false in (s.sep, s.stops)
