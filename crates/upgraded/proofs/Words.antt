-- Names that begin with a digit, and the last names of paths: by these the names of relations' files are told from others.
use Rattle.std.proofs.Common.{inl, inr, length, ne_eqb, ◌≡◌, ◌≢◌, ℕ, zero, suc, ◌+◌, ◌<◌, ◌≤◌, ◌^◌, ◌/◌, ◌%◌, ◌==◌, ◌&&◌, nat_le, Bool, true, false, cond, List, [], ◌∷◌, ◌++◌, codes, refl, sym, ap, subst, ◌∙◌, arith, le-leb}
use Rattle.std.specs.Prelude.{slice_index}
use Rattle.std.specs.List.{list_all}
use Rattle.std.specs.Fmt.{decimal, digits, digits_onto, digit_glyph}
use Rattle.std.proofs.lemmas.Bool.{and_parts, cases_lt, lt-ltb}
use Rattle.std.proofs.lemmas.Fmt.{decimal_injective, length-decimal-le}
use Rattle.std.proofs.lemmas.List.{append_cancel_right}
use Rattle.fs_model.specs.Names.{Path}
use Rattle.relation_files.specs.declared.relation.Fork.{Fork}
use Rattle.relation_files.specs.declared.relation.Fork.TheVariants.{Main, FreeSpace, Visibility}
use Rattle.relation_files.specs.Places.{fork_suffix, segment_suffix}

-- ---- digits

abbrev pub is_digit : ℕ → Bool
is_digit byte = nat_le 48 byte && nat_le byte 57

-- the name begins with a digit
abbrev pub leads : List ℕ → Bool
leads [] = false
leads (byte ∷ bytes) = is_digit byte

both : (a b : Bool) → a ≡ true → b ≡ true → (a && b) ≡ true
both a b is does = λ i. is i && does i

digit_is : (d : ℕ) → d < 10 → is_digit (48 + d) ≡ true
digit_is d lt = both (nat_le 48 (48 + d)) (nat_le (48 + d) 57) (le-leb 48 (48 + d) (omega arith)) (le-leb (48 + d) 57 (omega arith))

glyph_is : (n : ℕ) → is_digit (digit_glyph false (n % 10)) ≡ true
glyph_is n = ap (λ b. is_digit (cond b (48 + n % 10) (87 + n % 10))) (lt-ltb (n % 10) 10 (omega arith)) ∙ digit_is (n % 10) (omega arith)

onto_leads : (k n : ℕ) (acc : List ℕ) → leads acc ≡ true → leads (digits_onto k 10 false n acc) ≡ true
onto_leads zero n acc led = led
onto_leads (suc k) n acc led =
    elim (n / 10 == 0) as (λ b. leads (cond b (digit_glyph false (n % 10) ∷ acc) (digits_onto k 10 false (n / 10) (digit_glyph false (n % 10) ∷ acc))) ≡ true) [
      | true ↦ glyph_is n
      | false ↦ onto_leads k (n / 10) (digit_glyph false (n % 10) ∷ acc) (glyph_is n)
    ]

onto_digits : (k n : ℕ) (acc : List ℕ) → list_all is_digit acc ≡ true → list_all is_digit (digits_onto k 10 false n acc) ≡ true
onto_digits zero n acc all = all
onto_digits (suc k) n acc all =
    elim (n / 10 == 0) as (λ b. list_all is_digit (cond b (digit_glyph false (n % 10) ∷ acc) (digits_onto k 10 false (n / 10) (digit_glyph false (n % 10) ∷ acc))) ≡ true) [
      | true ↦ more
      | false ↦ onto_digits k (n / 10) (digit_glyph false (n % 10) ∷ acc) more
    ]
  where
    more : list_all is_digit (digit_glyph false (n % 10) ∷ acc) ≡ true
    more = both (is_digit (digit_glyph false (n % 10))) (list_all is_digit acc) (glyph_is n) all

pub decimal_leads : (n : ℕ) → leads (decimal n) ≡ true
unfolding digits
decimal_leads n =
    elim (n / 10 == 0) as (λ b. leads (cond b (digit_glyph false (n % 10) ∷ []) (digits_onto 63 10 false (n / 10) (digit_glyph false (n % 10) ∷ []))) ≡ true) [
      | true ↦ glyph_is n
      | false ↦ onto_leads 63 (n / 10) (digit_glyph false (n % 10) ∷ []) (glyph_is n)
    ]

pub decimal_digits : (n : ℕ) → list_all is_digit (decimal n) ≡ true
unfolding digits
decimal_digits n = onto_digits 64 n [] refl

pub leads_before : (text suffix : List ℕ) → leads text ≡ true → leads (text ++ suffix) ≡ true
leads_before [] suffix led = absurd (cc led)
leads_before (byte ∷ bytes) suffix led = led

-- a name that begins with a digit is none that begins with another byte
pub leads_differ : (m n : List ℕ) → leads m ≡ true → leads n ≡ false → m ≢ n
leads_differ m n led other same = (let moved = ap leads same in cc (led, other, moved))

-- the digits before what is behind them are told
split : (xs ys x y : List ℕ) → list_all is_digit xs ≡ true → list_all is_digit ys ≡ true → leads x ≡ false → leads y ≡ false → xs ++ x ≡ ys ++ y → (xs ≡ ys) × (x ≡ y)
split [] [] x y all all_too none none_too same = (refl, same)
split [] (b ∷ ys) x y all all_too none none_too same =
    absurd (let led : leads x ≡ true = ap leads same ∙ (and_parts (is_digit b) (list_all is_digit ys) all_too).0 in cc (led, none))
split (a ∷ xs) [] x y all all_too none none_too same =
    absurd (let led : leads y ≡ true = ap leads (sym same) ∙ (and_parts (is_digit a) (list_all is_digit xs) all).0 in cc (led, none_too))
split (a ∷ xs) (b ∷ ys) x y all all_too none none_too same =
    let head : a ≡ b = cc same in
    let rest = split xs ys x y (and_parts (is_digit a) (list_all is_digit xs) all).1 (and_parts (is_digit b) (list_all is_digit ys) all_too).1 none none_too (cc same) in
    ((λ i. head i ∷ rest.0 i), rest.1)

-- ---- numbers that are told by their digits

-- the number has more than so many digits
abbrev IsLong : ℕ → ℕ → Type 0
IsLong zero n = Unit {0}
IsLong (suc k) n = (10 ≤ n) × IsLong k (n / 10)

onto_grows : (fuel n : ℕ) (acc : List ℕ) → length acc ≤ length (digits_onto fuel 10 false n acc)
onto_grows zero n acc = omega arith
onto_grows (suc fuel) n acc =
    elim (n / 10 == 0) as (λ b. length acc ≤ length (cond b (digit_glyph false (n % 10) ∷ acc) (digits_onto fuel 10 false (n / 10) (digit_glyph false (n % 10) ∷ acc)))) [
      | true ↦ omega arith
      | false ↦ (let more : suc (length acc) ≤ length (digits_onto fuel 10 false (n / 10) (digit_glyph false (n % 10) ∷ acc)) = onto_grows fuel (n / 10) (digit_glyph false (n % 10) ∷ acc) in omega (arith, more))
    ]

onto_long : (k fuel n : ℕ) (acc : List ℕ) → k ≤ fuel → IsLong k n → k + length acc ≤ length (digits_onto fuel 10 false n acc)
onto_long zero fuel n acc few long = let grows = onto_grows fuel n acc in omega (arith, grows)
onto_long (suc k) zero n acc few long = absurd (omega (arith, few))
onto_long (suc k) (suc fuel) n acc few (ten, long) =
    subst (λ b. suc k + length acc ≤ length (cond b (digit_glyph false (n % 10) ∷ acc) (digits_onto fuel 10 false (n / 10) (digit_glyph false (n % 10) ∷ acc))))
    (sym (ne_eqb (n / 10) 0 (λ e. omega (arith, e, ten))))
    (let more : k + suc (length acc) ≤ length (digits_onto fuel 10 false (n / 10) (digit_glyph false (n % 10) ∷ acc)) = onto_long k fuel (n / 10) (digit_glyph false (n % 10) ∷ acc) (omega (arith, few)) long in omega (arith, more))

large_is_long : (n : ℕ) → 2 ^ 64 ≤ n → IsLong 11 n
large_is_long n large =
    let a1 : 1000000000000000000 ≤ n / 10 = omega (arith, large) in
    let a2 : 100000000000000000 ≤ n / 10 / 10 = omega (arith, a1) in
    let a3 : 10000000000000000 ≤ n / 10 / 10 / 10 = omega (arith, a2) in
    let a4 : 1000000000000000 ≤ n / 10 / 10 / 10 / 10 = omega (arith, a3) in
    let a5 : 100000000000000 ≤ n / 10 / 10 / 10 / 10 / 10 = omega (arith, a4) in
    let a6 : 10000000000000 ≤ n / 10 / 10 / 10 / 10 / 10 / 10 = omega (arith, a5) in
    let a7 : 1000000000000 ≤ n / 10 / 10 / 10 / 10 / 10 / 10 / 10 = omega (arith, a6) in
    let a8 : 100000000000 ≤ n / 10 / 10 / 10 / 10 / 10 / 10 / 10 / 10 = omega (arith, a7) in
    let a9 : 10000000000 ≤ n / 10 / 10 / 10 / 10 / 10 / 10 / 10 / 10 / 10 = omega (arith, a8) in
    let a10 : 1000000000 ≤ n / 10 / 10 / 10 / 10 / 10 / 10 / 10 / 10 / 10 / 10 = omega (arith, a9) in
    (omega (arith, large), (omega (arith, a1), (omega (arith, a2), (omega (arith, a3), (omega (arith, a4), (omega (arith, a5), (omega (arith, a6), (omega (arith, a7), (omega (arith, a8), (omega (arith, a9), (omega (arith, a10), tt)))))))))))

large_digits : (n : ℕ) → 2 ^ 64 ≤ n → 11 ≤ length (decimal n)
unfolding digits
large_digits n large = let more = onto_long 11 64 n [] (omega arith) (large_is_long n large) in omega (arith, more)

-- a number of 32 bits has the digits of no other number
pub same_digits : (n m : ℕ) → m < 2 ^ 32 → decimal n ≡ decimal m → n ≡ m
same_digits n m small same =
    elim (cases_lt n (2 ^ 64)) [
      | inl below ↦ decimal_injective n m below (omega arith) same
      | inr large ↦ absurd (
          let more = large_digits n large in
          let ten : length (decimal m) ≤ 10 = length-decimal-le 10 m (omega arith) (omega arith) (omega arith) in
          let lengths : length (decimal n) ≡ length (decimal m) = ap length same in
          omega (arith, more, ten, lengths))
    ]

-- ---- suffixes

segment_other : (segment : ℕ) → leads (segment_suffix segment) ≡ false
segment_other zero = refl
segment_other (suc n) = refl

suffix_other : (fork : Fork) (segment : ℕ) → leads (fork_suffix fork ++ segment_suffix segment) ≡ false
suffix_other Main segment = segment_other segment
suffix_other FreeSpace segment = refl
suffix_other Visibility segment = refl

same_segment : (m n : ℕ) → n < 2 ^ 32 → segment_suffix m ≡ segment_suffix n → m ≡ n
same_segment zero zero small same = refl
same_segment zero (suc n) small same = absurd (cc same)
same_segment (suc m) zero small same = absurd (cc same)
same_segment (suc m) (suc n) small same = same_digits (suc m) (suc n) small (cc same)

-- the suffix of a fork begins with an underscore, and that of a segment doesn't
abbrev scored : List ℕ → Bool
scored [] = false
scored (byte ∷ bytes) = byte == 95

unscored : (segment : ℕ) → scored (segment_suffix segment) ≡ false
unscored zero = refl
unscored (suc n) = refl

no_main : (text : List ℕ) (segment : ℕ) → scored text ≡ true → segment_suffix segment ≡ text → ⊥
no_main text segment is same = (let isnt = unscored segment in let moved = ap scored same in cc (is, isnt, moved))

same_suffix : (f g : Fork) (m n : ℕ) → n < 2 ^ 32 → fork_suffix f ++ segment_suffix m ≡ fork_suffix g ++ segment_suffix n → (f ≡ g) × (m ≡ n)
same_suffix Main Main m n small same = (refl, same_segment m n small same)
same_suffix Main FreeSpace m n small same = absurd (no_main (codes "_fsm" ++ segment_suffix n) m refl same)
same_suffix Main Visibility m n small same = absurd (no_main (codes "_vm" ++ segment_suffix n) m refl same)
same_suffix FreeSpace Main m n small same = absurd (no_main (codes "_fsm" ++ segment_suffix m) n refl (sym same))
same_suffix FreeSpace FreeSpace m n small same = (refl, same_segment m n small (cc same))
same_suffix FreeSpace Visibility m n small same = absurd (let moved : true ≡ false = ap (λ (text : List ℕ). slice_index text 1 == 102) same in cc moved)
same_suffix Visibility Main m n small same = absurd (no_main (codes "_vm" ++ segment_suffix m) n refl (sym same))
same_suffix Visibility FreeSpace m n small same = absurd (let moved : false ≡ true = ap (λ (text : List ℕ). slice_index text 1 == 102) same in cc moved)
same_suffix Visibility Visibility m n small same = (refl, same_segment m n small (cc same))

-- the name of a segment tells the number of its file, its fork and its own
pub same_name : (a b : ℕ) (f g : Fork) (m n : ℕ) → a < 2 ^ 32 → b < 2 ^ 32 → n < 2 ^ 32
    → decimal a ++ (fork_suffix f ++ segment_suffix m) ≡ decimal b ++ (fork_suffix g ++ segment_suffix n) → (a ≡ b) × (f ≡ g) × (m ≡ n)
same_name a b f g m n small_a small_b small_n same =
    let (digits_same, suffixes) = split (decimal a) (decimal b) (fork_suffix f ++ segment_suffix m) (fork_suffix g ++ segment_suffix n) (decimal_digits a) (decimal_digits b) (suffix_other f m) (suffix_other g n) same in
    let (forks, segments) = same_suffix f g m n small_n suffixes in
    (decimal_injective a b (omega arith) (omega arith) digits_same, forks, segments)

-- ---- the last names of paths

abbrev pub last : Path → List ℕ
last [] = []
last (name ∷ []) = name
last (name ∷ next ∷ rest) = last (next ∷ rest)

pub last_below : (root : Path) (name : List ℕ) (rest : Path) → last (root ++ name ∷ rest) ≡ last (name ∷ rest)
last_below [] name rest = refl
last_below (a ∷ []) name rest = refl
last_below (a ∷ b ∷ root) name rest = last_below (b ∷ root) name rest

-- two paths with one last name have it in one directory
pub same_push : (p q : Path) (m n : List ℕ) → p ++ m ∷ [] ≡ q ++ n ∷ [] → (p ≡ q) × (m ≡ n)
same_push p q m n same =
    let names : m ≡ n = sym (last_below p m []) ∙ ap last same ∙ last_below q n [] in
    (append_cancel_right p q (n ∷ []) (ap (λ name. p ++ name ∷ []) (sym names) ∙ same), names)
