-- The names of segments differ: each tells its directory, its file number, its fork and its segment.
use Rattle.std.proofs.Common.{◌≡◌, inl, inr, ℕ, zero, suc, ◌+◌, ◌<◌, ◌≤◌, ◌^◌, ◌/◌, ◌%◌, ◌==◌, Bool, true, false, cond, List, [], ◌∷◌, ◌++◌, length, refl, sym, ap, subst, arith, ne_eqb, ◌*◌}
use Rattle.std.specs.List.{AllByRecursion}
use Rattle.std.specs.Fmt.{decimal, digits, digits_onto, digit_glyph}
use Rattle.std.proofs.Math.Nat.{pow-succ'}
use Rattle.std.proofs.lemmas.Bool.{cases_lt}
use Rattle.std.proofs.lemmas.Fmt.{decimal_by_steps, length-decimal-le, decimal_injective}
use Rattle.fs_model.specs.Names.{Path}
use Rattle.relation_files.specs.declared.relation.Fork.{Fork}
use Rattle.relation_files.specs.declared.relation.Fork.TheVariants.{Main, FreeSpace, Visibility}
use Rattle.relation_files.specs.Places.{fork_suffix, segment_suffix}
use Rattle.plan_build.specs.Planned.{file_at}

-- ---- a directory and a name in it

nothing_one : {A : Type 0} (ys : List A) (b : A) → [] ≡ ys ++ b ∷ [] → ⊥
nothing_one [] b same = absurd (cc same)
nothing_one (y ∷ ys) b same = absurd (cc same)

pub last_same : {A : Type 0} (xs ys : List A) (a b : A) → xs ++ a ∷ [] ≡ ys ++ b ∷ [] → (xs ≡ ys) × (a ≡ b)
last_same [] [] a b same = (refl, cc same)
last_same [] (y ∷ ys) a b same = absurd (nothing_one ys b (cc same))
last_same (x ∷ xs) [] a b same = absurd (nothing_one xs a (cc (sym same)))
last_same (x ∷ xs) (y ∷ ys) a b same =
    let first : x ≡ y = cc same in
    let behind : xs ++ a ∷ [] ≡ ys ++ b ∷ [] = cc same in
    let rest = last_same xs ys a b behind in
    ((λ i. first i ∷ rest.0 i), rest.1)

-- ---- a number and what stands behind it

abbrev IsDigit : ℕ → Type 0
IsDigit d = (48 ≤ d) × (d ≤ 57)

abbrev AreDigits : List ℕ → Type 0
AreDigits = AllByRecursion IsDigit

-- the text doesn't begin with a digit
abbrev BeginsApart : List ℕ → Type 0
BeginsApart [] = Unit {0}
BeginsApart (c ∷ rest) = IsDigit c → ⊥

more_digits : (text : List ℕ) (d : ℕ) → AreDigits text → IsDigit d → AreDigits (text ++ d ∷ [])
more_digits [] d all digit = (digit, tt)
more_digits (c ∷ text) d all digit = (all.0, more_digits text d all.1 digit)

number_digits : (n : ℕ) → n < 2 ^ 64 → AreDigits (decimal n)
number_digits = decimal_by_steps (λ n text. AreDigits text)
    (λ n lt. ((omega arith, omega arith), tt))
    (λ n text le all. more_digits text (48 + n % 10) all (omega arith, omega arith))

parts_same : (xs ys r q : List ℕ) → AreDigits xs → AreDigits ys → BeginsApart r → BeginsApart q → xs ++ r ≡ ys ++ q → (xs ≡ ys) × (r ≡ q)
parts_same [] [] r q of_x of_y apart_r apart_q same = (refl, same)
parts_same [] (y ∷ ys) [] q of_x of_y apart_r apart_q same = absurd (cc same)
parts_same [] (y ∷ ys) (c ∷ r) q of_x of_y apart_r apart_q same = absurd (apart_r (let first : y ≡ c = cc (sym same) in subst IsDigit first of_y.0))
parts_same (x ∷ xs) [] r [] of_x of_y apart_r apart_q same = absurd (cc same)
parts_same (x ∷ xs) [] r (c ∷ q) of_x of_y apart_r apart_q same = absurd (apart_q (let first : x ≡ c = cc same in subst IsDigit first of_x.0))
parts_same (x ∷ xs) (y ∷ ys) r q of_x of_y apart_r apart_q same =
    let first : x ≡ y = cc same in
    let behind : xs ++ r ≡ ys ++ q = cc same in
    let rest = parts_same xs ys r q of_x.1 of_y.1 apart_r apart_q behind in
    ((λ i. first i ∷ rest.0 i), rest.1)

-- ---- a number of any size has other digits than a small one

more_than : (acc front behind : List ℕ) (b : Bool) → length acc ≤ length front → length acc ≤ length behind → length acc ≤ length (cond b front behind)
more_than acc front behind true first second = first
more_than acc front behind false first second = second

grows : (j n : ℕ) (acc : List ℕ) → length acc ≤ length (digits_onto j 10 false n acc)
grows zero n acc = omega arith
grows (suc j) n acc =
    let glyph : ℕ = digit_glyph false (n % 10) in
    let more : suc (length acc) ≤ length (digits_onto j 10 false (n / 10) (glyph ∷ acc)) = grows j (n / 10) (glyph ∷ acc) in
    more_than acc (glyph ∷ acc) (digits_onto j 10 false (n / 10) (glyph ∷ acc)) (n / 10 == 0) (omega arith) (omega arith)

powers : (k : ℕ) → 1 ≤ 10 ^ k
powers zero = omega arith
powers (suc k) = let before : 1 ≤ 10 ^ k = powers k in let next : 10 ^ suc k ≡ 10 * 10 ^ k = pow-succ' 10 k in omega arith

has_digits : (k j n : ℕ) (acc : List ℕ) → 10 ^ k ≤ n → k ≤ j → k + length acc ≤ length (digits_onto j 10 false n acc)
has_digits zero j n acc big fits = let more = grows j n acc in omega arith
has_digits (suc k) zero n acc big fits = absurd (omega arith)
has_digits (suc k) (suc j) n acc big fits =
    let glyph : ℕ = digit_glyph false (n % 10) in
    let next : 10 ^ suc k ≡ 10 * 10 ^ k = pow-succ' 10 k in
    let one : 1 ≤ 10 ^ k = powers k in
    let left : 10 ^ k ≤ n / 10 = omega arith in
    let behind : k + suc (length acc) ≤ length (digits_onto j 10 false (n / 10) (glyph ∷ acc)) = has_digits k j (n / 10) (glyph ∷ acc) left (omega arith) in
    let some : (n / 10 == 0) ≡ false = ne_eqb (n / 10) 0 (λ e. omega arith) in
    subst (λ b. suc k + length acc ≤ length (cond b (glyph ∷ acc) (digits_onto j 10 false (n / 10) (glyph ∷ acc)))) (sym some) (omega arith)

many_digits : (n : ℕ) → 2 ^ 64 ≤ n → 11 ≤ length (decimal n)
unfolding digits
many_digits n big = let long = has_digits 11 64 n [] (omega arith) (omega arith) in omega arith

pub number_same : (m n : ℕ) → m < 2 ^ 32 → decimal m ≡ decimal n → m ≡ n
number_same m n small same = elim (cases_lt n (2 ^ 64)) [ inl lt ↦ decimal_injective m n (omega arith) lt same | inr le ↦ absurd (not_big le) ]
  where
    not_big : 2 ^ 64 ≤ n → ⊥
    not_big le =
        let few : length (decimal m) ≤ 10 = length-decimal-le 10 m (omega arith) (omega arith) (omega arith) in
        let many : 11 ≤ length (decimal n) = many_digits n le in
        let equal : length (decimal m) ≡ length (decimal n) = ap length same in
        omega arith

-- ---- suffixes

segment_apart : (fork : Fork) (n : ℕ) → BeginsApart (fork_suffix fork ++ segment_suffix n)
segment_apart Main zero = tt
segment_apart Main (suc n) = λ digit. let low = digit.0 in omega arith
segment_apart FreeSpace n = λ digit. let high = digit.1 in omega arith
segment_apart Visibility n = λ digit. let high = digit.1 in omega arith

-- the first byte, and those behind it
abbrev pub first_of : List ℕ → ℕ
first_of [] = 0
first_of (c ∷ rest) = c

abbrev pub rest_of : List ℕ → List ℕ
rest_of [] = []
rest_of (c ∷ rest) = rest

segment_same : (m n : ℕ) → m < 2 ^ 32 → segment_suffix m ≡ segment_suffix n → m ≡ n
segment_same zero zero small same = refl
segment_same zero (suc n) small same = let first : ◌≡◌ {A = ℕ} 0 46 = ap first_of same in absurd (omega arith)
segment_same (suc m) zero small same = let first : ◌≡◌ {A = ℕ} 46 0 = ap first_of same in absurd (omega arith)
segment_same (suc m) (suc n) small same = number_same (suc m) (suc n) small (ap rest_of same)

main_first : (n : ℕ) → first_of (segment_suffix n) ≡ 95 → ⊥
main_first zero same = absurd (omega arith)
main_first (suc n) same = let first : ◌≡◌ {A = ℕ} 46 95 = same in absurd (omega arith)

same_by : (a b : Fork) (m n : ℕ) → a ≡ b → m ≡ n → (a ≡ b) × (m ≡ n)
same_by a b m n forks segments = (forks, segments)

suffix_same : (a b : Fork) (m n : ℕ) → m < 2 ^ 32 → fork_suffix a ++ segment_suffix m ≡ fork_suffix b ++ segment_suffix n → (a ≡ b) × (m ≡ n)
suffix_same Main Main m n small same = same_by Main Main m n refl (segment_same m n small same)
suffix_same FreeSpace FreeSpace m n small same = same_by FreeSpace FreeSpace m n refl (segment_same m n small (ap (λ l. rest_of (rest_of (rest_of (rest_of l)))) same))
suffix_same Visibility Visibility m n small same = same_by Visibility Visibility m n refl (segment_same m n small (ap (λ l. rest_of (rest_of (rest_of l))) same))
suffix_same Main FreeSpace m n small same = absurd (main_first m (ap first_of same))
suffix_same Main Visibility m n small same = absurd (main_first m (ap first_of same))
suffix_same FreeSpace Main m n small same = absurd (main_first n (ap first_of (sym same)))
suffix_same Visibility Main m n small same = absurd (main_first n (ap first_of (sym same)))
suffix_same FreeSpace Visibility m n small same = let second : ◌≡◌ {A = ℕ} 102 118 = ap (λ l. first_of (rest_of l)) same in absurd (omega arith)
suffix_same Visibility FreeSpace m n small same = let second : ◌≡◌ {A = ℕ} 118 102 = ap (λ l. first_of (rest_of l)) same in absurd (omega arith)

-- ---- paths

-- two segments that have one path
pub record AreOne (dir : Path) (file : ℕ) (fork : Fork) (segment : ℕ) (dir' : Path) (file' : ℕ) (fork' : Fork) (segment' : ℕ) : Type 0 where
  pub dirs : dir ≡ dir'
  pub files : file ≡ file'
  pub forks : fork ≡ fork'
  pub segments : segment ≡ segment'

pub dir_same : (dir dir' : Path) (file file' : ℕ) (fork fork' : Fork) (segment segment' : ℕ) → file_at dir file fork segment ≡ file_at dir' file' fork' segment' → dir ≡ dir'
unfolding file_at
dir_same dir dir' file file' fork fork' segment segment' same = (last_same dir dir' _ _ same).0

pub path_same : (dir dir' : Path) (file file' : ℕ) (fork fork' : Fork) (segment segment' : ℕ) → file < 2 ^ 32 → file' < 2 ^ 32 → segment < 2 ^ 32 → file_at dir file fork segment ≡ file_at dir' file' fork' segment'
    → AreOne dir file fork segment dir' file' fork' segment'
unfolding file_at
path_same dir dir' file file' fork fork' segment segment' small small' few same =
    let both = last_same dir dir' _ _ same in
    let parts = parts_same (decimal file) (decimal file') (fork_suffix fork ++ segment_suffix segment) (fork_suffix fork' ++ segment_suffix segment') (number_digits file (omega arith)) (number_digits file' (omega arith)) (segment_apart fork segment) (segment_apart fork' segment') both.1 in
    let suffix = suffix_same fork fork' segment segment' few parts.1 in
    record { dirs = both.0; files = number_same file file' small parts.0; forks = suffix.0; segments = suffix.1 }
