-- What begins with a number in digits is the name of a file.
use Rattle.std.proofs.Common.{◌≡◌, ℕ, zero, suc, ◌+◌, ◌<◌, ◌≤◌, ◌^◌, ◌/◌, ◌%◌, ◌==◌, ◌&&◌, ◌||◌, not, leb, eqb, Bool, true, false, List, [], ◌∷◌, ◌++◌, length, codes, refl, ap, sym, subst, ◌∙◌, arith, ne_eqb, le-leb, length-append}
use Rattle.std.specs.Str.{bytes_eq}
use Rattle.std.specs.Fmt.{decimal}
use Rattle.std.specs.List.{list_all}
use Rattle.std.proofs.lemmas.Fmt.{decimal_by_steps, length-decimal-le}
use Rattle.std.proofs.lemmas.List.Folds.{list_all-append}
use Rattle.fs_model.specs.Names.{is_name_byte, is_name}
use Rattle.relation_files.specs.declared.relation.Fork.{Fork}
use Rattle.relation_files.specs.declared.relation.Fork.TheVariants.{Main, FreeSpace, Visibility}
use Rattle.relation_files.specs.Places.{fork_suffix, segment_suffix}

-- bytes that a name may have, of which the first is a digit
record IsBegun (text : List ℕ) : Type 0 where
  pub first : ℕ
  pub rest : List ℕ
  pub is : text ≡ first ∷ rest
  pub digit : 48 ≤ first
  pub bytes : list_all is_name_byte text ≡ true

name_byte : (d : ℕ) → is_name_byte (48 + d) ≡ true
name_byte d = (λ i. not (ne_eqb (48 + d) 47 (λ e. omega arith) i) && not (ne_eqb (48 + d) 0 (λ e. omega arith) i))

both : (a b : Bool) → a ≡ true → b ≡ true → (a && b) ≡ true
both a b is does = λ i. is i && does i

one_digit : (n : ℕ) → n < 10 → IsBegun ((48 + n) ∷ [])
one_digit n lt = record { first = 48 + n; rest = []; is = refl; digit = omega arith; bytes = both (is_name_byte (48 + n)) true (name_byte n) refl }

followed : (text suffix : List ℕ) → IsBegun text → list_all is_name_byte suffix ≡ true → IsBegun (text ++ suffix)
followed text suffix begun may = record {
  first = begun.first;
  rest = begun.rest ++ suffix;
  is = ap (λ (l : List ℕ). l ++ suffix) begun.is;
  digit = begun.digit;
  bytes = list_all-append is_name_byte text suffix ∙ both (list_all is_name_byte text) (list_all is_name_byte suffix) begun.bytes may;
}

last_digit : (n : ℕ) (text : List ℕ) → 10 ≤ n → IsBegun text → IsBegun (text ++ ((48 + n % 10) ∷ []))
last_digit n text le begun = followed text ((48 + n % 10) ∷ []) begun (both (is_name_byte (48 + n % 10)) true (name_byte (n % 10)) refl)

number_begun : (n : ℕ) → n < 2 ^ 64 → IsBegun (decimal n)
number_begun = decimal_by_steps (λ n text. IsBegun text) one_digit last_digit

-- such a text is neither `.` nor `..`
no_dots : (text : List ℕ) (behind : List ℕ) → IsBegun text → bytes_eq text (46 ∷ behind) ≡ false
no_dots text behind begun =
    ap (λ (l : List ℕ). bytes_eq l (46 ∷ behind)) begun.is
    ∙ ap (λ b. b && bytes_eq begun.rest behind) (ne_eqb begun.first 46 (λ e. let h = begun.digit in omega arith))

not_empty : (text : List ℕ) → IsBegun text → (length text == 0) ≡ false
not_empty text begun = ne_eqb (length text) 0 (λ e. let n : suc (length begun.rest) ≡ 0 = ap length (sym begun.is) ∙ e in omega (arith, n))

begun_is_name : (text : List ℕ) → IsBegun text → length text ≤ 255 → is_name text ≡ true
begun_is_name text begun fits =
    λ i. not (not_empty text begun i) && le-leb (length text) 255 fits i && begun.bytes i && not (no_dots text [] begun i || no_dots text (46 ∷ []) begun i)

-- a number's digits, and further bytes behind them
pub number_is_name : (n : ℕ) (suffix : List ℕ) → n < 2 ^ 32 → length suffix ≤ 200 → list_all is_name_byte suffix ≡ true → is_name (decimal n ++ suffix) ≡ true
number_is_name n suffix lt few may =
    begun_is_name (decimal n ++ suffix) (followed (decimal n) suffix (number_begun n (omega arith)) may)
    (let ten : length (decimal n) ≤ 10 = length-decimal-le 10 n (omega arith) (omega arith) (omega arith) in omega (arith, length-append (decimal n) suffix))

pub number_alone_is_name : (n : ℕ) → n < 2 ^ 32 → is_name (decimal n) ≡ true
number_alone_is_name n lt =
    begun_is_name (decimal n) (number_begun n (omega arith)) (let ten : length (decimal n) ≤ 10 = length-decimal-le 10 n (omega arith) (omega arith) (omega arith) in omega arith)

-- ---- the suffixes of forks and of segments

fork_bytes : (fork : Fork) → list_all is_name_byte (fork_suffix fork) ≡ true
fork_bytes Main = refl
fork_bytes FreeSpace = refl
fork_bytes Visibility = refl

few_fork_bytes : (fork : Fork) → length (fork_suffix fork) ≤ 4
few_fork_bytes Main = omega arith
few_fork_bytes FreeSpace = omega arith
few_fork_bytes Visibility = omega arith

segment_bytes : (n : ℕ) → n < 2 ^ 32 → list_all is_name_byte (segment_suffix n) ≡ true
segment_bytes zero lt = refl
segment_bytes (suc n) lt = list_all-append is_name_byte (46 ∷ []) (decimal (suc n)) ∙ (number_begun (suc n) (omega arith)).bytes

few_segment_bytes : (n : ℕ) → n < 2 ^ 32 → length (segment_suffix n) ≤ 11
few_segment_bytes zero lt = omega arith
few_segment_bytes (suc n) lt = let ten : length (decimal (suc n)) ≤ 10 = length-decimal-le 10 (suc n) (omega arith) (omega arith) (omega arith) in omega arith

-- the name of a segment of a fork
pub segment_is_name : (file : ℕ) (fork : Fork) (segment : ℕ) → file < 2 ^ 32 → segment < 2 ^ 32 → is_name (decimal file ++ (fork_suffix fork ++ segment_suffix segment)) ≡ true
segment_is_name file fork segment a b =
    number_is_name file (fork_suffix fork ++ segment_suffix segment) a
    (let f = few_fork_bytes fork in let s = few_segment_bytes segment b in omega (arith, length-append (fork_suffix fork) (segment_suffix segment)))
    (list_all-append is_name_byte (fork_suffix fork) (segment_suffix segment) ∙ both (list_all is_name_byte (fork_suffix fork)) (list_all is_name_byte (segment_suffix segment)) (fork_bytes fork) (segment_bytes segment b))
