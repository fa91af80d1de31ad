-- What the text of a token means: the name, the string, the bytes or the number that it writes.
use Rattle.std.specs.Prelude.{ℕ, ◌+◌, ◌*◌, ◌-◌, ◌%◌, Bool, false, ◌&&◌, ◌||◌, not, nat_lt, nat_le, nat_eq, List, [], ◌∷◌, length, take, drop, Option, Some, None, if◌then◌else◌}
use Rattle.std.specs.List.{list_all}
use Rattle.dump_lex.specs.declared.bytes.Class.TheVariants as classes
use Rattle.dump_lex.specs.declared.token.TokenKind.{TokenKind}
use Rattle.dump_lex.specs.declared.token.TokenKind.TheVariants as kinds
use Rattle.dump_lex.specs.Bytes.{is_between, in_class}
use Rattle.dump_lex.specs.Enclosed.{enclosed_text}

-- ---- names

-- 1 to 63 bytes, none of them zero
abbrev pub is_name : List ℕ → Bool
is_name n = nat_lt 0 (length n) && nat_le (length n) 63 && list_all (λ b. nat_lt 0 b) n

-- the name that a plain word or a quoted name is
abbrev pub name_of : TokenKind → List ℕ → List ℕ
name_of kinds.Quoted t = enclosed_text 34 t
name_of _ t = t

-- ---- strings

-- the text that a string is
abbrev pub string_of : List ℕ → List ℕ
string_of t = enclosed_text 39 t

-- ---- bytes

-- an even number of the digits `0` to `9` and `a` to `f`
abbrev pub is_hex : List ℕ → Bool
is_hex digits = nat_eq (length digits % 2) 0 && list_all (in_class classes.HexDigit) digits

-- the value of a digit `0` to `9` or `a` to `f`
abbrev pub hex_digit_of : ℕ → ℕ
hex_digit_of d = if is_between 48 57 d then d - 48 else (if is_between 97 102 d then d - 87 else 0)

-- two digits for each byte, the high one first
abbrev pub bytes_in : List ℕ → List ℕ
bytes_in [] = []
bytes_in (d ∷ []) = []
bytes_in (d ∷ e ∷ ds) = (16 * hex_digit_of d + hex_digit_of e) ∷ bytes_in ds

-- the bytes that `x'`, digits and `'` are
abbrev pub bytes_of : List ℕ → List ℕ
bytes_of t = bytes_in (take (length t - 3) (drop 2 t))

-- ---- numbers

-- the number that the digits write when they follow those of n
abbrev pub value_after : ℕ → List ℕ → ℕ
value_after n [] = n
value_after n (d ∷ ds) = value_after (10 * n + (d - 48)) ds

-- `0` with a digit behind it
abbrev pub has_leading_zero : List ℕ → Bool
has_leading_zero [] = false
has_leading_zero (d ∷ []) = false
has_leading_zero (d ∷ e ∷ es) = nat_eq d 48

-- the number that digits are: at most 4294967295, without a leading zero
abbrev pub number_of : List ℕ → Option ℕ
number_of ds = if has_leading_zero ds || not (nat_le (value_after 0 ds) 4294967295) then None else Some (value_after 0 ds)
