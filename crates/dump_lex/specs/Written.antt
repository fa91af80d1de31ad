-- Values as the grammar writes them, and what they are read as.
use Rattle.std.specs.Prelude.{◌≡◌, ℕ, ◌+◌, ◌/◌, ◌%◌, ◌≤◌, Bool, true, ◌&&◌, nat_lt, List, [], ◌∷◌, Some, if◌then◌else◌}
use Rattle.std.specs.List.{list_all}
use Rattle.std.specs.Fmt.{decimal}
use Rattle.dump_lex.specs.declared.bytes.Class.TheVariants as classes
use Rattle.dump_lex.specs.declared.token.TokenKind.{TokenKind}
use Rattle.dump_lex.specs.declared.token.TokenKind.TheVariants as kinds
use Rattle.dump_lex.specs.Bytes.{begins, is_lower, in_class}
use Rattle.dump_lex.specs.Enclosed.{enclosed}
use Rattle.dump_lex.specs.Value.{is_name, name_of, string_of, bytes_of, number_of}
use Rattle.dump_lex.specs.Grammar.{hex_text, IsToken}

-- whether a name can be written as a plain word
abbrev pub is_word : List ℕ → Bool
is_word n = begins is_lower n && list_all (in_class classes.Word) n

-- a name as a plain word where it is one, else in `"`
abbrev pub name_text : List ℕ → List ℕ
name_text n = if is_word n then n else enclosed 34 n

abbrev pub name_kind : List ℕ → TokenKind
name_kind n = if is_word n then kinds.Plain else kinds.Quoted

-- the digit of a number below 16
abbrev pub hex_digit : ℕ → ℕ
hex_digit n = if nat_lt n 10 then 48 + n else 87 + n

-- two digits for each byte, the high one first
abbrev pub hex_of : List ℕ → List ℕ
hex_of [] = []
hex_of (b ∷ bs) = hex_digit (b / 16) ∷ hex_digit (b % 16) ∷ hex_of bs

abbrev pub are_bytes : List ℕ → Bool
are_bytes bs = list_all (λ b. nat_lt b 256) bs

-- what writes a value is a token, and is read as that value
pub record ValuesAreRead : Type 0 where
  pub a_name : (n : List ℕ) → is_name n ≡ true → IsToken (name_kind n) (name_text n) × (name_of (name_kind n) (name_text n) ≡ n)
  pub a_string : (s : List ℕ) → IsToken kinds.Str (enclosed 39 s) × (string_of (enclosed 39 s) ≡ s)
  pub a_hex : (bs : List ℕ) → are_bytes bs ≡ true → IsToken kinds.Hex (hex_text (hex_of bs)) × (bytes_of (hex_text (hex_of bs)) ≡ bs)
  pub a_number : (n : ℕ) → n ≤ 4294967295 → IsToken kinds.Number (decimal n) × (number_of (decimal n) ≡ Some n)
