-- The token at the front of bytes, by its first byte.
use Rattle.std.specs.Prelude.{ℕ, ◌+◌, Bool, false, ◌&&◌, nat_le, nat_eq, List, [], ◌∷◌, length, take, drop, Option, Some, None, is_some, Result, Ok, Err, if◌then◌else◌}
use Rattle.std.specs.List.{prefix_len, position_or_len}
use Rattle.dump_lex.specs.declared.bytes.Class.TheVariants as classes
use Rattle.dump_lex.specs.declared.bytes.Lead.{Lead}
use Rattle.dump_lex.specs.declared.bytes.Lead.TheVariants as leads
use Rattle.dump_lex.specs.declared.token.TokenKind.{TokenKind}
use Rattle.dump_lex.specs.declared.token.TokenKind.TheVariants as kinds
use Rattle.dump_lex.specs.declared.token.LexKind.{LexKind}
use Rattle.dump_lex.specs.declared.token.LexKind.TheVariants.{BadByte, Unclosed, BadNumber, BadHex, BadName}
use Rattle.dump_lex.specs.Bytes.{in_class, begins, lead_of}
use Rattle.dump_lex.specs.Enclosed.{closing}
use Rattle.dump_lex.specs.Value.{is_name, is_hex, number_of}

-- a plain word of n bytes
abbrev pub plain_token : ℕ → Result (TokenKind × ℕ) LexKind
plain_token n = if nat_le n 63 then Ok (kinds.Plain, n) else Err BadName

-- behind `x'`, with n bytes before the next `'` or the end
abbrev pub hex_before : ℕ → List ℕ → Result (TokenKind × ℕ) LexKind
hex_before n inside =
    if nat_eq n (length inside) then Err Unclosed
    else (if is_hex (take n inside) then Ok (kinds.Hex, n + 3) else Err BadHex)

abbrev pub hex_token : List ℕ → Result (TokenKind × ℕ) LexKind
hex_token inside = hex_before (position_or_len (λ b. nat_eq b 39) inside) inside

abbrev pub starts_hex : List ℕ → Bool
starts_hex [] = false
starts_hex (b ∷ bs) = nat_eq b 120 && begins (λ c. nat_eq c 39) bs

-- `x'` always begins a hex
abbrev pub letter_token : List ℕ → Result (TokenKind × ℕ) LexKind
letter_token bytes =
    if starts_hex bytes then hex_token (drop 2 bytes)
    else plain_token (prefix_len (in_class classes.Word) bytes)

-- n digits, which are this number or none
abbrev pub number_token : Option ℕ → ℕ → Result (TokenKind × ℕ) LexKind
number_token found n = if is_some found then Ok (kinds.Number, n) else Err BadNumber

abbrev pub digit_token : List ℕ → Result (TokenKind × ℕ) LexKind
digit_token bytes =
    let n = prefix_len (in_class classes.Digit) bytes in
    number_token (number_of (take n bytes)) n

-- behind `"`, from what `closing` finds
abbrev pub quoted_token : Option (List ℕ × ℕ) → Result (TokenKind × ℕ) LexKind
quoted_token None = Err Unclosed
quoted_token (Some x) = if is_name x.0 then Ok (kinds.Quoted, x.1 + 1) else Err BadName

-- behind `'`, from what `closing` finds
abbrev pub string_token : Option (List ℕ × ℕ) → Result (TokenKind × ℕ) LexKind
string_token None = Err Unclosed
string_token (Some x) = Ok (kinds.Str, x.1 + 1)

abbrev pub token_led : Lead → ℕ → List ℕ → Result (TokenKind × ℕ) LexKind
token_led leads.Capital b bs = Ok (kinds.Keyword, prefix_len (in_class classes.Upper) (b ∷ bs))
token_led leads.Letter b bs = letter_token (b ∷ bs)
token_led leads.Digit b bs = digit_token (b ∷ bs)
token_led leads.Quote b bs = quoted_token (closing 34 bs)
token_led leads.Apostrophe b bs = string_token (closing 39 bs)
token_led leads.Mark b bs = Ok (kinds.Mark, 1)
token_led leads.Other b bs = Err BadByte

-- the kind of the token at the front, and how many bytes it has; or why there is none
unfoldable pub front : List ℕ → Result (TokenKind × ℕ) LexKind
front [] = Err BadByte
front (b ∷ bs) = token_led (lead_of b) b bs
