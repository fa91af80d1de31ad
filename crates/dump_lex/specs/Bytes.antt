-- Bytes by what they can stand in, and what separates tokens.
use Rattle.std.specs.Prelude.{◌≡◌, ℕ, ◌+◌, ◌<◌, ◌≤◌, Bool, true, false, ◌&&◌, ◌||◌, not, nat_le, nat_eq, List, [], ◌∷◌, length, drop, Option, Some, None, if◌then◌else◌}
use Rattle.dump_lex.specs.declared.bytes.Class.{Class}
use Rattle.dump_lex.specs.declared.bytes.Class.TheVariants as classes
use Rattle.dump_lex.specs.declared.bytes.Lead.{Lead}
use Rattle.dump_lex.specs.declared.bytes.Lead.TheVariants as leads

abbrev pub is_between : ℕ → ℕ → ℕ → Bool
is_between low high b = nat_le low b && nat_le b high

-- `A` to `Z`; `a` to `z`, `0` to `9` and `_`; `0` to `9`; `0` to `9` and `a` to `f`
abbrev pub in_class : Class → ℕ → Bool
in_class classes.Upper b = is_between 65 90 b
in_class classes.Word b = is_between 97 122 b || nat_eq b 95 || is_between 48 57 b
in_class classes.Digit b = is_between 48 57 b
in_class classes.HexDigit b = is_between 48 57 b || is_between 97 102 b

-- `a` to `z` and `_`, with which a plain word begins
abbrev pub is_lower : ℕ → Bool
is_lower b = is_between 97 122 b || nat_eq b 95

-- ( ) , ; .
abbrev pub is_mark : ℕ → Bool
is_mark b = nat_eq b 40 || nat_eq b 41 || nat_eq b 44 || nat_eq b 59 || nat_eq b 46

-- the first byte, if there is one, passes the test
abbrev pub begins : (ℕ → Bool) → List ℕ → Bool
begins p [] = false
begins p (b ∷ bs) = p b

-- what a token is that begins with the byte
abbrev pub lead_of : ℕ → Lead
lead_of b =
    if is_between 65 90 b then leads.Capital
    else (if is_lower b then leads.Letter
    else (if is_between 48 57 b then leads.Digit
    else (if nat_eq b 34 then leads.Quote
    else (if nat_eq b 39 then leads.Apostrophe
    else (if is_mark b then leads.Mark else leads.Other)))))

-- ---- separators

abbrev pub is_newline : ℕ → Bool
is_newline b = nat_eq b 10

-- a space or a newline
abbrev pub is_separator : ℕ → Bool
is_separator b = nat_eq b 32 || is_newline b

abbrev pub is_dash : ℕ → Bool
is_dash b = nat_eq b 45

-- `--`
abbrev pub starts_comment : List ℕ → Bool
starts_comment [] = false
starts_comment (b ∷ bs) = is_dash b && begins is_dash bs

-- How many bytes at the front separate tokens: spaces, newlines, and comments from `--` to the end of their
-- line. The first argument says whether the bytes begin within a comment.
abbrev pub blanks : Bool → List ℕ → ℕ
blanks within [] = 0
blanks true (b ∷ bs) = 1 + blanks (not (is_newline b)) bs
blanks false (b ∷ bs) =
    if is_separator b then 1 + blanks false bs
    else (if starts_comment (b ∷ bs) then 1 + blanks true bs else 0)

-- how many bytes the separator at the front has, if one stands there
abbrev pub IsSeparatorLen : List ℕ → Option ℕ → Type 0
IsSeparatorLen bytes None = blanks false bytes ≡ 0
IsSeparatorLen bytes (Some n) = (blanks false bytes ≡ n + blanks false (drop n bytes)) × (0 < n) × (n ≤ length bytes)

-- a space, a newline or a comment stands at the front
abbrev pub begins_blank : List ℕ → Bool
begins_blank bytes = begins is_separator bytes || starts_comment bytes
