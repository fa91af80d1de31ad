-- The grammar of tokens: what a token of each kind is, which bytes make it longer, and when there is none.
use Rattle.std.specs.Prelude.{◌≡◌, ℕ, ◌<◌, ◌≤◌, Bool, true, false, ◌&&◌, ◌||◌, not, nat_eq, List, [], ◌∷◌, ◌++◌, length, take, drop, Result, Ok, Err, ◌⊎◌}
use Rattle.std.specs.List.{list_all}
use Rattle.dump_lex.specs.declared.bytes.Class.{Class}
use Rattle.dump_lex.specs.declared.bytes.Class.TheVariants as classes
use Rattle.dump_lex.specs.declared.token.TokenKind.{TokenKind}
use Rattle.dump_lex.specs.declared.token.TokenKind.TheVariants as kinds
use Rattle.dump_lex.specs.declared.token.LexKind.{LexKind}
use Rattle.dump_lex.specs.declared.token.LexKind.TheVariants.{BadByte, Unclosed, BadNumber, BadHex, BadName}
use Rattle.dump_lex.specs.Bytes.{is_between, in_class, is_lower, is_mark, begins, is_newline, is_separator, begins_blank, blanks}
use Rattle.dump_lex.specs.Enclosed.{doubled, enclosed}
use Rattle.dump_lex.specs.Value.{is_name, is_hex, value_after, has_leading_zero}
use Rattle.dump_lex.specs.Front.{front}

-- one or more bytes of the class
abbrev pub IsRun : Class → List ℕ → Type 0
IsRun class t = (begins (in_class class) t ≡ true) × (list_all (in_class class) t ≡ true)

-- a letter or `_`, then letters, digits and `_`
abbrev pub IsWord : List ℕ → Type 0
IsWord t = (begins is_lower t ≡ true) × (list_all (in_class classes.Word) t ≡ true)

-- `x'`, then the bytes, then `'`
abbrev pub hex_text : List ℕ → List ℕ
hex_text inside = 120 ∷ 39 ∷ (inside ++ 39 ∷ [])

-- `0` or digits without a leading zero, at most 4294967295
abbrev pub IsNumber : List ℕ → Type 0
IsNumber t = (has_leading_zero t ≡ false) × (value_after 0 t ≤ 4294967295)

-- the bytes are a token of the kind
abbrev pub IsToken : TokenKind → List ℕ → Type 0
IsToken kinds.Keyword t = IsRun classes.Upper t
IsToken kinds.Plain t = IsWord t × (length t ≤ 63)
IsToken kinds.Quoted t = (name : List ℕ) × (is_name name ≡ true) × (t ≡ enclosed 34 name)
IsToken kinds.Str t = (text : List ℕ) × (t ≡ enclosed 39 text)
IsToken kinds.Hex t = (digits : List ℕ) × (is_hex digits ≡ true) × (t ≡ hex_text digits)
IsToken kinds.Number t = IsRun classes.Digit t × IsNumber t
IsToken kinds.Mark t = (b : ℕ) × (is_mark b ≡ true) × (t ≡ b ∷ [])

abbrev pub is_x : List ℕ → Bool
is_x (b ∷ []) = nat_eq b 120
is_x _ = false

-- A byte behind the token that would make it longer: one more of its run, a second delimiter, which makes the
-- closing one a part of the text, or the `'` that makes a plain `x` begin a hex.
abbrev pub joins : TokenKind → List ℕ → ℕ → Bool
joins kinds.Keyword t b = in_class classes.Upper b
joins kinds.Plain t b = in_class classes.Word b || (is_x t && nat_eq b 39)
joins kinds.Quoted t b = nat_eq b 34
joins kinds.Str t b = nat_eq b 39
joins kinds.Hex t b = false
joins kinds.Number t b = in_class classes.Digit b
joins kinds.Mark t b = false

-- the bytes before `rest` are a token of the kind, and none of `rest` makes it longer
pub record Stands (kind : TokenKind) (t rest : List ℕ) : Type 0 where
  pub is_token : IsToken kind t
  pub is_longest : begins (joins kind t) rest ≡ false

-- ---- what separates tokens

-- The bytes before `rest` are spaces, newlines and whole comments: a comment ends before a newline or at the
-- end of the text.
pub data Separates (rest : List ℕ) : List ℕ → Type 0 where
  nothing : Separates rest []
  one : (b : ℕ) (s : List ℕ) → is_separator b ≡ true → Separates rest s → Separates rest (b ∷ s)
  comment : (line s : List ℕ) → list_all (λ b. not (is_newline b)) line ≡ true → begins (λ b. not (is_newline b)) (s ++ rest) ≡ false → Separates rest s → Separates rest (45 ∷ 45 ∷ (line ++ s))

-- ---- where there is none

-- a byte with which a token can begin
abbrev pub begins_token : ℕ → Bool
begins_token b = is_between 65 90 b || is_lower b || is_between 48 57 b || nat_eq b 34 || nat_eq b 39 || is_mark b

-- no delimiter in the bytes closes: each is one of two in a row
abbrev pub NeverCloses : ℕ → List ℕ → Type 0
NeverCloses d bytes = (text rest : List ℕ) → begins (λ b. nat_eq b d) rest ≡ false → bytes ≡ doubled d text ++ d ∷ rest → ⊥

-- the byte isn't among these
abbrev pub Lacks : ℕ → List ℕ → Type 0
Lacks b bytes = list_all (λ c. not (nat_eq c b)) bytes ≡ true

-- `"` or `'` that no delimiter closes, or `x'` with no `'` behind it
abbrev pub IsUnclosed : List ℕ → Type 0
IsUnclosed bytes =
    ((inside : List ℕ) × (bytes ≡ 34 ∷ inside) × NeverCloses 34 inside)
    ⊎ (((inside : List ℕ) × (bytes ≡ 39 ∷ inside) × NeverCloses 39 inside)
    ⊎ ((inside : List ℕ) × (bytes ≡ 120 ∷ 39 ∷ inside) × Lacks 39 inside))

-- a whole run of digits that isn't a number
abbrev pub IsBadNumber : List ℕ → Type 0
IsBadNumber bytes = (t rest : List ℕ) × (bytes ≡ t ++ rest) × IsRun classes.Digit t × (begins (in_class classes.Digit) rest ≡ false) × ¬ IsNumber t

-- `x'` with something else than pairs of digits up to the next `'`
abbrev pub IsBadHex : List ℕ → Type 0
IsBadHex bytes = (inside rest : List ℕ) × (bytes ≡ hex_text inside ++ rest) × Lacks 39 inside × (is_hex inside ≡ false)

-- a whole plain word that is too long, or a closed quoted name that isn't a name
abbrev pub IsBadName : List ℕ → Type 0
IsBadName bytes =
    ((t rest : List ℕ) × (bytes ≡ t ++ rest) × IsWord t × (begins (in_class classes.Word) rest ≡ false) × (63 < length t))
    ⊎ ((name rest : List ℕ) × (bytes ≡ enclosed 34 name ++ rest) × (begins (λ b. nat_eq b 34) rest ≡ false) × (is_name name ≡ false))

abbrev pub Fails : LexKind → List ℕ → Type 0
Fails BadByte bytes = begins begins_token bytes ≡ false
Fails Unclosed bytes = IsUnclosed bytes
Fails BadNumber bytes = IsBadNumber bytes
Fails BadHex bytes = IsBadHex bytes
Fails BadName bytes = IsBadName bytes

-- ---- laws

-- what is skipped separates, and no more of it follows
abbrev pub BlanksSeparate : Type 0
BlanksSeparate = (bytes : List ℕ) → let n = blanks false bytes in Separates (drop n bytes) (take n bytes) × (begins_blank (drop n bytes) ≡ false)

-- what separates is skipped, where no more of it follows
abbrev pub SeparatedIsBlank : Type 0
SeparatedIsBlank = (s rest : List ℕ) → Separates rest s → begins_blank rest ≡ false → blanks false (s ++ rest) ≡ length s

-- what `front` finds is a token, and as long as its bytes allow
abbrev pub FoundStands : Type 0
FoundStands = (bytes : List ℕ) (kind : TokenKind) (n : ℕ) → ◌≡◌ {A = Result (TokenKind × ℕ) LexKind} (front bytes) (Ok (kind, n))
    → (n ≤ length bytes) × Stands kind (take n bytes) (drop n bytes)

-- a token that is as long as its bytes allow is found
abbrev pub StandingIsFound : Type 0
StandingIsFound = (kind : TokenKind) (t rest : List ℕ) → Stands kind t rest → front (t ++ rest) ≡ Ok (kind, length t)

-- an error's condition holds wherever it is given
abbrev pub ErrorHolds : Type 0
ErrorHolds = (bytes : List ℕ) (kind : LexKind) → ◌≡◌ {A = Result (TokenKind × ℕ) LexKind} (front bytes) (Err kind) → Fails kind bytes

-- and it is given wherever its condition holds
abbrev pub FailingIsTold : Type 0
FailingIsTold = (bytes : List ℕ) (kind : LexKind) → Fails kind bytes → front bytes ≡ Err kind
