-- Text in delimiters, as `"a name"` and `'a string'`, where the delimiter itself is written twice.
use Rattle.std.specs.Prelude.{◌≡◌, ℕ, ◌+◌, ◌<◌, ◌≤◌, nat_eq, List, [], ◌∷◌, ◌++◌, length, take, drop, Option, Some, None, if◌then◌else◌}
use Rattle.std.specs.Option.{option_map_or}
use Rattle.dump_lex.specs.declared.enclosed.Closed.{Closed}
use Rattle.dump_lex.specs.declared.enclosed.Part.{Part}
use Rattle.dump_lex.specs.declared.enclosed.Part.TheVariants.{End, Close, Pair}

-- a delimiter twice, another byte once
abbrev pub doubled_byte : ℕ → ℕ → List ℕ
doubled_byte d b = if nat_eq b d then b ∷ b ∷ [] else b ∷ []

-- each delimiter in the text twice
abbrev pub doubled : ℕ → List ℕ → List ℕ
doubled d [] = []
doubled d (b ∷ bs) = if nat_eq b d then d ∷ d ∷ doubled d bs else b ∷ doubled d bs

-- the text between delimiters
abbrev pub enclosed : ℕ → List ℕ → List ℕ
enclosed d text = d ∷ (doubled d text ++ d ∷ [])

-- what is found further on, with the text before it and how many bytes write that
abbrev pub behind : List ℕ → ℕ → Option (List ℕ × ℕ) → Option (List ℕ × ℕ)
behind text n None = None
behind text n (Some x) = Some (text ++ x.0, n + x.1)

-- Behind an opening delimiter: the text up to the closing one, and how many bytes are read with the closing
-- one. Two delimiters in a row stand for one and don't close. Nothing where no delimiter closes.
abbrev pub closing : ℕ → List ℕ → Option (List ℕ × ℕ)
closing d [] = None
closing d (b ∷ []) = if nat_eq b d then Some ([], 1) else None
closing d (b ∷ c ∷ bs) =
    if nat_eq b d then (if nat_eq c d then behind (d ∷ []) 2 (closing d bs) else Some ([], 1))
    else behind (b ∷ []) 1 (closing d (c ∷ bs))

-- the text that an enclosed text stands for
abbrev pub enclosed_text : ℕ → List ℕ → List ℕ
enclosed_text d t = option_map_or (λ x. x.0) (closing d (drop 1 t)) []

-- ---- what the code keeps of it

-- the length of the text, and how many bytes are read
abbrev pub closed_of : List ℕ × ℕ → Closed
closed_of x = record { text_len = length x.0; len = x.1 }

-- what stands at the next delimiter
abbrev pub IsPart : ℕ → List ℕ → Part → Type 0
IsPart d bytes End = closing d bytes ≡ None
IsPart d bytes (Close n) = (closing d bytes ≡ Some (take n bytes, n + 1)) × (n < length bytes)
IsPart d bytes (Pair n) = (closing d bytes ≡ behind (take n bytes ++ d ∷ []) (n + 2) (closing d (drop (n + 2) bytes))) × (n + 2 ≤ length bytes)
