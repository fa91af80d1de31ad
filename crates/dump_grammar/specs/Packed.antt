-- How the columns of a statement are packed: their texts in one list, and each column by the place of its first.
use Rattle.std.specs.Prelude.{ℕ, ◌+◌, Bool, true, false, nat_le, List, [], ◌∷◌, ◌++◌, get_or, Option, Some, None, is_some}
use Rattle.dump_grammar.specs.declared.columns.NamedKind.{NamedKind}
use Rattle.dump_grammar.specs.declared.columns.NamedKind.TheVariants as named
use Rattle.dump_grammar.specs.declared.columns.ColumnText.{ColumnText}
use Rattle.dump_grammar.specs.declared.column_texts.PackedKind.{PackedKind}
use Rattle.dump_grammar.specs.declared.column_texts.PackedKind.TheVariants as packed
use Rattle.dump_grammar.specs.declared.column_texts.Packed.{Packed}

-- ---- a column by its texts

abbrev pub text_at : List (List ℕ) → ℕ → List ℕ
text_at texts place = get_or texts place []

-- how many texts a kind has
abbrev pub text_count : PackedKind → ℕ
text_count (packed.Base base) = 0
text_count packed.Enum = 2
text_count (packed.Dropped length align) = 0

abbrev pub missing_count : Bool → ℕ
missing_count false = 0
missing_count true = 1

abbrev pub kind_at : List (List ℕ) → ℕ → PackedKind → NamedKind
kind_at texts place (packed.Base base) = named.Base base
kind_at texts place packed.Enum = named.Enum (text_at texts place) (text_at texts (place + 1))
kind_at texts place (packed.Dropped length align) = named.Dropped length align

abbrev pub missing_at : List (List ℕ) → ℕ → Bool → Option (List ℕ)
missing_at texts place false = None
missing_at texts place true = Some (text_at texts place)

abbrev pub column_at : List (List ℕ) → Packed → ColumnText
column_at texts c = record {
  name = text_at texts c.first;
  kind = kind_at texts (c.first + 1) c.kind;
  missing = missing_at texts (c.first + 1 + text_count c.kind) c.has_missing;
}

-- the place behind its last text
abbrev pub end_of : Packed → ℕ
end_of c = c.first + 1 + text_count c.kind + missing_count c.has_missing

abbrev pub ends_by : ℕ → Packed → Bool
ends_by count c = nat_le (end_of c) count

-- ---- the texts of a column

abbrev pub kind_texts : NamedKind → List (List ℕ)
kind_texts (named.Base base) = []
kind_texts (named.Enum schema name) = schema ∷ name ∷ []
kind_texts (named.Dropped length align) = []

abbrev pub missing_texts : Option (List ℕ) → List (List ℕ)
missing_texts None = []
missing_texts (Some bytes) = bytes ∷ []

abbrev pub texts_of : ColumnText → List (List ℕ)
texts_of c = c.name ∷ (kind_texts c.kind ++ missing_texts c.missing)

abbrev pub packed_kind : NamedKind → PackedKind
packed_kind (named.Base base) = packed.Base base
packed_kind (named.Enum schema name) = packed.Enum
packed_kind (named.Dropped length align) = packed.Dropped length align

-- a column whose texts begin at a place
abbrev pub packed_as : ℕ → ColumnText → Packed
packed_as place c = record { first = place; kind = packed_kind c.kind; has_missing = is_some c.missing }
