-- What a `Source` tells.
use Rattle.std.specs.Prelude.{◌≡◌, ℕ, List, Option, Result, Ok, Err}
use Rattle.heap_tuple.specs.declared.error.TupleError.{TupleError}
use Rattle.heap_tuple.specs.declared.shape.Shape.{Shape}
use Rattle.heap_tuple.specs.Header.{header_of}
use Rattle.heap_tuple.specs.Field.{FieldValue}
use Rattle.heap_tuple.specs.Cursor.{fields_from}
use Rattle.toast_read.specs.Index.{fetched_from}
use Rattle.xact_status.specs.declared.known.Known.{Known}
use Rattle.cluster_meaning.specs.Values.{ValueSource}
use Rattle.cluster_meaning.specs.Meaning.{Reading}
use Rattle.block_rows.specs.declared.source.Source.{Source}

abbrev pub source_of : Source → ValueSource
source_of s = record { columns = s.columns.now; shapes = s.shapes.now; enums = s.database.now.enums; toast = s.toast; fetch = fetched_from s.index.now }

abbrev pub reading_of : Source → (ℕ → Known) → (ℕ → Option (Option ℕ)) → Reading
reading_of s fates updaters = record { source = source_of s; fates = fates; updaters = updaters }

-- the fields from a column on are left to be read, or the header can't be read
abbrev pub FieldsLeft : List ℕ → List Shape → ℕ → Result (List (Result FieldValue TupleError)) TupleError → Type 0
FieldsLeft tuple shapes n (Ok left) = left ≡ fields_from tuple shapes n
FieldsLeft tuple shapes n (Err error) = header_of tuple ≡ Err error
