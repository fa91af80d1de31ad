-- The text of a name, in place or on the heap.
use Rattle.std.specs.Prelude.{List, ℕ, string_bytes}
use Rattle.fs_model.specs.declared.name.NameText.{NameText}
use Rattle.fs_model.specs.declared.name.NameText.TheVariants as text

abbrev pub bytes_of : NameText → List ℕ
bytes_of (text.Short short) = short.bytes
bytes_of (text.Long long) = string_bytes long
