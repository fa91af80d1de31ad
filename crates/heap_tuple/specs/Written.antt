-- How PostgreSQL writes a field behind those before it, as `heap_fill_tuple` of
-- src/backend/access/common/heaptuple.c does.
use Rattle.std.specs.Prelude.{ℕ, pos, negsuc, ◌+◌, ◌-◌, ◌*◌, ◌^◌, List, ◌∷◌, ◌++◌, length, replicate}
use Rattle.byteorder.specs.Endian.{little_bytes}
use Rattle.heap_tuple.specs.declared.shape.Align.{Align}
use Rattle.heap_tuple.specs.declared.shape.Shape.{Shape}
use Rattle.heap_tuple.specs.declared.field.ToastPointer.{ToastPointer}
use Rattle.heap_tuple.specs.Column.{raised}

-- zeros from a place up to where an aligned field begins
abbrev pub padding : ℕ → Align → List ℕ
padding place align = replicate (raised place align - place) 0

-- a value of at most 126 bytes behind a header of one byte: the length of both, and the low bit set
abbrev pub short_bytes : List ℕ → List ℕ
short_bytes value = (2 * (length value + 1) + 1) ∷ value

-- a value behind a header of four bytes: the length of both, and two low bits, 0 or for a compressed value 2
abbrev pub long_bytes : ℕ → List ℕ → List ℕ
long_bytes kind value = little_bytes 4 (4 * (length value + 4) + kind) ++ value

-- a pointer to a value stored elsewhere: its header, and four numbers, of which the second has the
-- compression method in its two high bits
abbrev pub pointer_bytes : ToastPointer → List ℕ
pointer_bytes to =
    1 ∷ 18 ∷ (little_bytes 4 to.rawsize ++ (little_bytes 4 (to.size + 2 ^ 30 * to.method) ++ (little_bytes 4 to.value ++ little_bytes 4 to.relation)))

-- the shape of a column of so many bytes, and of one whose fields say their length
abbrev pub fixed : ℕ → Align → Shape
fixed size align = record { length = pos size; align = align }

abbrev pub varlena : Align → Shape
varlena align = record { length = negsuc 0; align = align }
