-- The length and the alignment of the fields of each kind of column.
use Rattle.std.specs.Prelude.{pos, negsuc}
use Rattle.heap_tuple.specs.declared.shape.Shape.{Shape}
use Rattle.heap_tuple.specs.declared.shape.Align.TheVariants.{C, S, I, D}
use Rattle.catalog.specs.declared.types.BaseType.{BaseType}
use Rattle.catalog.specs.declared.types.BaseType.TheVariants.{Bool, Int2, Int4, Oid, Float4, Date, RegCollation, RegConfig, RegDictionary, RegNamespace, RegOper, RegOperator, RegProc, RegProcedure, Int8, Float8, Timestamp, TimestampTz, Uuid, Name, AclItem, Text, VarChar, Bytea, Numeric, Jsonb}
use Rattle.catalog.specs.declared.types.ColumnKind.{ColumnKind}
use Rattle.catalog.specs.declared.types.ColumnKind.TheVariants.{Base, Enum, Dropped}

abbrev pub int4_shape : Shape
int4_shape = record { length = pos 4; align = I }

abbrev pub int8_shape : Shape
int8_shape = record { length = pos 8; align = D }

abbrev pub varlena_shape : Shape
varlena_shape = record { length = negsuc 0; align = I }

-- as `pg_type` has them
abbrev pub base_shape : BaseType → Shape
base_shape Bool = record { length = pos 1; align = C }
base_shape Int2 = record { length = pos 2; align = S }
base_shape Int4 = int4_shape
base_shape Oid = int4_shape
base_shape Float4 = int4_shape
base_shape Date = int4_shape
base_shape RegCollation = int4_shape
base_shape RegConfig = int4_shape
base_shape RegDictionary = int4_shape
base_shape RegNamespace = int4_shape
base_shape RegOper = int4_shape
base_shape RegOperator = int4_shape
base_shape RegProc = int4_shape
base_shape RegProcedure = int4_shape
base_shape Int8 = int8_shape
base_shape Float8 = int8_shape
base_shape Timestamp = int8_shape
base_shape TimestampTz = int8_shape
base_shape Uuid = record { length = pos 16; align = C }
base_shape Name = record { length = pos 64; align = C }
base_shape AclItem = record { length = pos 12; align = I }
base_shape Text = varlena_shape
base_shape VarChar = varlena_shape
base_shape Bytea = varlena_shape
base_shape Numeric = varlena_shape
base_shape Jsonb = varlena_shape

-- a field of an enum is the OID of a label
abbrev pub kind_shape : ColumnKind → Shape
kind_shape (Base base) = base_shape base
kind_shape (Enum oid) = int4_shape
kind_shape (Dropped length align) = record { length = length; align = align }
