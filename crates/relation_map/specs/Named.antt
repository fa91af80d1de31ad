-- The relations of a database with the names that they go by, in the order of its catalog: each table, its toast table and that
-- one's index, then the indexes, then the sequences. A toast table and its index go by the name of their table.
use Rattle.std.specs.Prelude.{ℕ, Bool, nat_eq, List, [], ◌∷◌, ◌++◌, map, Option, Some, None}
use Rattle.std.specs.List.{find, flat_map}
use Rattle.catalog.specs.declared.relations.Table.{Table}
use Rattle.catalog.specs.declared.relations.Toast.{Toast}
use Rattle.catalog.specs.declared.relations.Index.{Index}
use Rattle.catalog.specs.declared.relations.Sequence.{Sequence}
use Rattle.catalog.specs.Cluster.{DatabaseObjects, default_tablespace}
use Rattle.catalog.specs.Spaces.{SchemaName, same_name, schema_of}
use Rattle.relation_map.specs.declared.named.Named.{Named}

abbrev pub toast_named : Table → Option Toast → List Named
toast_named table None = []
toast_named table (Some toast) =
    record { oid = toast.oid; schema = table.schema; name = table.name; tablespace = table.tablespace; file = toast.file }
    ∷ record { oid = toast.index_oid; schema = table.schema; name = table.name; tablespace = table.tablespace; file = toast.index_file } ∷ []

abbrev pub table_named : Table → List Named
table_named table =
    record { oid = table.oid; schema = table.schema; name = table.name; tablespace = table.tablespace; file = table.file }
    ∷ toast_named table table.toast

-- an index is in the schema of its table
abbrev pub index_named : List Table → Index → Named
index_named tables index =
    record { oid = index.oid; schema = schema_of tables index.table; name = index.name; tablespace = index.tablespace; file = index.file }

abbrev pub sequence_named : Sequence → Named
sequence_named sequence =
    record { oid = sequence.oid; schema = sequence.schema; name = sequence.name; tablespace = default_tablespace; file = sequence.file }

unfoldable pub relations_named : DatabaseObjects → List Named
relations_named d = flat_map table_named d.tables ++ (map (index_named d.tables) d.indexes ++ map sequence_named d.sequences)

abbrev pub named_has : ℕ → Named → Bool
named_has oid named = nat_eq named.oid oid

-- whether two relations go by the same schema and name
abbrev pub same_named : Named → Named → Bool
same_named a b = same_name (record { schema = a.schema; name = a.name }) (record { schema = b.schema; name = b.name })
