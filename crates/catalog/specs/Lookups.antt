-- Objects by their names.
use Rattle.std.specs.Prelude.{ℕ, Bool, bytes_eq, List}
use Rattle.catalog.specs.declared.owners.Role.{Role}
use Rattle.catalog.specs.declared.owners.Tablespace.{Tablespace}
use Rattle.catalog.specs.declared.enums.EnumType.{EnumType}
use Rattle.catalog.specs.declared.relations.Table.{Table}
use Rattle.catalog.specs.Cluster.{DatabaseObjects}
use Rattle.catalog.specs.Spaces.{same_name, enum_name, table_name}

abbrev pub role_is : List ℕ → Role → Bool
role_is name role = bytes_eq role.name name

abbrev pub tablespace_is : List ℕ → Tablespace → Bool
tablespace_is name tablespace = bytes_eq tablespace.name name

abbrev pub database_is : List ℕ → DatabaseObjects → Bool
database_is name database = bytes_eq database.name name

-- an enum and a table are known by their schema and their name
abbrev pub enum_is : List ℕ → List ℕ → EnumType → Bool
enum_is schema name kind = same_name (record { schema = schema; name = name }) (enum_name kind)

abbrev pub table_is : List ℕ → List ℕ → Table → Bool
table_is schema name table = same_name (record { schema = schema; name = name }) (table_name table)
