-- The directories of a database in tablespaces.
use Rattle.std.specs.Prelude.{◌≡◌, ℕ, Option, Some}
use Rattle.std.specs.Ordering.{nat_cmp}
use Rattle.std.specs.FinMap.{FinMap, get}
use Rattle.fs_model.specs.Names.{Path}
use Rattle.relation_files.specs.declared.relation.Relation.{Relation}
use Rattle.relation_files.specs.Places.{Site, relation_dir}

-- the directory of the database's relations in a tablespace
abbrev pub database_dir : Site → ℕ → ℕ → Path
database_dir site database tablespace = relation_dir site (record { database = database; tablespace = tablespace; file = 0 })

-- each of these is the database's directory in the tablespace of that OID
abbrev pub AreDirectories : Site → ℕ → FinMap nat_cmp Path → Type 0
AreDirectories site database directories =
    (tablespace : ℕ) (path : Path) → get directories tablespace ≡ Some path → path ≡ database_dir site database tablespace
