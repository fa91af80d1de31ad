-- The names that a replay makes, by the catalogs before and after it.
use Rattle.std.specs.Prelude.{ℕ, Bool, true, false, not, ◌&&◌, if◌then◌else◌, nat_eq, List, [], ◌∷◌, ◌++◌, map, Option, Some, None, codes}
use Rattle.std.specs.Option.{option_map_or}
use Rattle.std.specs.List.{find, flat_map, list_any}
use Rattle.std.specs.Fmt.{decimal}
use Rattle.fs_model.specs.Names.{Path}
use Rattle.control_file.specs.declared.releases.Release.{Release}
use Rattle.control_file.specs.Version.{dir_name_of, version_text_of}
use Rattle.catalog.specs.declared.owners.Tablespace.{Tablespace}
use Rattle.catalog.specs.declared.relations.Toast.{Toast}
use Rattle.catalog.specs.declared.relations.Table.{Table}
use Rattle.catalog.specs.declared.relations.Index.{Index}
use Rattle.catalog.specs.declared.relations.Sequence.{Sequence}
use Rattle.catalog.specs.Cluster.{Cluster, DatabaseObjects, default_tablespace}
use Rattle.catalog.specs.Spaces.{tablespace_has, database_has}
use Rattle.dump_grammar.specs.Canonical.{canonical}
use Rattle.new_names.specs.declared.names.NewName.{NewName}
use Rattle.new_names.specs.declared.names.NewNode.{NewNode}
use Rattle.new_names.specs.declared.names.NewNode.TheVariants.{Dir, File, Sym}
use Rattle.catalog_server.specs.declared.relation.Relation.{Relation}
use Rattle.catalog_server.specs.Profile.{catalog_path}

-- ---- paths

abbrev pub base_path : Path → Path
base_path root = root ++ codes "base" ∷ []

abbrev pub links_path : Path → Path
links_path root = root ++ codes "pg_tblspc" ∷ []

abbrev pub link_path : Path → ℕ → Path
link_path root oid = links_path root ++ decimal oid ∷ []

-- the directory in which each database has its own: `base`, or in another tablespace's location the release's directory
abbrev pub databases_path : Path → Release → Tablespace → Path
databases_path root release tablespace =
    if nat_eq tablespace.oid default_tablespace then base_path root else tablespace.location ++ dir_name_of release ∷ []

-- ---- relations that have a main file

abbrev pub toast_relations : ℕ → Option Toast → List Relation
toast_relations tablespace None = []
toast_relations tablespace (Some toast) =
    record { oid = toast.oid; tablespace = tablespace; file = toast.file }
    ∷ record { oid = toast.index_oid; tablespace = tablespace; file = toast.index_file }
    ∷ []

abbrev pub table_relations : Table → List Relation
table_relations table =
    record { oid = table.oid; tablespace = table.tablespace; file = table.file } ∷ toast_relations table.tablespace table.toast

abbrev pub index_relation : Index → Relation
index_relation index = record { oid = index.oid; tablespace = index.tablespace; file = index.file }

abbrev pub sequence_relation : Sequence → Relation
sequence_relation sequence = record { oid = sequence.oid; tablespace = default_tablespace; file = sequence.file }

-- tables with their toast tables and the indexes of these, indexes, sequences
unfoldable pub relations_of : DatabaseObjects → List Relation
relations_of d =
    flat_map table_relations d.tables ++ (map index_relation d.indexes ++ map sequence_relation d.sequences)

-- the relations of the database of that OID
abbrev pub relations_in : Cluster → ℕ → List Relation
relations_in c database = option_map_or relations_of (find (database_has database) c.databases) []

-- ---- what is new

abbrev pub relation_has : ℕ → Relation → Bool
relation_has oid relation = nat_eq relation.oid oid

abbrev pub stands_in : ℕ → Relation → Bool
stands_in tablespace relation = nat_eq relation.tablespace tablespace

abbrev pub is_new_tablespace : Cluster → Tablespace → Bool
is_new_tablespace before tablespace = not (list_any (tablespace_has tablespace.oid) before.tablespaces)

abbrev pub is_new_database : Cluster → DatabaseObjects → Bool
is_new_database before d = not (list_any (database_has d.oid) before.databases)

abbrev pub is_new_relation : List Relation → Relation → Bool
is_new_relation earlier relation = not (list_any (relation_has relation.oid) earlier)

-- whether a tablespace other than `pg_default` holds one of a database's relations, and held none of the earlier ones
abbrev pub is_newly_held : List Relation → List Relation → Tablespace → Bool
is_newly_held earlier relations tablespace =
    not (nat_eq tablespace.oid default_tablespace)
    && (list_any (stands_in tablespace.oid) relations && not (list_any (stands_in tablespace.oid) earlier))

-- ---- the names

-- a new tablespace: its release's directory, and the link to its location
abbrev pub tablespace_names : Path → Release → Cluster → Tablespace → List NewName
tablespace_names root release before tablespace =
    if is_new_tablespace before tablespace
    then record { path = databases_path root release tablespace; node = Dir } ∷ record { path = link_path root tablespace.oid; node = Sym tablespace.location } ∷ []
    else []

-- a new database: its directory in `base`, with the file of its release
abbrev pub database_names : Path → Release → Cluster → DatabaseObjects → List NewName
database_names root release before d =
    if is_new_database before d
    then record { path = base_path root ++ decimal d.oid ∷ []; node = Dir } ∷ record { path = base_path root ++ decimal d.oid ∷ codes "PG_VERSION" ∷ []; node = File (version_text_of release) } ∷ []
    else []

-- a database's directory in a tablespace that newly holds a relation of it
abbrev pub holding_names : Path → Release → ℕ → List Relation → List Relation → Tablespace → List NewName
holding_names root release database earlier relations tablespace =
    if is_newly_held earlier relations tablespace then record { path = databases_path root release tablespace ++ decimal database ∷ []; node = Dir } ∷ [] else []

-- a main file in a tablespace, empty
abbrev pub file_names : Path → Release → ℕ → ℕ → Option Tablespace → List NewName
file_names root release database file None = []
file_names root release database file (Some tablespace) =
    record { path = databases_path root release tablespace ++ decimal database ∷ decimal file ∷ []; node = File [] } ∷ []

-- a new relation's main file
abbrev pub relation_names : Path → Release → List Tablespace → ℕ → List Relation → Relation → List NewName
relation_names root release tablespaces database earlier relation =
    if is_new_relation earlier relation
    then file_names root release database relation.file (find (tablespace_has relation.tablespace) tablespaces)
    else []

-- what a database has in tablespaces: its directories, and the files of its relations
abbrev pub filled_names : Path → Release → List Tablespace → ℕ → List Relation → List Relation → List NewName
filled_names root release tablespaces database earlier relations =
    flat_map (holding_names root release database earlier relations) tablespaces ++ flat_map (relation_names root release tablespaces database earlier) relations

abbrev pub held_names : Path → Release → Cluster → Cluster → DatabaseObjects → List NewName
held_names root release before after d = filled_names root release after.tablespaces d.oid (relations_in before d.oid) (relations_of d)

-- all names that a replay makes besides the catalog text
unfoldable pub new_names : Path → Release → Cluster → Cluster → List NewName
new_names root release before after =
    flat_map (tablespace_names root release before) after.tablespaces
    ++ (flat_map (database_names root release before) after.databases
    ++ flat_map (held_names root release before after) after.databases)

-- the catalog text is made anew, after all others
abbrev pub catalog_name : Path → Cluster → NewName
catalog_name root after = record { path = catalog_path root; node = File (canonical after) }

-- the listed names of a replay
abbrev pub listed_names : Path → Release → Cluster → Cluster → List NewName
listed_names root release before after = new_names root release before after ++ catalog_name root after ∷ []
