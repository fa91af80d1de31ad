-- What a catalog makes of an object whose numbers are known, from the names that a statement says.
use Rattle.std.specs.Prelude.{ℕ, Bool, true, List, [], Option, Result}
use Rattle.fs_model.specs.Names.{Path}
use Rattle.catalog.specs.declared.error.CatalogError.{CatalogError}
use Rattle.catalog.specs.Cluster.{Cluster, fresh_database}
use Rattle.catalog.specs.Changes.{with_tablespace, with_database, with_connections, with_schema, with_enum, with_label, with_table, with_index, with_sequence}
use Rattle.dump_grammar.specs.declared.columns.ColumnText.{ColumnText}
use Rattle.dump_rules.specs.Rules.{TableNumbers, found, role_oid, tablespace_oid, database_oid, enum_oid, table_oid, database_of, columns_of}

abbrev pub tablespace_made : Cluster → ℕ → List ℕ → List ℕ → Path → Result Cluster CatalogError
tablespace_made c oid name owner location =
    found (role_oid c owner) (λ o. with_tablespace c (record { oid = oid; name = name; owner = o; location = location }))

abbrev pub database_made : Cluster → ℕ → List ℕ → List ℕ → Result Cluster CatalogError
database_made c oid name owner = found (role_oid c owner) (λ o. with_database c (fresh_database oid name o true))

abbrev pub connections_made : Cluster → List ℕ → Bool → Result Cluster CatalogError
connections_made c name on = found (database_oid c name) (λ d. with_connections c d on)

-- the number is that of the connected database, if there is one
abbrev pub schema_made : Cluster → Option ℕ → List ℕ → List ℕ → Result Cluster CatalogError
schema_made c connected name owner =
    found (database_of connected c) (λ d. found (role_oid c owner) (λ o. with_schema c d.oid (record { name = name; owner = o })))

abbrev pub enum_made : Cluster → Option ℕ → ℕ → List ℕ → List ℕ → List ℕ → Result Cluster CatalogError
enum_made c connected oid schema name owner =
    found (database_of connected c) (λ d. found (role_oid c owner) (λ o.
    with_enum c d.oid (record { oid = oid; schema = schema; name = name; owner = o; labels = [] })))

abbrev pub label_made : Cluster → Option ℕ → ℕ → List ℕ → List ℕ → List ℕ → Result Cluster CatalogError
label_made c connected oid schema name text =
    found (database_of connected c) (λ d. found (enum_oid d schema name) (λ kind.
    with_label c d.oid kind (record { oid = oid; text = text })))

abbrev pub table_made : Cluster → Option ℕ → TableNumbers → List ℕ → List ℕ → List ℕ → List ℕ → List ColumnText → Result Cluster CatalogError
table_made c connected n schema name owner tablespace cs =
    found (database_of connected c) (λ d. found (role_oid c owner) (λ o. found (tablespace_oid c tablespace) (λ t. found (columns_of d cs) (λ columns.
    with_table c d.oid (record { oid = n.oid; row_type = n.row_type; schema = schema; name = name; owner = o; tablespace = t; file = n.file; toast = n.toast; columns = columns })))))

abbrev pub index_made : Cluster → Option ℕ → ℕ → ℕ → List ℕ → List ℕ → List ℕ → List ℕ → List ℕ → Result Cluster CatalogError
index_made c connected oid file name schema table tablespace keys =
    found (database_of connected c) (λ d. found (table_oid d schema table) (λ over. found (tablespace_oid c tablespace) (λ t.
    with_index c d.oid (record { oid = oid; table = over; name = name; tablespace = t; file = file; keys = keys }))))

abbrev pub sequence_made : Cluster → Option ℕ → ℕ → ℕ → List ℕ → List ℕ → List ℕ → Result Cluster CatalogError
sequence_made c connected oid file schema name owner =
    found (database_of connected c) (λ d. found (role_oid c owner) (λ o.
    with_sequence c d.oid (record { oid = oid; schema = schema; name = name; owner = o; file = file })))
