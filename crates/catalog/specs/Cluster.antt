-- A catalog and a database as plain records of lists, and the catalog that a cluster starts with.
use Rattle.std.specs.Prelude.{ℕ, Bool, true, false, List, [], ◌∷◌, codes}
use Rattle.catalog.specs.declared.owners.Role.{Role}
use Rattle.catalog.specs.declared.owners.Tablespace.{Tablespace}
use Rattle.catalog.specs.declared.owners.Schema.{Schema}
use Rattle.catalog.specs.declared.enums.EnumType.{EnumType}
use Rattle.catalog.specs.declared.relations.Table.{Table}
use Rattle.catalog.specs.declared.relations.Index.{Index}
use Rattle.catalog.specs.declared.relations.Sequence.{Sequence}

-- a database with what it holds, each list in the order of its additions
pub record DatabaseObjects : Type 0 where
  pub oid : ℕ
  pub name : List ℕ
  pub owner : ℕ
  pub connections : Bool
  pub schemas : List Schema
  pub enums : List EnumType
  pub tables : List Table
  pub indexes : List Index
  pub sequences : List Sequence

-- a cluster; `bootstrap` is the name of the role that made it
pub record Cluster : Type 0 where
  pub bootstrap : List ℕ
  pub roles : List Role
  pub tablespaces : List Tablespace
  pub databases : List DatabaseObjects

-- the OID of the role that made the cluster, and that of the tablespace in the cluster's own directory
abbrev pub bootstrap_role : ℕ
bootstrap_role = 10

abbrev pub default_tablespace : ℕ
default_tablespace = 1663

abbrev pub public_schema : Schema
public_schema = record { name = codes "public"; owner = bootstrap_role }

-- a database with the schema `public` alone
abbrev pub fresh_database : ℕ → List ℕ → ℕ → Bool → DatabaseObjects
fresh_database oid name owner connections =
    record {
      oid = oid;
      name = name;
      owner = owner;
      connections = connections;
      schemas = public_schema ∷ [];
      enums = [];
      tables = [];
      indexes = [];
      sequences = [];
    }

abbrev pub first_role : List ℕ → Role
first_role name = record { oid = bootstrap_role; name = name }

abbrev pub first_tablespace : Tablespace
first_tablespace = record { oid = default_tablespace; name = codes "pg_default"; owner = bootstrap_role; location = [] }

abbrev pub first_databases : List DatabaseObjects
first_databases =
    fresh_database 1 (codes "template1") bootstrap_role true
    ∷ fresh_database 4 (codes "template0") bootstrap_role false
    ∷ fresh_database 5 (codes "postgres") bootstrap_role true
    ∷ []

-- the catalog that a cluster starts with
abbrev pub started : List ℕ → Cluster
started name =
    record {
      bootstrap = name;
      roles = first_role name ∷ [];
      tablespaces = first_tablespace ∷ [];
      databases = first_databases;
    }
