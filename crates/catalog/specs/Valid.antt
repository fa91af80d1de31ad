-- Which catalogs are valid.
use Rattle.std.specs.Prelude.{◌≡◌, ℕ, Bool, true, not, ◌&&◌, nat_le, nat_eq, bytes_eq, List, [], ◌∷◌, ◌++◌, length, map, codes}
use Rattle.std.specs.List.{list_any, list_all}
use Rattle.catalog.specs.declared.owners.Role.{Role}
use Rattle.catalog.specs.declared.owners.Tablespace.{Tablespace}
use Rattle.catalog.specs.declared.owners.Schema.{Schema}
use Rattle.catalog.specs.declared.enums.EnumType.{EnumType}
use Rattle.catalog.specs.declared.relations.Table.{Table}
use Rattle.catalog.specs.declared.relations.Index.{Index}
use Rattle.catalog.specs.declared.relations.Sequence.{Sequence}
use Rattle.fs_model.specs.Names.{is_name as is_file_name}
use Rattle.catalog.specs.Lists.{are_distinct}
use Rattle.catalog.specs.Cluster.{DatabaseObjects, Cluster, bootstrap_role, public_schema, first_role, first_tablespace}
use Rattle.catalog.specs.Spaces.{role_oids, role_names, tablespace_oids, tablespace_names, database_oids, database_names, relation_oids, type_oids, label_oids, schema_names, same_name, relation_names, type_names, FilePlace, same_place, file_places}
use Rattle.catalog.specs.Refusals.{is_system_number}
use Rattle.catalog.specs.Forms.{is_name, is_32_bits, table_form, index_form, has_role, enum_stands, table_stands, index_stands, sequence_stands, is_long, same_text, same_column}

-- a number that a user's object may have: 16384 to 2^32 - 1
abbrev pub is_user_number : ℕ → Bool
is_user_number n = not (is_system_number n) && is_32_bits n

abbrev pub is_user_place : FilePlace → Bool
is_user_place place = is_user_number place.number

abbrev pub are_user_oids : List ℕ → Bool
are_user_oids oids = list_all is_user_number oids && are_distinct nat_eq oids

-- ---- a database

abbrev pub schema_is_valid : List Role → Schema → Bool
schema_is_valid roles schema = is_name schema.name && has_role roles schema.owner

abbrev pub enum_is_valid : List Role → DatabaseObjects → EnumType → Bool
enum_is_valid roles d kind =
    is_name kind.name && enum_stands roles d kind && not (list_any is_long kind.labels) && are_distinct same_text kind.labels

abbrev pub table_is_valid : List Role → List Tablespace → DatabaseObjects → Table → Bool
table_is_valid roles tablespaces d table =
    table_form table && table_stands roles tablespaces d table && nat_le (length table.columns) 1600 && are_distinct same_column table.columns

abbrev pub index_is_valid : List Tablespace → List Table → Index → Bool
index_is_valid tablespaces tables index =
    index_form index && index_stands tablespaces tables index && nat_le (length index.keys) 32

abbrev pub sequence_is_valid : List Role → DatabaseObjects → Sequence → Bool
sequence_is_valid roles d sequence = is_name sequence.name && sequence_stands roles d sequence

-- Each object has its form and what it speaks of, and in each space no two are the same. The schema `public` comes first.
pub record IsValidDatabase (roles : List Role) (tablespaces : List Tablespace) (d : DatabaseObjects) : Type 0 where
  pub more_schemas : List Schema
  pub public_first : d.schemas ≡ public_schema ∷ more_schemas
  pub schemas : list_all (schema_is_valid roles) d.schemas ≡ true
  pub enums : list_all (enum_is_valid roles d) d.enums ≡ true
  pub tables : list_all (table_is_valid roles tablespaces d) d.tables ≡ true
  pub indexes : list_all (index_is_valid tablespaces d.tables) d.indexes ≡ true
  pub sequences : list_all (sequence_is_valid roles d) d.sequences ≡ true
  pub relation_oids_differ : are_user_oids (relation_oids d) ≡ true
  pub type_oids_differ : are_user_oids (type_oids d) ≡ true
  pub label_oids_differ : are_user_oids (label_oids d) ≡ true
  pub schema_names_differ : are_distinct bytes_eq (schema_names d) ≡ true
  pub relation_names_differ : are_distinct same_name (relation_names d) ≡ true
  pub type_names_differ : are_distinct same_name (type_names d) ≡ true
  pub file_numbers : list_all is_user_place (file_places d) ≡ true
  pub file_places_differ : are_distinct same_place (file_places d) ≡ true

-- each database is valid
abbrev pub AreValidDatabases : List Role → List Tablespace → List DatabaseObjects → Type 0
AreValidDatabases roles tablespaces [] = Unit {0}
AreValidDatabases roles tablespaces (d ∷ ds) = IsValidDatabase roles tablespaces d × AreValidDatabases roles tablespaces ds

-- ---- a cluster

-- a database without what it holds
pub record DatabaseHead : Type 0 where
  pub oid : ℕ
  pub name : List ℕ
  pub owner : ℕ

abbrev pub head_of : DatabaseObjects → DatabaseHead
head_of d = record { oid = d.oid; name = d.name; owner = d.owner }

-- the three databases that each cluster has
abbrev pub first_heads : List DatabaseHead
first_heads =
    record { oid = 1; name = codes "template1"; owner = bootstrap_role }
    ∷ record { oid = 4; name = codes "template0"; owner = bootstrap_role }
    ∷ record { oid = 5; name = codes "postgres"; owner = bootstrap_role }
    ∷ []

abbrev pub role_is_valid : Role → Bool
role_is_valid role = is_name role.name && is_user_number role.oid

abbrev pub tablespace_is_valid : List Role → Tablespace → Bool
tablespace_is_valid roles tablespace = is_name tablespace.name && is_user_number tablespace.oid && has_role roles tablespace.owner && list_all is_file_name tablespace.location

abbrev pub head_is_valid : List Role → DatabaseHead → Bool
head_is_valid roles head = is_name head.name && is_user_number head.oid && has_role roles head.owner

-- The objects that each cluster starts with come first, with their OIDs below 16384; of the databases only the connections
-- and what they hold may differ. In each space no two are the same.
pub record IsValid (c : Cluster) : Type 0 where
  pub more_roles : List Role
  pub more_tablespaces : List Tablespace
  pub more_heads : List DatabaseHead
  pub bootstrap : is_name c.bootstrap ≡ true
  pub roles_are : c.roles ≡ first_role c.bootstrap ∷ more_roles
  pub tablespaces_are : c.tablespaces ≡ first_tablespace ∷ more_tablespaces
  pub databases_are : map head_of c.databases ≡ first_heads ++ more_heads
  pub roles : list_all role_is_valid more_roles ≡ true
  pub tablespaces : list_all (tablespace_is_valid c.roles) more_tablespaces ≡ true
  pub heads : list_all (head_is_valid c.roles) more_heads ≡ true
  pub role_oids_differ : are_distinct nat_eq (role_oids c.roles) ≡ true
  pub role_names_differ : are_distinct bytes_eq (role_names c.roles) ≡ true
  pub tablespace_oids_differ : are_distinct nat_eq (tablespace_oids c.tablespaces) ≡ true
  pub tablespace_names_differ : are_distinct bytes_eq (tablespace_names c.tablespaces) ≡ true
  pub database_oids_differ : are_distinct nat_eq (database_oids c.databases) ≡ true
  pub database_names_differ : are_distinct bytes_eq (database_names c.databases) ≡ true
  pub databases : AreValidDatabases c.roles c.tablespaces c.databases
