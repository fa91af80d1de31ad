-- The pairs of relations of two clusters, by the OIDs of their databases and their own.
use Rattle.std.specs.Prelude.{◌≡◌, ◌<◌, ℕ, nat_lt, Bool, true, false, not, if◌then◌else◌, List, [], ◌∷◌, ◌++◌, map, Option, Some, None, is_some}
use Rattle.std.specs.List.{AllByRecursion, find, filter, flat_map}
use Rattle.fs_model.specs.Names.{Path}
use Rattle.control_file.specs.declared.job.Job.{Job}
use Rattle.control_file.specs.declared.modes.Side.TheVariants.{Old, New}
use Rattle.control_file.specs.declared.releases.Release.TheVariants.{V15, V16}
use Rattle.catalog.specs.Cluster.{DatabaseObjects, Cluster}
use Rattle.catalog.specs.Spaces.{database_has, database_oids}
use Rattle.relation_files.specs.Places.{Site}
use Rattle.relation_map.specs.declared.error.MapError.{MapError}
use Rattle.relation_map.specs.declared.error.MapError.TheVariants.{Unmatched, NameDiffers}
use Rattle.relation_map.specs.declared.map.MapEntry.{MapEntry}
use Rattle.relation_map.specs.declared.named.Named.{Named}
use Rattle.relation_map.specs.Named.{relations_named, named_has, same_named}
use Rattle.relation_map.specs.Directories.{database_dir}

-- ---- what is wrong with a pair

-- the relations of a database; none where there is no database
abbrev pub relations_if : Option DatabaseObjects → List Named
relations_if None = []
relations_if (Some database) = relations_named database

-- the relations of the database of that OID
abbrev pub relations_at : Cluster → ℕ → List Named
relations_at cluster database = relations_if (find (database_has database) cluster.databases)

-- why these two relations of one OID are no pair, if they are none
abbrev pub fault_between : ℕ → ℕ → Option Named → Option Named → Option MapError
fault_between database oid None None = None
fault_between database oid (Some old) None = Some (Unmatched database oid Old)
fault_between database oid None (Some new) = Some (Unmatched database oid New)
fault_between database oid (Some old) (Some new) = if same_named old new then None else Some (NameDiffers database oid)

-- why the relations of that OID among these are no pair, if they are none
abbrev pub fault_among : ℕ → List Named → List Named → ℕ → Option MapError
fault_among database old new oid = fault_between database oid (find (named_has oid) old) (find (named_has oid) new)

-- why the relations of that OID in a database of two clusters are no pair, if they are none
abbrev pub fault_at : Cluster → Cluster → ℕ → ℕ → Option MapError
fault_at old new database oid = fault_among database (relations_at old database) (relations_at new database) oid

abbrev pub HasNoFault : Cluster → Cluster → ℕ → Type 0
HasNoFault old new database = (oid : ℕ) → fault_at old new database oid ≡ None

-- Each relation of a database has its like in the other cluster, by OID, schema and name.
abbrev pub AreMatched : Cluster → Cluster → Type 0
AreMatched old new = (database : ℕ) → HasNoFault old new database

-- The error is that of the least OID with a fault.
pub record IsLeastFault (faults : ℕ → Option MapError) (error : MapError) : Type 0 where
  pub oid : ℕ
  pub is : faults oid ≡ Some error
  pub least : (other : ℕ) → other < oid → faults other ≡ None

-- The error is that of the least OID with a fault, in the first of these databases that has one.
pub record IsFirstFaultOf (faults : ℕ → ℕ → Option MapError) (databases : List ℕ) (error : MapError) : Type 0 where
  pub before : List ℕ
  pub database : ℕ
  pub behind : List ℕ
  pub order : databases ≡ before ++ database ∷ behind
  pub none_before : AllByRecursion (λ earlier. (oid : ℕ) → faults earlier oid ≡ None) before
  pub first : IsLeastFault (faults database) error

-- the databases that the old cluster lacks
abbrev pub new_alone : Cluster → List DatabaseObjects → List ℕ
new_alone old databases = database_oids (filter (λ d. not (is_some (find (database_has d.oid) old.databases))) databases)

-- the databases of both clusters by their OIDs: those of the old one in its order, then those that the new one alone has in its order
abbrev pub database_order : Cluster → Cluster → List ℕ
database_order old new = database_oids old.databases ++ new_alone old new.databases

abbrev pub IsFirstFault : Cluster → Cluster → MapError → Type 0
IsFirstFault old new error = IsFirstFaultOf (fault_at old new) (database_order old new) error

-- ---- the least OID with a fault

-- the lesser of the least so far and this one, where it has a fault
abbrev pub lesser : Option ℕ → ℕ → Bool → Option ℕ
lesser None oid has_fault = if has_fault then Some oid else None
lesser (Some least) oid has_fault = if has_fault then (if nat_lt oid least then Some oid else Some least) else Some least

abbrev pub least_fault : (ℕ → Option MapError) → List Named → Option ℕ → Option ℕ
least_fault faults [] least = least
least_fault faults (named ∷ behind) least = least_fault faults behind (lesser least named.oid (is_some (faults named.oid)))

-- ---- the map

abbrev pub old_site : Job → Cluster → Site
old_site job catalog = record { root = job.old; release = V15; tablespaces = catalog.tablespaces }

abbrev pub new_site : Job → Cluster → Site
new_site job catalog = record { root = job.new; release = V16; tablespaces = catalog.tablespaces }

abbrev pub dir_if : Site → ℕ → Option Named → Path
dir_if site database None = []
dir_if site database (Some named) = database_dir site database named.tablespace

-- a relation of the old cluster with its like in the new one
abbrev pub entry_with : Site → Site → ℕ → Named → Option Named → MapEntry
entry_with from to database old new = record {
  oid = old.oid;
  from_dir = database_dir from database old.tablespace;
  to_dir = dir_if to database new;
  file = old.file;
}

abbrev pub entry_among : Site → Site → ℕ → List Named → Named → MapEntry
entry_among from to database new old = entry_with from to database old (find (named_has old.oid) new)

abbrev pub database_entries : Site → Site → Cluster → DatabaseObjects → List MapEntry
database_entries from to new database = map (entry_among from to database.oid (relations_at new database.oid)) (relations_named database)

-- a pair for each relation of the old cluster, in the order of its catalog
unfoldable pub entries_of : Job → Cluster → Cluster → List MapEntry
entries_of job old new = flat_map (database_entries (old_site job old) (new_site job new) new) old.databases
