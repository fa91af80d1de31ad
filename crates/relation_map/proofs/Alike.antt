-- The map of a catalog onto itself.
use Rattle.std.proofs.Common.{◌≡◌, ◌∙◌, ℕ, zero, suc, Bool, true, List, [], ◌∷◌, ◌++◌, map, Option, Some, None, refl, sym, ap, subst, nat_eq}
use Rattle.std.specs.Prelude.{slice_get, ◌&&◌}
use Rattle.std.specs.List.{find, flat_map, list_all}
use Rattle.std.proofs.lemmas.List.{map-append}
use Rattle.control_file.specs.declared.job.Job.{Job}
use Rattle.catalog.specs.declared.owners.Role.{Role}
use Rattle.catalog.specs.declared.owners.Tablespace.{Tablespace}
use Rattle.catalog.specs.declared.relations.Table.{Table}
use Rattle.catalog.specs.declared.relations.Toast.{Toast}
use Rattle.catalog.specs.declared.relations.Index.{Index}
use Rattle.catalog.specs.declared.relations.Sequence.{Sequence}
use Rattle.catalog.specs.Lists.{are_distinct}
use Rattle.catalog.specs.Cluster.{DatabaseObjects, Cluster}
use Rattle.catalog.specs.Spaces.{database_has, database_oids, FilePlace, place_in, toast_oids, table_oids, relation_oids, toast_files, table_places, index_place, sequence_place, file_places}
use Rattle.catalog.specs.Valid.{IsValid, IsValidDatabase, AreValidDatabases, is_user_number}
use Rattle.catalog.proofs.ListLemmas.{and_right}
use Rattle.relation_files.specs.Places.{Site}
use Rattle.relation_files.specs.Relations.{relation_at, relations_in, relations_of}
use Rattle.relation_map.specs.declared.map.MapEntry.{MapEntry}
use Rattle.relation_map.specs.declared.named.Named.{Named}
use Rattle.relation_map.specs.Named.{toast_named, table_named, index_named, sequence_named, relations_named, named_has}
use Rattle.relation_map.specs.Directories.{database_dir}
use Rattle.relation_map.specs.Pairs.{old_site, new_site, dir_if, relations_if, relations_at, entry_among, database_entries, entries_of}
use Rattle.relation_map.specs.Equal.{Carriage, carriage_of, carriage}
use Rattle.relation_map.proofs.Ordered.{find_distinct}

-- ---- lists

map_map : {A B C : Type 0} (g : B → C) (f : A → B) (xs : List A) → map g (map f xs) ≡ map (λ x. g (f x)) xs
map_map g f [] = refl
map_map g f (x ∷ xs) = ap (λ l. g (f x) ∷ l) (map_map g f xs)

map_flat : {A B C : Type 0} (g : B → C) (f : A → List B) (xs : List A) → map g (flat_map f xs) ≡ flat_map (λ x. map g (f x)) xs
map_flat g f [] = refl
map_flat g f (x ∷ xs) = map-append g (f x) (flat_map f xs) ∙ ap (λ l. map g (f x) ++ l) (map_flat g f xs)

map_by_place : {A B : Type 0} (f g : A → B) (xs : List A) → ((i : ℕ) (x : A) → slice_get xs i ≡ Some x → f x ≡ g x) → map f xs ≡ map g xs
map_by_place f g [] same = refl
map_by_place f g (x ∷ xs) same =
    let rest : map f xs ≡ map g xs = map_by_place f g xs (λ i y h. same (suc i) y h) in
    (λ i. same zero x refl i ∷ rest i)

flat_by_place : {A B : Type 0} (f g : A → List B) (xs : List A) → ((i : ℕ) (x : A) → slice_get xs i ≡ Some x → f x ≡ g x) → flat_map f xs ≡ flat_map g xs
flat_by_place f g [] same = refl
flat_by_place f g (x ∷ xs) same =
    let rest : flat_map f xs ≡ flat_map g xs = flat_by_place f g xs (λ i y h. same (suc i) y h) in
    (λ i. same zero x refl i ++ rest i)

-- ---- what is told of the relations of a database by their names

module _ {B : Type 0} (f : Named → B) (table : Table → List B) (index : Index → B) (sequence : Sequence → B) (d : DatabaseObjects) where
  groups : ((t : Table) → map f (table_named t) ≡ table t) → ((x : Index) → f (index_named d.tables x) ≡ index x) → ((x : Sequence) → f (sequence_named x) ≡ sequence x)
      → map f (relations_named d) ≡ flat_map table d.tables ++ (map index d.indexes ++ map sequence d.sequences)
  unfolding relations_named
  groups of_table of_index of_sequence =
      let tables : map f (flat_map table_named d.tables) ≡ flat_map table d.tables = map_flat f table_named d.tables ∙ flat_by_place (λ t. map f (table_named t)) table d.tables (λ i t h. of_table t) in
      let indexes : map f (map (index_named d.tables) d.indexes) ≡ map index d.indexes = map_map f (index_named d.tables) d.indexes ∙ map_by_place (λ x. f (index_named d.tables x)) index d.indexes (λ i x h. of_index x) in
      let sequences : map f (map sequence_named d.sequences) ≡ map sequence d.sequences = map_map f sequence_named d.sequences ∙ map_by_place (λ x. f (sequence_named x)) sequence d.sequences (λ i x h. of_sequence x) in
      map-append f (flat_map table_named d.tables) (map (index_named d.tables) d.indexes ++ map sequence_named d.sequences)
      ∙ ap (λ l. map f (flat_map table_named d.tables) ++ l) (map-append f (map (index_named d.tables) d.indexes) (map sequence_named d.sequences))
      ∙ (λ i. tables i ++ (indexes i ++ sequences i))

abbrev place_of : Named → FilePlace
place_of x = place_in x.tablespace x.file

abbrev oid_of : Named → ℕ
oid_of x = x.oid

toast_places : (t : Table) (toast : Option Toast) → map place_of (toast_named t toast) ≡ map (place_in t.tablespace) (toast_files toast)
toast_places t None = refl
toast_places t (Some toast) = refl

toasted_oids : (t : Table) (toast : Option Toast) → map oid_of (toast_named t toast) ≡ toast_oids toast
toasted_oids t None = refl
toasted_oids t (Some toast) = refl

places_named : (d : DatabaseObjects) → map place_of (relations_named d) ≡ file_places d
unfolding file_places
places_named d =
    groups place_of table_places index_place sequence_place d (λ t. ap (λ l. place_in t.tablespace t.file ∷ l) (toast_places t t.toast)) (λ x. refl) (λ x. refl)

oids_named : (d : DatabaseObjects) → map oid_of (relations_named d) ≡ relation_oids d
unfolding relation_oids
oids_named d =
    groups oid_of table_oids (λ (x : Index). x.oid) (λ (x : Sequence). x.oid) d (λ t. ap (λ l. t.oid ∷ l) (toasted_oids t t.toast)) (λ x. refl) (λ x. refl)

-- ---- one database

module _ (job : Job) (c : Cluster) where
  abbrev carriage_in : DatabaseObjects → Named → Carriage
  carriage_in d x = record { from_dir = database_dir (old_site job c) d.oid x.tablespace; to_dir = database_dir (new_site job c) d.oid x.tablespace; file = x.file }

  relations_same : (d : DatabaseObjects) → map (carriage job c) (relations_in d) ≡ map (carriage_in d) (relations_named d)
  unfolding relations_in
  relations_same d =
      ap (λ l. map (carriage job c) (map (relation_at d) l)) (sym (places_named d))
      ∙ ap (map (carriage job c)) (map_map (relation_at d) place_of (relations_named d))
      ∙ map_map (carriage job c) (λ x. relation_at d (place_of x)) (relations_named d)

  database_same : (roles : List Role) (tablespaces : List Tablespace) (d : DatabaseObjects) → IsValidDatabase roles tablespaces d → find (database_has d.oid) c.databases ≡ Some d
      → map carriage_of (database_entries (old_site job c) (new_site job c) c d) ≡ map (carriage job c) (relations_in d)
  database_same roles tablespaces d valid found =
      let distinct : are_distinct nat_eq (map oid_of (relations_named d)) ≡ true =
      ap (are_distinct nat_eq) (oids_named d) ∙ and_right (list_all is_user_number (relation_oids d)) (are_distinct nat_eq (relation_oids d)) valid.relation_oids_differ in
      ap (λ o. map carriage_of (map (entry_among (old_site job c) (new_site job c) d.oid (relations_if o)) (relations_named d))) found
      ∙ map_map carriage_of (entry_among (old_site job c) (new_site job c) d.oid (relations_named d)) (relations_named d)
      ∙ map_by_place (λ x. carriage_of (entry_among (old_site job c) (new_site job c) d.oid (relations_named d) x)) (carriage_in d) (relations_named d)
      (λ i x h. ap (λ o. record { from_dir = database_dir (old_site job c) d.oid x.tablespace; to_dir = dir_if (new_site job c) d.oid o; file = x.file }) (find_distinct oid_of (relations_named d) i x distinct h))
      ∙ sym (relations_same d)

valid_at : (roles : List Role) (tablespaces : List Tablespace) (ds : List DatabaseObjects) (i : ℕ) (d : DatabaseObjects) → AreValidDatabases roles tablespaces ds → slice_get ds i ≡ Some d → IsValidDatabase roles tablespaces d
valid_at roles tablespaces [] i d valid h = absurd (cc h)
valid_at roles tablespaces (x ∷ xs) zero d valid h = let same : x ≡ d = cc h in subst (IsValidDatabase roles tablespaces) same valid.0
valid_at roles tablespaces (x ∷ xs) (suc i) d valid h = valid_at roles tablespaces xs i d valid.1 h

pub same_carriages : (job : Job) (c : Cluster) → IsValid c → map carriage_of (entries_of job c c) ≡ map (carriage job c) (relations_of c)
unfolding entries_of relations_of
same_carriages job c valid =
    map_flat carriage_of (database_entries (old_site job c) (new_site job c) c) c.databases
    ∙ flat_by_place (λ d. map carriage_of (database_entries (old_site job c) (new_site job c) c d)) (λ d. map (carriage job c) (relations_in d)) c.databases
    (λ i d h. database_same job c c.roles c.tablespaces d (valid_at c.roles c.tablespaces c.databases i d valid.databases h) (find_distinct (λ (e : DatabaseObjects). e.oid) c.databases i d valid.database_oids_differ h))
    ∙ sym (map_flat (carriage job c) relations_in c.databases)
