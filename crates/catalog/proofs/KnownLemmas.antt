-- How the look-ups beside a list stay right.
use Rattle.std.proofs.Common.{◌≡◌, ℕ, Bool, true, false, List, [], ◌∷◌, ◌++◌, length, Some, refl, sym, ap, ◌∙◌}
use Rattle.std.specs.Prelude.{◌&&◌, ◌||◌, nat_eq, bytes_eq, map}
use Rattle.std.specs.List.{list_any, find}
use Rattle.object_places.specs.Places.{number_place, name_place, file_place}
use Rattle.object_places.specs.Finds.{object_at, passes, passing}
use Rattle.object_places.proofs.FindsLemmas.{kept, pushed, any_known, find_known}
use Rattle.catalog.specs.declared.relations.Table.{Table}
use Rattle.catalog.specs.declared.table_places.TablePlaces.{TablePlaces}
use Rattle.catalog.specs.Spaces.{SchemaName, FilePlace, same_place, place_in, table_oids, table_files, table_has}
use Rattle.catalog.specs.Lookups.{table_is}
use Rattle.catalog.specs.Known.{name_at, file_at, table_of_oid, table_of_row_type, table_of_name, table_of_file, TablesKnown, TableIsFree}
use Rattle.catalog.proofs.ListLemmas.{nat_eq-turned}

-- ---- a key among the files of one tablespace

both_or : (a b c : Bool) → ((a && b) || (a && c)) ≡ (a && (b || c))
both_or true b c = refl
both_or false b c = refl

pub file_among : (key : FilePlace) (tablespace : ℕ) (numbers : List ℕ) → list_any (same_place key) (map (place_in tablespace) numbers) ≡ (nat_eq key.tablespace tablespace && list_any (nat_eq key.number) numbers)
file_among key tablespace [] = none (nat_eq key.tablespace tablespace)
  where
    none : (a : Bool) → false ≡ (a && false)
    none true = refl
    none false = refl
file_among key tablespace (n ∷ ns) =
    ap (λ b. same_place key (place_in tablespace n) || b) (file_among key tablespace ns)
    ∙ both_or (nat_eq key.tablespace tablespace) (nat_eq key.number n) (list_any (nat_eq key.number) ns)

-- ---- tables

pub tables_kept : (ts : List Table) (t : Table) (p q : TablePlaces) → TablesKnown ts p → TableIsFree ts t
    → ((k : ℕ) → list_any (nat_eq k) (table_oids t) ≡ false → number_place q.oids k ≡ number_place p.oids k)
    → ((k : ℕ) → nat_eq k t.row_type ≡ false → number_place q.row_types k ≡ number_place p.row_types k)
    → ((s k : List ℕ) → (bytes_eq s t.schema && bytes_eq k t.name) ≡ false → name_place q.names s k ≡ name_place p.names s k)
    → ((s k : ℕ) → (nat_eq s t.tablespace && list_any (nat_eq k) (table_files t)) ≡ false → file_place q.files s k ≡ file_place p.files s k)
    → TablesKnown ts q
tables_kept ts t p q known free oids row_types names files =
    record {
      by_oid = kept {place = number_place p.oids} {has = table_of_oid} ts (λ k. table_of_oid k t) (number_place q.oids) known.by_oid oids free.oids;
      by_row_type = kept {place = number_place p.row_types} {has = table_of_row_type} ts (λ k. table_of_row_type k t) (number_place q.row_types) known.by_row_type row_types free.row_type;
      by_name = kept {place = name_at p.names} {has = table_of_name} ts (λ k. table_of_name k t) (name_at q.names) known.by_name (λ k. names k.schema k.name) free.name;
      by_file = kept {place = file_at p.files} {has = table_of_file} ts (λ k. table_of_file k t) (file_at q.files) known.by_file
          (λ k h. files k.tablespace k.number (sym (file_among k t.tablespace (table_files t)) ∙ h)) free.files;
    }

pub tables_pushed : (ts : List Table) (t : Table) (p : TablePlaces) → TablesKnown ts p
    → ((k : ℕ) → list_any (nat_eq k) (table_oids t) ≡ true → number_place p.oids k ≡ Some (length ts))
    → ((k : ℕ) → nat_eq k t.row_type ≡ true → number_place p.row_types k ≡ Some (length ts))
    → ((s k : List ℕ) → (bytes_eq s t.schema && bytes_eq k t.name) ≡ true → name_place p.names s k ≡ Some (length ts))
    → ((s k : ℕ) → (nat_eq s t.tablespace && list_any (nat_eq k) (table_files t)) ≡ true → file_place p.files s k ≡ Some (length ts))
    → TablesKnown (ts ++ t ∷ []) p
tables_pushed ts t p known oids row_types names files =
    record {
      by_oid = pushed {place = number_place p.oids} {has = table_of_oid} ts t known.by_oid oids;
      by_row_type = pushed {place = number_place p.row_types} {has = table_of_row_type} ts t known.by_row_type row_types;
      by_name = pushed {place = name_at p.names} {has = table_of_name} ts t known.by_name (λ k. names k.schema k.name);
      by_file = pushed {place = file_at p.files} {has = table_of_file} ts t known.by_file
          (λ k h. files k.tablespace k.number (sym (file_among k t.tablespace (table_files t)) ∙ h));
    }

first_of_oids : (oid : ℕ) (t : Table) → table_has oid t ≡ true → table_of_oid oid t ≡ true
first_of_oids oid t h = rw (nat_eq-turned oid t.oid, h) refl

module _ (ts : List Table) (p : TablePlaces) (known : TablesKnown ts p) where
  pub table_found : (oid : ℕ) → find (table_has oid) ts ≡ passing (table_has oid) (object_at ts (number_place p.oids oid))
  table_found oid = find_known {place = number_place p.oids} {has = table_of_oid} ts known.by_oid (table_has oid) oid (first_of_oids oid)

  pub table_found_named : (schema name : List ℕ) → find (table_is schema name) ts ≡ passing (table_is schema name) (object_at ts (name_place p.names schema name))
  table_found_named schema name = find_known {place = name_at p.names} {has = table_of_name} ts known.by_name (table_is schema name) (record { schema = schema; name = name }) (λ x h. h)

  pub any_of_oid : (oid : ℕ) → list_any (table_of_oid oid) ts ≡ passes (table_of_oid oid) (object_at ts (number_place p.oids oid))
  any_of_oid oid = any_known {place = number_place p.oids} {has = table_of_oid} ts known.by_oid (table_of_oid oid) oid (λ x h. h)

  pub any_of_row_type : (oid : ℕ) → list_any (table_of_row_type oid) ts ≡ passes (table_of_row_type oid) (object_at ts (number_place p.row_types oid))
  any_of_row_type oid = any_known {place = number_place p.row_types} {has = table_of_row_type} ts known.by_row_type (table_of_row_type oid) oid (λ x h. h)

  pub any_of_name : (key : SchemaName) → list_any (table_of_name key) ts ≡ passes (table_of_name key) (object_at ts (name_at p.names key))
  any_of_name key = any_known {place = name_at p.names} {has = table_of_name} ts known.by_name (table_of_name key) key (λ x h. h)

  pub any_of_file : (key : FilePlace) → list_any (table_of_file key) ts ≡ passes (table_of_file key) (object_at ts (file_at p.files key))
  any_of_file key = any_known {place = file_at p.files} {has = table_of_file} ts known.by_file (table_of_file key) key (λ x h. h)
