-- The tablespaces that a catalog's relations stand in.
use Rattle.std.proofs.Common.{◌≡◌, ◌∙◌, ◌||◌, ◌++◌, ◌∷◌, [], ℕ, Bool, true, false, cond, nat_eq, if◌then◌else◌, List, map, Option, Some, None, inl, inr, refl, sym, ap, subst}
use Rattle.std.proofs.lemmas.Bool.{eqb-true, and_parts}
use Rattle.std.specs.List.{Contains, flat_map, find, list_any}
use Rattle.crash_safety.specs.Synced.{IsOneOf}
use Rattle.catalog.specs.declared.owners.Tablespace.{Tablespace}
use Rattle.catalog.specs.declared.relations.Table.{Table}
use Rattle.catalog.specs.declared.relations.Index.{Index}
use Rattle.catalog.specs.Cluster.{Cluster, DatabaseObjects, default_tablespace}
use Rattle.catalog.specs.Spaces.{tablespace_has, FilePlace, place_in, table_files, table_places, index_place, sequence_place, file_places}
use Rattle.catalog.specs.Forms.{has_tablespace}
use Rattle.catalog.specs.Valid.{IsValid, table_is_valid, index_is_valid}
use Rattle.relation_files.specs.declared.relation.Relation.{Relation}
use Rattle.relation_files.specs.Relations.{relation_at, relations_in, relations_of}
use Rattle.catalog_server.proofs.Members.{In, to_in, in_find, find_has, in_either, flat_in, from_map}
use Rattle.catalog_server.proofs.Rooms.{valid_has_default}
use Rattle.catalog_server.proofs.Unused.{all_in, valid_in}
use Rattle.phase_facts.specs.Places.{locations_of}

none_any : (p : Tablespace → Bool) (ts : List Tablespace) → find p ts ≡ None → list_any p ts ≡ false
none_any p [] e = refl
none_any p (t ∷ ts) e = by (p t) (none_any p ts) e
  where
    by : (b : Bool) → (find p ts ≡ None → list_any p ts ≡ false) → cond b (Some t) (find p ts) ≡ None → (b || list_any p ts) ≡ false
    by true rest e = absurd (cc e)
    by false rest e = rest e

-- what is found where there is one
found_in : (p : Tablespace → Bool) (ts : List Tablespace) → list_any p ts ≡ true → (t : Tablespace) × (find p ts ≡ Some t)
found_in p ts any = by (find p ts) refl
  where
    by : (found : Option Tablespace) → find p ts ≡ found → (t : Tablespace) × (find p ts ≡ Some t)
    by None e = absurd (let none : list_any p ts ≡ false = none_any p ts e in cc (none, any))
    by (Some t) e = (t, e)

-- each relation stands in a tablespace of the catalog
module _ (c : Cluster) (valid : IsValid c) where
  abbrev Stands : ℕ → Type 0
  Stands tablespace = list_any (tablespace_has tablespace) c.tablespaces ≡ true

  module _ (d : DatabaseObjects) (found : In c.databases d) where
    table_stands_in : (t : Table) → In d.tables t → (p : FilePlace) → In (table_places t) p → Stands p.tablespace
    table_stands_in t t_found p among =
        let h = all_in (table_is_valid c.roles c.tablespaces d) d.tables (valid_in c.roles c.tablespaces c.databases valid.databases d found).tables t t_found in
        let (file, _, is) = from_map (place_in t.tablespace) (table_files t) p among in
        subst (λ (q : FilePlace). Stands q.tablespace) (sym is) (and_parts _ _ (and_parts _ _ (and_parts _ _ (and_parts _ _ (and_parts _ _ (and_parts _ _ h).0).0).1).0).0).1

    index_stands_in : (x : Index) → In d.indexes x → has_tablespace c.tablespaces x.tablespace ≡ true
    index_stands_in x x_found =
        let h = all_in (index_is_valid c.tablespaces d.tables) d.indexes (valid_in c.roles c.tablespaces c.databases valid.databases d found).indexes x x_found in
        (and_parts _ _ (and_parts _ _ (and_parts _ _ h).0).1).0

    all_stand : (p : FilePlace) → In (file_places d) p → Stands p.tablespace
    unfolding file_places
    all_stand p among =
        in_either (flat_map table_places d.tables) (map index_place d.indexes ++ map sequence_place d.sequences) p (Stands p.tablespace)
        (λ here. let (t, there, inside) = flat_in table_places d.tables p here in table_stands_in t there p inside)
        (λ rest.
        in_either (map index_place d.indexes) (map sequence_place d.sequences) p (Stands p.tablespace)
        (λ here. let (x, there, is) = from_map index_place d.indexes p here in subst (λ (q : FilePlace). Stands q.tablespace) (sym is) (index_stands_in x there))
        (λ here. let (x, there, is) = from_map sequence_place d.sequences p here in subst (λ (q : FilePlace). Stands q.tablespace) (sym is) (valid_has_default c valid)) rest) among

  relation_stands : (r : Relation) → Contains (relations_of c) r → Stands r.tablespace
  unfolding relations_of relations_in
  relation_stands r listed =
      let (d, found, within) = flat_in relations_in c.databases r (to_in (relations_of c) r listed) in
      let (p, among, is) = from_map (relation_at d) (file_places d) r within in
      subst (λ (q : Relation). Stands q.tablespace) (sym is) (all_stand d found p among)

  pub tablespace_found : (r : Relation) → Contains (relations_of c) r → (t : Tablespace) × (find (tablespace_has r.tablespace) c.tablespaces ≡ Some t) × In c.tablespaces t × (t.oid ≡ r.tablespace)
  tablespace_found r listed =
      let (t, is) = found_in (tablespace_has r.tablespace) c.tablespaces (relation_stands r listed) in
      (t, is, in_find (tablespace_has r.tablespace) c.tablespaces t is, eqb-true t.oid r.tablespace (find_has (tablespace_has r.tablespace) c.tablespaces t is))

-- the location of a tablespace but `pg_default` is among those of all
pub location_among : (ts : List Tablespace) (t : Tablespace) → In ts t → nat_eq t.oid default_tablespace ≡ false → IsOneOf (locations_of ts) t.location
location_among [] t none other = absurd none
location_among (u ∷ ts) t (inl is) other =
    subst (λ b. IsOneOf (if b then locations_of ts else u.location ∷ locations_of ts) t.location) (sym (ap (λ (v : Tablespace). nat_eq v.oid default_tablespace) (sym is) ∙ other)) (inl (ap (λ (v : Tablespace). v.location) is))
location_among (u ∷ ts) t (inr found) other =
    elim (nat_eq u.oid default_tablespace) as (λ b. IsOneOf (if b then locations_of ts else u.location ∷ locations_of ts) t.location) [ true ↦ location_among ts t found other | false ↦ inr (location_among ts t found other) ]
