-- Where the relations of a valid catalog are: each in a tablespace of the catalog, with numbers of 32 bits.
use Rattle.std.proofs.Common.{◌≡◌, ◌≢◌, ◌⊎◌, inl, inr, ℕ, ◌<◌, ◌^◌, Bool, true, false, cond, not, ◌||◌, List, [], ◌∷◌, ◌++◌, map, Option, Some, None, refl, sym, ◌∙◌, ap, subst, arith, nat_eq}
use Rattle.std.specs.List.{Contains, flat_map, find, list_any}
use Rattle.std.proofs.lemmas.Bool.{eqb-true, eq-eqb, and_parts, ltb-true}
use Rattle.catalog.specs.declared.owners.Tablespace.{Tablespace}
use Rattle.catalog.specs.declared.relations.Table.{Table}
use Rattle.catalog.specs.declared.relations.Index.{Index}
use Rattle.catalog.specs.Cluster.{Cluster, DatabaseObjects, default_tablespace}
use Rattle.catalog.specs.Spaces.{tablespace_has, FilePlace, place_in, table_files, table_places, index_place, sequence_place, file_places}
use Rattle.catalog.specs.Forms.{has_tablespace, has_role, is_name, is_32_bits}
use Rattle.catalog.specs.Refusals.{is_system_number}
use Rattle.catalog.specs.Valid.{IsValid, DatabaseHead, table_is_valid, index_is_valid, is_user_number, is_user_place, head_of, first_heads, head_is_valid}
use Rattle.relation_files.specs.declared.relation.Relation.{Relation}
use Rattle.relation_files.specs.Relations.{relation_at, relations_in, relations_of}
use Rattle.catalog_server.proofs.Members.{In, to_in, from_in, in_find, find_has, in_either, in_map, flat_in, from_map}
use Rattle.catalog_server.proofs.Rooms.{valid_has_default}
use Rattle.catalog_server.proofs.Unused.{all_in, valid_in}

none_any : (p : Tablespace → Bool) (ts : List Tablespace) → find p ts ≡ None → list_any p ts ≡ false
none_any p [] e = refl
none_any p (t ∷ ts) e = by (p t) (none_any p ts) e
  where
    by : (b : Bool) → (find p ts ≡ None → list_any p ts ≡ false) → cond b (Some t) (find p ts) ≡ None → (b || list_any p ts) ≡ false
    by true rest e = absurd (cc e)
    by false rest e = rest e

found_in : (p : Tablespace → Bool) (ts : List Tablespace) → list_any p ts ≡ true → (t : Tablespace) × (find p ts ≡ Some t)
found_in p ts any = by (find p ts) refl
  where
    by : (found : Option Tablespace) → find p ts ≡ found → (t : Tablespace) × (find p ts ≡ Some t)
    by None e = absurd (let none : list_any p ts ≡ false = none_any p ts e in cc (none, any))
    by (Some t) e = (t, e)

user_small : (n : ℕ) → is_user_number n ≡ true → n < 2 ^ 32
user_small n e = ltb-true n (2 ^ 32) (and_parts (not (is_system_number n)) (is_32_bits n) e).1

-- the tablespace is `pg_default`, or one that the catalog has
abbrev pub IsStore : Cluster → ℕ → Type 0
IsStore catalog k =
    (nat_eq k default_tablespace ≡ true)
    ⊎ ((t : Tablespace) × Contains catalog.tablespaces t × (t.oid ≢ default_tablespace) × (nat_eq k default_tablespace ≡ false) × (find (tablespace_has k) catalog.tablespaces ≡ Some t))

-- where a relation is, and its numbers
pub record IsStored (catalog : Cluster) (relation : Relation) : Type 0 where
  pub store : IsStore catalog relation.tablespace
  pub database : relation.database < 2 ^ 32
  pub file : relation.file < 2 ^ 32

module _ (c : Cluster) (valid : IsValid c) where
  database_small : (d : DatabaseObjects) → In c.databases d → d.oid < 2 ^ 32
  database_small d found = in_either first_heads valid.more_heads (head_of d) (d.oid < 2 ^ 32) first more (subst (λ l. In l (head_of d)) valid.databases_are (in_map head_of c.databases d found))
    where
      first : In first_heads (head_of d) → d.oid < 2 ^ 32
      first (inl is) = let n : d.oid ≡ 1 = ap (λ (x : DatabaseHead). x.oid) is in omega (arith, n)
      first (inr (inl is)) = let n : d.oid ≡ 4 = ap (λ (x : DatabaseHead). x.oid) is in omega (arith, n)
      first (inr (inr (inl is))) = let n : d.oid ≡ 5 = ap (λ (x : DatabaseHead). x.oid) is in omega (arith, n)
      first (inr (inr (inr none))) = absurd none

      more : In valid.more_heads (head_of d) → d.oid < 2 ^ 32
      more among = let h = all_in (head_is_valid c.roles) valid.more_heads valid.heads (head_of d) among in user_small d.oid (and_parts (is_name d.name) (is_user_number d.oid) (and_parts _ (has_role c.roles d.owner) h).0).1

  module _ (d : DatabaseObjects) (found : In c.databases d) where
    abbrev Stands : FilePlace → Type 0
    Stands p = list_any (tablespace_has p.tablespace) c.tablespaces ≡ true

    table_stands_in : (t : Table) → In d.tables t → (p : FilePlace) → In (table_places t) p → Stands p
    table_stands_in t t_found p among =
        let h = all_in (table_is_valid c.roles c.tablespaces d) d.tables (valid_in c.roles c.tablespaces c.databases valid.databases d found).tables t t_found in
        let (file, _, is) = from_map (place_in t.tablespace) (table_files t) p among in
        subst Stands (sym is) (and_parts _ _ (and_parts _ _ (and_parts _ _ (and_parts _ _ (and_parts _ _ (and_parts _ _ h).0).0).1).0).0).1

    index_stands_in : (x : Index) → In d.indexes x → has_tablespace c.tablespaces x.tablespace ≡ true
    index_stands_in x x_found =
        let h = all_in (index_is_valid c.tablespaces d.tables) d.indexes (valid_in c.roles c.tablespaces c.databases valid.databases d found).indexes x x_found in
        (and_parts _ _ (and_parts _ _ (and_parts _ _ h).0).1).0

    all_stand : (p : FilePlace) → In (file_places d) p → Stands p
    unfolding file_places
    all_stand p among =
        in_either (flat_map table_places d.tables) (map index_place d.indexes ++ map sequence_place d.sequences) p (Stands p)
        (λ here. let (t, there, inside) = flat_in table_places d.tables p here in table_stands_in t there p inside)
        (λ rest.
        in_either (map index_place d.indexes) (map sequence_place d.sequences) p (Stands p)
        (λ here. let (x, there, is) = from_map index_place d.indexes p here in subst Stands (sym is) (index_stands_in x there))
        (λ here. let (x, there, is) = from_map sequence_place d.sequences p here in subst Stands (sym is) (valid_has_default c valid)) rest) among

    store_of : (k : ℕ) → list_any (tablespace_has k) c.tablespaces ≡ true → IsStore c k
    store_of k any = by (nat_eq k default_tablespace) refl
      where
        by : (b : Bool) → nat_eq k default_tablespace ≡ b → IsStore c k
        by true own = inl own
        by false other =
            let (t, is) = found_in (tablespace_has k) c.tablespaces any in
            let same : t.oid ≡ k = eqb-true t.oid k (find_has (tablespace_has k) c.tablespaces t is) in
            inr (t, from_in c.tablespaces t (in_find (tablespace_has k) c.tablespaces t is), (λ own. (let no = eq-eqb k default_tablespace (sym same ∙ own) in cc (no, other))), other, is)

    place_stored : (p : FilePlace) → In (file_places d) p → IsStored c (relation_at d p)
    place_stored p among = record {
      store = store_of p.tablespace (all_stand p among);
      database = database_small d found;
      file = user_small p.number (all_in is_user_place (file_places d) (valid_in c.roles c.tablespaces c.databases valid.databases d found).file_numbers p among);
    }

  pub stored : (relation : Relation) → Contains (relations_of c) relation → IsStored c relation
  unfolding relations_of relations_in
  stored relation listed =
      let (d, d_found, here) = flat_in relations_in c.databases relation (to_in (relations_of c) relation listed) in
      let (p, among, is) = from_map (relation_at d) (file_places d) relation here in
      subst (IsStored c) (sym is) (place_stored d d_found p among)
