-- The relations of a valid catalog.
use Rattle.std.proofs.Common.{◌≡◌, ◌⊎◌, inl, inr, ℕ, ◌<◌, ◌≤◌, ◌^◌, Bool, true, false, not, ◌&&◌, ◌||◌, List, [], ◌∷◌, ◌++◌, map, Option, Some, None, refl, sym, ◌∙◌, ap, arith, subst}
use Rattle.std.specs.Prelude.{nat_lt, if◌then◌else◌}
use Rattle.std.specs.List.{Contains, flat_map, find, list_any, list_all}
use Rattle.std.proofs.lemmas.Bool.{and_parts, ltb-true}
use Rattle.catalog.specs.declared.owners.Role.{Role}
use Rattle.catalog.specs.declared.owners.Tablespace.{Tablespace}
use Rattle.catalog.specs.declared.relations.Table.{Table}
use Rattle.catalog.specs.declared.relations.Index.{Index}
use Rattle.catalog.specs.Cluster.{Cluster, DatabaseObjects, default_tablespace}
use Rattle.catalog.specs.Spaces.{tablespace_has, FilePlace, place_in, table_files, table_places, index_place, sequence_place, file_places}
use Rattle.catalog.specs.Forms.{is_32_bits, is_name, has_role, has_tablespace}
use Rattle.catalog.specs.Refusals.{is_system_number}
use Rattle.catalog.specs.Valid.{IsValid, is_user_number, is_user_place, table_is_valid, index_is_valid, head_is_valid, head_of, first_heads, DatabaseHead}
use Rattle.relation_files.specs.declared.relation.Relation.{Relation}
use Rattle.relation_files.specs.Relations.{relation_at, relations_in, relations_of}
use Rattle.catalog_server.proofs.Members.{In, to_in, in_either, in_map, flat_in}
use Rattle.catalog_server.proofs.Unused.{all_in, valid_in}
use Rattle.catalog_server.proofs.Rooms.{valid_has_default}

from_map : {A B : Type 0} (f : A → B) (xs : List A) (y : B) → In (map f xs) y → (x : A) × In xs x × (y ≡ f x)
from_map f [] y found = absurd found
from_map f (x ∷ xs) y (inl is) = (x, inl refl, is)
from_map f (x ∷ xs) y (inr found) = let (z, there, is) = from_map f xs y found in (z, inr there, is)

user_small : (n : ℕ) → is_user_number n ≡ true → n < 2 ^ 32
user_small n e = ltb-true n (2 ^ 32) (and_parts (not (is_system_number n)) (is_32_bits n) e).1

user_large : (n : ℕ) → is_user_number n ≡ true → 16384 ≤ n
user_large n e = by (nat_lt n 16384) refl (and_parts (not (is_system_number n)) (is_32_bits n) e).0
  where
    by : (b : Bool) → nat_lt n 16384 ≡ b → not b ≡ true → 16384 ≤ n
    by true is h = absurd (cc h)
    by false is h = grind (arith, is)

-- a relation, where its files stand
pub record IsRelation (c : Cluster) (r : Relation) : Type 0 where
  pub database : DatabaseObjects
  pub listed : In c.databases database
  pub database_is : r.database ≡ database.oid
  pub database_small : r.database < 2 ^ 32
  pub file_large : 16384 ≤ r.file
  pub file_small : r.file < 2 ^ 32
  pub tablespace_stands : list_any (tablespace_has r.tablespace) c.tablespaces ≡ true

module _ (c : Cluster) (valid : IsValid c) (d : DatabaseObjects) (found : In c.databases d) where
  abbrev Stands : FilePlace → Type 0
  Stands p = list_any (tablespace_has p.tablespace) c.tablespaces ≡ true

  small : d.oid < 2 ^ 32
  small = in_either first_heads valid.more_heads (head_of d) (d.oid < 2 ^ 32) first more (subst (λ l. In l (head_of d)) valid.databases_are (in_map head_of c.databases d found))
    where
      first : In first_heads (head_of d) → d.oid < 2 ^ 32
      first (inl is) = let n : d.oid ≡ 1 = ap (λ (x : DatabaseHead). x.oid) is in omega (arith, n)
      first (inr (inl is)) = let n : d.oid ≡ 4 = ap (λ (x : DatabaseHead). x.oid) is in omega (arith, n)
      first (inr (inr (inl is))) = let n : d.oid ≡ 5 = ap (λ (x : DatabaseHead). x.oid) is in omega (arith, n)
      first (inr (inr (inr none))) = absurd none

      more : In valid.more_heads (head_of d) → d.oid < 2 ^ 32
      more among = let h = all_in (head_is_valid c.roles) valid.more_heads valid.heads (head_of d) among in user_small d.oid (and_parts (is_name d.name) (is_user_number d.oid) (and_parts (is_name d.name && is_user_number d.oid) (has_role c.roles d.owner) h).0).1

  table_stands_in : (t : Table) → In d.tables t → (p : FilePlace) → In (table_places t) p → Stands p
  table_stands_in t t_found p among =
      let h = all_in (table_is_valid c.roles c.tablespaces d) d.tables (valid_in c.roles c.tablespaces c.databases valid.databases d found).tables t t_found in
      let (file, _, is) = from_map (place_in t.tablespace) (table_files t) p among in
      subst Stands (sym is) (and_parts _ _ (and_parts _ _ (and_parts _ _ (and_parts _ _ (and_parts _ _ (and_parts _ _ h).0).0).1).0).0).1

  index_stands_in : (x : Index) → In d.indexes x → has_tablespace c.tablespaces x.tablespace ≡ true
  index_stands_in x x_found =
      let h = all_in (index_is_valid c.tablespaces d.tables) d.indexes (valid_in c.roles c.tablespaces c.databases valid.databases d found).indexes x x_found in
      (and_parts _ _ (and_parts _ _ (and_parts _ _ h).0).1).0

  all_stand : (p : FilePlace) → In (file_places d) p → Stands p
  unfolding file_places
  all_stand p among =
      in_either (flat_map table_places d.tables) (map index_place d.indexes ++ map sequence_place d.sequences) p (Stands p)
      (λ here. let (t, there, inside) = flat_in table_places d.tables p here in table_stands_in t there p inside)
      (λ rest.
      in_either (map index_place d.indexes) (map sequence_place d.sequences) p (Stands p)
      (λ here. let (x, there, is) = from_map index_place d.indexes p here in subst Stands (sym is) (index_stands_in x there))
      (λ here. let (x, there, is) = from_map sequence_place d.sequences p here in subst Stands (sym is) (valid_has_default c valid)) rest) among

  placed_relation : (p : FilePlace) → In (file_places d) p → IsRelation c (relation_at d p)
  placed_relation p among =
      let number = all_in is_user_place (file_places d) (valid_in c.roles c.tablespaces c.databases valid.databases d found).file_numbers p among in
      record {
        database = d;
        listed = found;
        database_is = refl;
        database_small = small;
        file_large = user_large p.number number;
        file_small = user_small p.number number;
        tablespace_stands = all_stand p among;
      }

pub relation_known : (c : Cluster) → IsValid c → (r : Relation) → Contains (relations_of c) r → IsRelation c r
unfolding relations_of relations_in
relation_known c valid r found =
    let (d, there, inside) = flat_in relations_in c.databases r (to_in (relations_of c) r found) in
    let (p, among, is) = from_map (relation_at d) (file_places d) r inside in
    subst (IsRelation c) (sym is) (placed_relation c valid d there p among)

pub space_found : (ts : List Tablespace) (n : ℕ) → list_any (tablespace_has n) ts ≡ true → (t : Tablespace) × (find (tablespace_has n) ts ≡ Some t)
space_found [] n e = absurd (cc e)
space_found (t ∷ ts) n e = by (tablespace_has n t) (space_found ts n) e
  where
    by : (b : Bool) → (list_any (tablespace_has n) ts ≡ true → (u : Tablespace) × (find (tablespace_has n) ts ≡ Some u)) → (b || list_any (tablespace_has n) ts) ≡ true → (u : Tablespace) × ((if b then Some t else find (tablespace_has n) ts) ≡ Some u)
    by true later e = (t, refl)
    by false later e = later e
