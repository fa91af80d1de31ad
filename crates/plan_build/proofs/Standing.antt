-- Of a valid catalog: the numbers of its databases and files, and the tablespaces of its relations.
use Rattle.std.proofs.Common.{◌≡◌, ◌∙◌, inl, inr, ℕ, ◌<◌, ◌^◌, Bool, true, false, cond, not, ◌&&◌, ◌||◌, List, [], ◌∷◌, ◌++◌, map, Option, Some, None, refl, sym, ap, subst, arith}
use Rattle.std.specs.List.{find, flat_map, list_any, list_all}
use Rattle.std.proofs.lemmas.Bool.{and_parts, ltb-true}
use Rattle.catalog.specs.declared.owners.Role.{Role}
use Rattle.catalog.specs.declared.owners.Tablespace.{Tablespace}
use Rattle.catalog.specs.declared.relations.Table.{Table}
use Rattle.catalog.specs.declared.relations.Index.{Index}
use Rattle.catalog.specs.Cluster.{Cluster, DatabaseObjects, default_tablespace}
use Rattle.catalog.specs.Forms.{is_32_bits, is_name, has_role, has_tablespace}
use Rattle.catalog.specs.Refusals.{is_system_number}
use Rattle.catalog.specs.Spaces.{tablespace_has, FilePlace, place_in, table_files, table_places, index_place, sequence_place, file_places}
use Rattle.catalog.specs.Valid.{IsValid, IsValidDatabase, AreValidDatabases, first_heads, head_of, head_is_valid, is_user_number, is_user_place, table_is_valid, index_is_valid}
use Rattle.plan_build.proofs.Lists.{Among, either, mapped, of_mapped, of_flat}

all_in : {A : Type 0} (p : A → Bool) (xs : List A) → list_all p xs ≡ true → (x : A) → Among xs x → p x ≡ true
all_in p [] all x none = absurd none
all_in p (y ∷ ys) all x (inl is) = ap p is ∙ (and_parts (p y) (list_all p ys) all).0
all_in p (y ∷ ys) all x (inr found) = all_in p ys (and_parts (p y) (list_all p ys) all).1 x found

user_small : (n : ℕ) → is_user_number n ≡ true → n < 2 ^ 32
user_small n e = ltb-true n (2 ^ 32) (and_parts (not (is_system_number n)) (is_32_bits n) e).1

pub valid_in : (roles : List Role) (ts : List Tablespace) (ds : List DatabaseObjects) → AreValidDatabases roles ts ds → (d : DatabaseObjects) → Among ds d → IsValidDatabase roles ts d
valid_in roles ts [] all d none = absurd none
valid_in roles ts (e ∷ ds) all d (inl is) = subst (IsValidDatabase roles ts) (sym is) all.0
valid_in roles ts (e ∷ ds) all d (inr found) = valid_in roles ts ds all.1 d found

module _ (c : Cluster) (valid : IsValid c) (d : DatabaseObjects) (found : Among c.databases d) where
  valid_database : IsValidDatabase c.roles c.tablespaces d
  valid_database = valid_in c.roles c.tablespaces c.databases valid.databases d found

  -- the database's OID has 32 bits
  pub database_small : d.oid < 2 ^ 32
  database_small = elim (either first_heads valid.more_heads (head_of d) (subst (λ l. Among l (head_of d)) valid.databases_are (mapped head_of c.databases d found))) [ inl among ↦ first among | inr among ↦ more among ]
    where
      small : (n : ℕ) → d.oid ≡ n → n < 2 ^ 32 → d.oid < 2 ^ 32
      small n is lt = subst (λ m. m < 2 ^ 32) (sym is) lt

      first : Among first_heads (head_of d) → d.oid < 2 ^ 32
      first (inl is) = small 1 (ap (λ h. h.oid) is) (omega arith)
      first (inr (inl is)) = small 4 (ap (λ h. h.oid) is) (omega arith)
      first (inr (inr (inl is))) = small 5 (ap (λ h. h.oid) is) (omega arith)
      first (inr (inr (inr none))) = absurd none

      more : Among valid.more_heads (head_of d) → d.oid < 2 ^ 32
      more among =
          let h = all_in (head_is_valid c.roles) valid.more_heads valid.heads (head_of d) among in
          user_small d.oid (and_parts (is_name d.name) (is_user_number d.oid) (and_parts (is_name d.name && is_user_number d.oid) (has_role c.roles d.owner) h).0).1

  pub file_small : (place : FilePlace) → Among (file_places d) place → place.number < 2 ^ 32
  file_small place among = user_small place.number (all_in is_user_place (file_places d) valid_database.file_numbers place among)

  abbrev pub Stands : FilePlace → Type 0
  Stands p = list_any (tablespace_has p.tablespace) c.tablespaces ≡ true

  table_stands_in : (t : Table) → Among d.tables t → (p : FilePlace) → Among (table_places t) p → Stands p
  table_stands_in t t_found p among =
      let h = all_in (table_is_valid c.roles c.tablespaces d) d.tables valid_database.tables t t_found in
      let (file, _, is) = of_mapped (place_in t.tablespace) (table_files t) p among in
      subst Stands (sym is) (and_parts _ _ (and_parts _ _ (and_parts _ _ (and_parts _ _ (and_parts _ _ (and_parts _ _ h).0).0).1).0).0).1

  index_stands_in : (x : Index) → Among d.indexes x → has_tablespace c.tablespaces x.tablespace ≡ true
  index_stands_in x x_found =
      let h = all_in (index_is_valid c.tablespaces d.tables) d.indexes valid_database.indexes x x_found in
      (and_parts _ _ (and_parts _ _ (and_parts _ _ h).0).1).0

  default_stands : list_any (tablespace_has default_tablespace) c.tablespaces ≡ true
  default_stands = ap (list_any (tablespace_has default_tablespace)) valid.tablespaces_are

  -- each file stands in a tablespace of the catalog
  pub all_stand : (p : FilePlace) → Among (file_places d) p → Stands p
  unfolding file_places
  all_stand p among = elim (either (flat_map table_places d.tables) (map index_place d.indexes ++ map sequence_place d.sequences) p among) [ inl here ↦ of_table here | inr rest ↦ elim (either (map index_place d.indexes) (map sequence_place d.sequences) p rest) [ inl here ↦ of_index here | inr here ↦ of_sequence here ] ]
    where
      of_table : Among (flat_map table_places d.tables) p → Stands p
      of_table here = let (t, there, inside) = of_flat table_places d.tables p here in table_stands_in t there p inside

      of_index : Among (map index_place d.indexes) p → Stands p
      of_index here = let (x, there, is) = of_mapped index_place d.indexes p here in subst Stands (sym is) (index_stands_in x there)

      of_sequence : Among (map sequence_place d.sequences) p → Stands p
      of_sequence here = let (x, there, is) = of_mapped sequence_place d.sequences p here in subst Stands (sym is) default_stands

none_any : (p : Tablespace → Bool) (ts : List Tablespace) → find p ts ≡ None → list_any p ts ≡ false
none_any p [] e = refl
none_any p (t ∷ ts) e = by (p t) (none_any p ts) e
  where
    by : (b : Bool) → (find p ts ≡ None → list_any p ts ≡ false) → cond b (Some t) (find p ts) ≡ None → (b || list_any p ts) ≡ false
    by true rest e = absurd (cc e)
    by false rest e = rest e

found_among : (p : Tablespace → Bool) (ts : List Tablespace) (t : Tablespace) → find p ts ≡ Some t → Among ts t × (p t ≡ true)
found_among p [] t e = absurd (cc e)
found_among p (u ∷ ts) t e = by (p u) refl (found_among p ts t) e
  where
    by : (b : Bool) → p u ≡ b → (find p ts ≡ Some t → Among ts t × (p t ≡ true)) → cond b (Some u) (find p ts) ≡ Some t → Among (u ∷ ts) t × (p t ≡ true)
    by true is rest e = let same : u ≡ t = cc e in (inl (sym same), ap p (sym same) ∙ is)
    by false is rest e = let further = rest e in (inr further.0, further.1)

-- what is found where there is one
pub record IsFound (p : Tablespace → Bool) (ts : List Tablespace) : Type 0 where
  pub tablespace : Tablespace
  pub found : find p ts ≡ Some tablespace
  pub there : Among ts tablespace
  pub passes : p tablespace ≡ true

pub found_in : (p : Tablespace → Bool) (ts : List Tablespace) → list_any p ts ≡ true → IsFound p ts
found_in p ts any = by (find p ts) refl
  where
    by : (found : Option Tablespace) → find p ts ≡ found → IsFound p ts
    by None e = absurd (let none : list_any p ts ≡ false = none_any p ts e in cc (none, any))
    by (Some t) e = let is = found_among p ts t e in record { tablespace = t; found = e; there = is.0; passes = is.1 }
