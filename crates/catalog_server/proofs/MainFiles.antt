-- The files that a replay lists are the first segments of the main forks of the relations that others mean.
use Rattle.std.proofs.Common.{◌≡◌, inl, inr, ℕ, Bool, true, false, cond, ◌||◌, if◌then◌else◌, List, [], ◌∷◌, ◌++◌, map, Option, Some, None, refl, sym, ◌∙◌, ap, append_assoc, subst, nat_eq}
use Rattle.std.specs.List.{Contains, flat_map, find, list_any}
use Rattle.std.specs.Fmt.{decimal}
use Rattle.std.proofs.lemmas.Bool.{eqb-true, and_parts}
use Rattle.fs_model.specs.Names.{Path}
use Rattle.control_file.specs.declared.releases.Release.{Release}
use Rattle.control_file.specs.Version.{dir_name_of}
use Rattle.catalog.specs.declared.owners.Tablespace.{Tablespace}
use Rattle.catalog.specs.declared.relations.Table.{Table}
use Rattle.catalog.specs.declared.relations.Index.{Index}
use Rattle.catalog.specs.Cluster.{Cluster, DatabaseObjects, default_tablespace}
use Rattle.catalog.specs.Spaces.{tablespace_has, FilePlace, place_in, table_files, table_places, index_place, sequence_place, file_places}
use Rattle.catalog.specs.Forms.{has_tablespace}
use Rattle.catalog.specs.Valid.{IsValid, table_is_valid, index_is_valid}
use Rattle.relation_files.specs.Places.{Site, segment_path, tablespace_dir, location_in}
use Rattle.relation_files.specs.Relations as files
use Rattle.new_names.specs.declared.names.NewName.{NewName}
use Rattle.new_names.specs.declared.names.NewNode.TheVariants.{File}
use Rattle.catalog_server.specs.declared.relation.Relation.{Relation}
use Rattle.catalog_server.specs.ReplayNames.{base_path, databases_path, relations_of, file_names}
use Rattle.catalog_server.specs.MainFiles.{listed_files, main_file, main_files}
use Rattle.catalog_server.proofs.Members.{In, to_in, find_has, in_either, flat_in, from_map}
use Rattle.catalog_server.proofs.Rooms.{valid_has_default}
use Rattle.catalog_server.proofs.Unused.{place_of, places_are, all_in, valid_in}

append-nil : (xs : List ℕ) → xs ++ [] ≡ xs
append-nil [] = refl
append-nil (x ∷ xs) = ap (λ rest. x ∷ rest) (append-nil xs)

flat_placed : (f : FilePlace → List NewName) (rs : List Relation) → flat_map (λ (r : Relation). f (place_of r)) rs ≡ flat_map f (map place_of rs)
flat_placed f [] = refl
flat_placed f (r ∷ rs) = ap (λ l. f (place_of r) ++ l) (flat_placed f rs)

none_any : (p : Tablespace → Bool) (ts : List Tablespace) → find p ts ≡ None → list_any p ts ≡ false
none_any p [] e = refl
none_any p (t ∷ ts) e = by (p t) (none_any p ts) e
  where
    by : (b : Bool) → (find p ts ≡ None → list_any p ts ≡ false) → cond b (Some t) (find p ts) ≡ None → (b || list_any p ts) ≡ false
    by true rest e = absurd (cc e)
    by false rest e = rest e

-- what is found where there is one
found_in : (p : Tablespace → Bool) (ts : List Tablespace) → list_any p ts ≡ true → (t : Tablespace) × (find p ts ≡ Some t)
found_in p ts any = by (find p ts) refl
  where
    by : (found : Option Tablespace) → find p ts ≡ found → (t : Tablespace) × (find p ts ≡ Some t)
    by None e = absurd (let none : list_any p ts ≡ false = none_any p ts e in cc (none, any))
    by (Some t) e = (t, e)

module _ (root : Path) (release : Release) (ts : List Tablespace) (d : DatabaseObjects) where
  abbrev site : Site
  site = record { root = root; release = release; tablespaces = ts }

  abbrev listed_at : FilePlace → List NewName
  listed_at p = file_names root release d.oid p.number (find (tablespace_has p.tablespace) ts)

  same_dir : (tablespace : ℕ) (t : Tablespace) → find (tablespace_has tablespace) ts ≡ Some t → databases_path root release t ≡ tablespace_dir site tablespace
  same_dir tablespace t e =
      let is : t.oid ≡ tablespace = eqb-true t.oid tablespace (find_has (tablespace_has tablespace) ts t e) in
      (λ i. if nat_eq (is i) default_tablespace then base_path root else location_in (sym e i) ++ dir_name_of release ∷ [])

  one_file : (p : FilePlace) (t : Tablespace) → find (tablespace_has p.tablespace) ts ≡ Some t → listed_at p ≡ main_file site (files.relation_at d p) ∷ []
  unfolding segment_path
  one_file p t e =
      ap (file_names root release d.oid p.number) e
      ∙ (λ i. record { path = same_dir p.tablespace t e i ++ decimal d.oid ∷ sym (append-nil (decimal p.number)) i ∷ []; node = File [] } ∷ [])
      ∙ ap (λ (q : Path). record { path = q; node = File [] } ∷ []) (sym (append_assoc (tablespace_dir site p.tablespace) (decimal d.oid ∷ []) ((decimal p.number ++ []) ∷ [])))

  each_file : (ps : List FilePlace) → ((p : FilePlace) → In ps p → list_any (tablespace_has p.tablespace) ts ≡ true) → flat_map listed_at ps ≡ map (main_file site) (map (files.relation_at d) ps)
  each_file [] stands = refl
  each_file (p ∷ ps) stands =
      let (t, e) = found_in (tablespace_has p.tablespace) ts (stands p (inl refl)) in
      (λ i. one_file p t e i ++ each_file ps (λ q found. stands q (inr found)) i)

-- each relation stands in a tablespace of the catalog
module _ (c : Cluster) (valid : IsValid c) (d : DatabaseObjects) (found : In c.databases d) where
  abbrev Stands : FilePlace → Type 0
  Stands p = list_any (tablespace_has p.tablespace) c.tablespaces ≡ true

  table_stands_in : (t : Table) → In d.tables t → (p : FilePlace) → In (table_places t) p → Stands p
  table_stands_in t t_found p among =
      let h = all_in (table_is_valid c.roles c.tablespaces d) d.tables (valid_in c.roles c.tablespaces c.databases valid.databases d found).tables t t_found in
      let (file, _, is) = from_map (place_in t.tablespace) (table_files t) p among in
      subst Stands (sym is) (and_parts _ _ (and_parts _ _ (and_parts _ _ (and_parts _ _ (and_parts _ _ (and_parts _ _ h).0).0).1).0).0).1

  index_stands_in : (x : Index) → In d.indexes x → has_tablespace c.tablespaces x.tablespace ≡ true
  index_stands_in x x_found =
      let h = all_in (index_is_valid c.tablespaces d.tables) d.indexes (valid_in c.roles c.tablespaces c.databases valid.databases d found).indexes x x_found in
      (and_parts _ _ (and_parts _ _ (and_parts _ _ h).0).1).0

  all_stand : (p : FilePlace) → In (file_places d) p → Stands p
  unfolding file_places
  all_stand p among =
      in_either (flat_map table_places d.tables) (map index_place d.indexes ++ map sequence_place d.sequences) p (Stands p)
      (λ here. let (t, there, inside) = flat_in table_places d.tables p here in table_stands_in t there p inside)
      (λ rest.
      in_either (map index_place d.indexes) (map sequence_place d.sequences) p (Stands p)
      (λ here. let (x, there, is) = from_map index_place d.indexes p here in subst Stands (sym is) (index_stands_in x there))
      (λ here. let (x, there, is) = from_map sequence_place d.sequences p here in subst Stands (sym is) (valid_has_default c valid)) rest) among

pub files_are_main : (root : Path) (release : Release) (c : Cluster) (d : DatabaseObjects) → IsValid c → Contains c.databases d → listed_files root release c.tablespaces d ≡ main_files (record { root = root; release = release; tablespaces = c.tablespaces }) d
unfolding files.relations_in
files_are_main root release c d valid found =
    flat_placed (listed_at root release c.tablespaces d) (relations_of d)
    ∙ ap (flat_map (listed_at root release c.tablespaces d)) (places_are d)
    ∙ each_file root release c.tablespaces d (file_places d) (all_stand c valid d (to_in c.databases d found))
