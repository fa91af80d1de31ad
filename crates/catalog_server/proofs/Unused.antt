-- On a cluster that was never used, with locations that are ready, the names of a replay are free and apart, and the directories
-- that it needs stand.
use Rattle.std.proofs.Common.{◌≡◌, ◌≢◌, ◌⊎◌, inl, inr, ℕ, ◌<◌, ◌≤◌, ◌^◌, Bool, true, false, not, ◌&&◌, ◌||◌, if◌then◌else◌, List, [], ◌∷◌, ◌++◌, map, Option, Some, None, refl, sym, ◌∙◌, ap, arith, append_assoc, subst, nat_eq}
use Rattle.std.specs.Prelude.{codes, is_some, nat_lt}
use Rattle.std.specs.Option.{option_map_or}
use Rattle.std.specs.FinMap.{get}
use Rattle.std.specs.List.{Contains, flat_map, find, list_any, list_all}
use Rattle.std.specs.Fmt.{decimal}
use Rattle.std.proofs.lemmas.Bool.{eqb-true, eq-eqb, and_parts, ltb-true}
use Rattle.std.proofs.lemmas.List.{append_cancel_left, map-append}
use Rattle.fs_model.specs.declared.node.Node.{Node}
use Rattle.fs_model.specs.declared.node.Node.TheVariants as node
use Rattle.fs_model.specs.Names.{Path, IsUnder}
use Rattle.fs_model.specs.State.{FsState}
use Rattle.fs_model.specs.Calls.{blocked, no_dir}
use Rattle.fs_model.specs.WellFormed.{WellFormed}
use Rattle.fs_model.proofs.Ways.{blocked_push, none_second, no_dir_none}
use Rattle.control_file.specs.declared.releases.Release.{Release}
use Rattle.control_file.specs.Version.{dir_name_of, version_text_of}
use Rattle.catalog.specs.declared.owners.Role.{Role}
use Rattle.catalog.specs.declared.owners.Tablespace.{Tablespace}
use Rattle.catalog.specs.declared.relations.Toast.{Toast}
use Rattle.catalog.specs.declared.relations.Table.{Table}
use Rattle.catalog.specs.Cluster.{Cluster, DatabaseObjects, default_tablespace, first_databases, first_tablespace, started}
use Rattle.catalog.specs.Lists.{are_distinct}
use Rattle.catalog.specs.Spaces.{tablespace_has, database_has, FilePlace, same_place, place_in, toast_files, table_places, index_place, sequence_place, file_places}
use Rattle.catalog.specs.Forms.{is_32_bits, is_name, has_role}
use Rattle.catalog.specs.Refusals.{is_system_number}
use Rattle.catalog.specs.Valid.{IsValid, IsValidDatabase, AreValidDatabases, is_user_number, is_user_place, tablespace_is_valid, head_is_valid, head_of, first_heads, DatabaseHead}
use Rattle.new_names.specs.declared.names.NewName.{NewName}
use Rattle.new_names.specs.declared.names.NewNode.TheVariants.{File, Sym}
use Rattle.new_names.specs.Room.{HasRoomFor}
use Rattle.catalog_server.specs.declared.relation.Relation.{Relation}
use Rattle.catalog_server.specs.ReplayNames.{base_path, link_path, databases_path, toast_relations, table_relations, index_relation, sequence_relation, relations_of, relations_in, stands_in, is_new_tablespace, is_new_database, is_new_relation, is_newly_held, tablespace_names, database_names, holding_names, file_names, relation_names, held_names, new_names}
use Rattle.catalog_server.specs.Needed.{HasDir, IsFree, HasNeeded, ArePathsDistinct}
use Rattle.catalog_server.specs.Fresh.{IsUnused, AreLocationsReady}
use Rattle.catalog_server.proofs.Members.{In, to_in, from_in, in_find, find_has, in_either, in_map, flat_in, from_if}
use Rattle.catalog_server.proofs.Rooms.{other_path, own_path, new_is_other, needed_gives_room, dir_at}
use Rattle.catalog_server.proofs.Addresses.{Address, ReleaseDir, LinkTo, DatabaseDir, VersionIn, Holding, MainFile, space, is_own, IsProper, front, rest_of, same_address, AreDistinct, distinct_append, distinct_flat, location_in, region, find_own, beginnings}

-- ---- lists

pub all_in : {X : Type 0} (p : X → Bool) (xs : List X) → list_all p xs ≡ true → (x : X) → In xs x → p x ≡ true
all_in p [] all x found = absurd found
all_in p (y ∷ ys) all x (inl is) = ap p is ∙ (and_parts (p y) (list_all p ys) all).0
all_in p (y ∷ ys) all x (inr found) = all_in p ys (and_parts (p y) (list_all p ys) all).1 x found

module _ {X : Type 0} (p : X → Bool) where
  any_in : (xs : List X) → list_any p xs ≡ true → (x : X) × In xs x × (p x ≡ true)
  any_in [] e = absurd (cc e)
  any_in (y ∷ ys) e = by (p y) refl (any_in ys) e
    where
      by : (b : Bool) → p y ≡ b → (list_any p ys ≡ true → (x : X) × In ys x × (p x ≡ true)) → (b || list_any p ys) ≡ true → (x : X) × In (y ∷ ys) x × (p x ≡ true)
      by true is rest e = (y, inl refl, is)
      by false is rest e = let (x, found, has) = rest e in (x, inr found, has)

not_false : (b : Bool) → not b ≡ false → b ≡ true
not_false true e = refl
not_false false e = absurd (cc e)

not_true : (b : Bool) → not b ≡ true → b ≡ false
not_true true e = absurd (cc e)
not_true false e = refl

-- ---- the numbers of a valid catalog

user_small : (n : ℕ) → is_user_number n ≡ true → n < 2 ^ 32
user_small n e = ltb-true n (2 ^ 32) (and_parts (not (is_system_number n)) (is_32_bits n) e).1

user_large : (n : ℕ) → is_user_number n ≡ true → 16384 ≤ n
user_large n e = by (nat_lt n 16384) refl (and_parts (not (is_system_number n)) (is_32_bits n) e).0
  where
    by : (b : Bool) → nat_lt n 16384 ≡ b → not b ≡ true → 16384 ≤ n
    by true is h = absurd (cc h)
    by false is h = grind (arith, is)

abbrev pub place_of : Relation → FilePlace
place_of r = place_in r.tablespace r.file

map_twice : {A B C : Type 0} (f : A → B) (g : B → C) (h : A → C) → ((x : A) → g (f x) ≡ h x) → (xs : List A) → map g (map f xs) ≡ map h xs
map_twice f g h each [] = refl
map_twice f g h each (x ∷ xs) = (λ i. each x i ∷ map_twice f g h each xs i)

toast_places : (tablespace : ℕ) (toast : Option Toast) → map place_of (toast_relations tablespace toast) ≡ map (place_in tablespace) (toast_files toast)
toast_places tablespace None = refl
toast_places tablespace (Some toast) = refl

tables_places : (tables : List Table) → map place_of (flat_map table_relations tables) ≡ flat_map table_places tables
tables_places [] = refl
tables_places (t ∷ ts) =
    map-append place_of (table_relations t) (flat_map table_relations ts)
    ∙ (λ i. (place_in t.tablespace t.file ∷ toast_places t.tablespace t.toast i) ++ tables_places ts i)

-- the places of a database's relations are those of its files
pub places_are : (d : DatabaseObjects) → map place_of (relations_of d) ≡ file_places d
unfolding relations_of file_places
places_are d =
    map-append place_of (flat_map table_relations d.tables) (map index_relation d.indexes ++ map sequence_relation d.sequences)
    ∙ ap (λ l. map place_of (flat_map table_relations d.tables) ++ l) (map-append place_of (map index_relation d.indexes) (map sequence_relation d.sequences))
    ∙ (λ i. tables_places d.tables i ++ (map_twice index_relation place_of index_place (λ x. refl) d.indexes i ++ map_twice sequence_relation place_of sequence_place (λ x. refl) d.sequences i))

same_place_itself : (p : FilePlace) → same_place p p ≡ true
same_place_itself p = (λ i. eq-eqb p.tablespace p.tablespace refl i && eq-eqb p.number p.number refl i)

not_own : (n : ℕ) → is_own n ≡ false → n ≢ default_tablespace
not_own n other is = absurd (let h = eq-eqb n default_tablespace is in cc (h, other))

two : (p : Path) (x y : List ℕ) → (p ++ x ∷ []) ++ y ∷ [] ≡ p ++ x ∷ y ∷ []
two p x y = append_assoc p (x ∷ []) (y ∷ [])

three : (p : Path) (x y z : List ℕ) → ((p ++ x ∷ []) ++ y ∷ []) ++ z ∷ [] ≡ p ++ x ∷ y ∷ z ∷ []
three p x y z = ap (λ q. q ++ z ∷ []) (two p x y) ∙ append_assoc p (x ∷ y ∷ []) (z ∷ [])

apart_paths : (p q x y : Path) → (IsUnder p q → ⊥) → (IsUnder q p → ⊥) → p ++ x ≡ q ++ y → ⊥
apart_paths p q x y no_first no_second e = by (beginnings p q x y e)
  where
    by : IsUnder p q ⊎ IsUnder q p → ⊥
    by (inl under) = no_first under
    by (inr under) = no_second under

pub valid_in : (roles : List Role) (ts : List Tablespace) (ds : List DatabaseObjects) → AreValidDatabases roles ts ds → (d : DatabaseObjects) → In ds d → IsValidDatabase roles ts d
valid_in roles ts [] all d found = absurd found
valid_in roles ts (e ∷ ds) all d (inl is) = subst (IsValidDatabase roles ts) (sym is) all.0
valid_in roles ts (e ∷ ds) all d (inr found) = valid_in roles ts ds all.1 d found

-- what an address is in marks
abbrev tablespace_mark : Address → ℕ
tablespace_mark (ReleaseDir t) = t
tablespace_mark (LinkTo t) = t
tablespace_mark (DatabaseDir d) = 0
tablespace_mark (VersionIn d) = 0
tablespace_mark (Holding t d) = t
tablespace_mark (MainFile t d f) = t

abbrev database_mark : Address → ℕ
database_mark (ReleaseDir t) = 0
database_mark (LinkTo t) = 0
database_mark (DatabaseDir d) = d
database_mark (VersionIn d) = d
database_mark (Holding t d) = d
database_mark (MainFile t d f) = d

abbrev file_mark : Address → FilePlace
file_mark (ReleaseDir t) = place_in 0 0
file_mark (LinkTo t) = place_in 0 0
file_mark (DatabaseDir d) = place_in 0 0
file_mark (VersionIn d) = place_in 0 0
file_mark (Holding t d) = place_in 0 0
file_mark (MainFile t d f) = place_in t f

-- in which part of the list it is
abbrev part : Address → ℕ
part (ReleaseDir t) = 0
part (LinkTo t) = 0
part (DatabaseDir d) = 1
part (VersionIn d) = 1
part (Holding t d) = 2
part (MainFile t d f) = 3

module _ (root : Path) (release : Release) (c : Cluster) (s : FsState) (formed : WellFormed s) (valid : IsValid c) (unused : IsUnused root s) (ready : AreLocationsReady root release c s) where
  abbrev before : Cluster
  before = started c.bootstrap

  abbrev ts : List Tablespace
  ts = c.tablespaces

  abbrev at : Address → Path
  at a = region root ts (space a) ++ rest_of release a

  -- ---- the directories of tablespaces are apart

  region_other : (t : Tablespace) → In ts t → is_own t.oid ≡ false → region root ts t.oid ≡ t.location
  region_other t found other = (λ i. if other i then root else location_in (find_own ts valid.tablespace_oids_differ t found i))

  abbrev IsSpace : ℕ → Type 0
  IsSpace k = (t : Tablespace) × In ts t × (t.oid ≡ k)

  region_of_space : (k : ℕ) (t : Tablespace) → In ts t → t.oid ≡ k → is_own k ≡ false → (region root ts k ≡ t.location) × (t.oid ≢ default_tablespace)
  region_of_space k t found is other =
      let own : is_own t.oid ≡ false = ap is_own is ∙ other in
      (ap (region root ts) (sym is) ∙ region_other t found own, not_own t.oid own)

  regions_apart : (j k : ℕ) → IsSpace j → IsSpace k → nat_eq j k ≡ false → (x y : Path) → region root ts j ++ x ≡ region root ts k ++ y → ⊥
  regions_apart j k (t, t_found, t_is) (u, u_found, u_is) differ x y e = by (is_own j) (is_own k) refl refl
    where
      t_in : Contains ts t
      t_in = from_in ts t t_found

      u_in : Contains ts u
      u_in = from_in ts u u_found

      other_oids : t.oid ≢ u.oid
      other_oids same = absurd (let h : nat_eq j k ≡ true = eq-eqb j k (sym t_is ∙ same ∙ u_is) in cc (h, differ))

      own_region : (n : ℕ) → is_own n ≡ true → region root ts n ≡ root
      own_region n own = ap (λ b. if b then root else location_in (find (tablespace_has n) ts)) own

      by : (a b : Bool) → is_own j ≡ a → is_own k ≡ b → ⊥
      by true true own own_too = absurd (let h : nat_eq j k ≡ true = eq-eqb j k (eqb-true j default_tablespace own ∙ sym (eqb-true k default_tablespace own_too)) in cc (h, differ))
      by true false own other =
          let (is, not_default) = region_of_space k u u_found u_is other in
          apart_paths root u.location x y (ready.not_below u u_in not_default) (ready.not_above u u_in not_default) (ap (λ p. p ++ x) (sym (own_region j own)) ∙ e ∙ ap (λ p. p ++ y) is)
      by false true other own =
          let (is, not_default) = region_of_space j t t_found t_is other in
          apart_paths t.location root x y (ready.not_above t t_in not_default) (ready.not_below t t_in not_default) (ap (λ p. p ++ x) (sym is) ∙ e ∙ ap (λ p. p ++ y) (own_region k own))
      by false false other other_too =
          let (is, not_default) = region_of_space j t t_found t_is other in
          let (is_too, not_default_too) = region_of_space k u u_found u_is other_too in
          apart_paths t.location u.location x y (ready.apart t u t_in u_in not_default not_default_too other_oids) (ready.apart u t u_in t_in not_default_too not_default (λ same. other_oids (sym same))) (ap (λ p. p ++ x) (sym is) ∙ e ∙ ap (λ p. p ++ y) is_too)

  record IsGood (a : Address) : Type 0 where
    pub proper : IsProper a
    pub placed : IsSpace (space a)
    pub free : IsFree s (at a)

  at_exact : (a b : Address) → IsGood a → IsGood b → at a ≡ at b → a ≡ b
  at_exact a b good good_too e = by (nat_eq (space a) (space b)) refl
    where
      by : (same : Bool) → nat_eq (space a) (space b) ≡ same → a ≡ b
      by true is =
          let k : space a ≡ space b = eqb-true (space a) (space b) is in
          same_address release a b good.proper good_too.proper k (append_cancel_left (region root ts (space a)) (rest_of release a) (rest_of release b) (e ∙ ap (λ n. region root ts n ++ rest_of release b) (sym k)))
      by false is = absurd (regions_apart (space a) (space b) good.placed good_too.placed is (rest_of release a) (rest_of release b) e)

  -- ---- names along addresses

  abbrev Along : List NewName → List Address → Type 0
  Along [] [] = Unit {0}
  Along [] (a ∷ places) = ⊥
  Along (n ∷ ns) [] = ⊥
  Along (n ∷ ns) (a ∷ places) = (n.path ≡ at a) × Along ns places

  along_append : (ns ms : List NewName) (places bs : List Address) → Along ns places → Along ms bs → Along (ns ++ ms) (places ++ bs)
  along_append [] ms [] bs first second = second
  along_append [] ms (a ∷ places) bs first second = absurd first
  along_append (n ∷ ns) ms [] bs first second = absurd first
  along_append (n ∷ ns) ms (a ∷ places) bs first second = (first.0, along_append ns ms places bs first.1 second)

  along_flat : {X : Type 0} (f : X → List NewName) (g : X → List Address) (xs : List X) → ((x : X) → In xs x → Along (f x) (g x)) → Along (flat_map f xs) (flat_map g xs)
  along_flat f g [] each = tt
  along_flat f g (x ∷ xs) each = along_append (f x) (flat_map f xs) (g x) (flat_map g xs) (each x (inl refl)) (along_flat f g xs (λ y found. each y (inr found)))

  along_in : (ns : List NewName) (places : List Address) → Along ns places → (n : NewName) → In ns n → (a : Address) × In places a × (n.path ≡ at a)
  along_in [] places along n found = absurd found
  along_in (m ∷ ns) [] along n found = absurd along
  along_in (m ∷ ns) (a ∷ places) along n (inl is) = (a, inl refl, ap (λ (x : NewName). x.path) is ∙ along.0)
  along_in (m ∷ ns) (a ∷ places) along n (inr found) = let (b, among, is) = along_in ns places along.1 n found in (b, inr among, is)

  paths_distinct : (ns : List NewName) (places : List Address) → Along ns places → ((a : Address) → In places a → IsGood a) → AreDistinct places → ArePathsDistinct ns
  paths_distinct [] places along good distinct = tt
  paths_distinct (n ∷ ns) [] along good distinct = absurd along
  paths_distinct (n ∷ ns) (a ∷ places) along good distinct = (other, paths_distinct ns places along.1 (λ b found. good b (inr found)) distinct.1)
    where
      other : (m : NewName) → Contains ns m → m.path ≢ n.path
      other m among same =
          let (b, found, is) = along_in ns places along.1 m (to_in ns m among) in
          distinct.0 b found (at_exact b a (good b (inr found)) (good a (inl refl)) (sym is ∙ same ∙ along.0))

  all_free : (ns : List NewName) (places : List Address) → Along ns places → ((a : Address) → In places a → IsGood a) → (n : NewName) → Contains ns n → IsFree s n.path
  all_free ns places along good n among = let (a, found, is) = along_in ns places along n (to_in ns n among) in subst (IsFree s) (sym is) (good a found).free

  -- ---- numbers

  own_space : IsSpace default_tablespace
  own_space = (first_tablespace, subst (λ l. In l first_tablespace) (sym valid.tablespaces_are) (inl refl), refl)

  tablespace_small : (t : Tablespace) → In ts t → t.oid < 2 ^ 32
  tablespace_small t found = by (subst (λ l. In l t) valid.tablespaces_are found)
    where
      by : In (first_tablespace ∷ valid.more_tablespaces) t → t.oid < 2 ^ 32
      by (inl is) = let n : t.oid ≡ default_tablespace = ap (λ (x : Tablespace). x.oid) is in omega (arith, n)
      by (inr more) =
          let h = all_in (tablespace_is_valid c.roles) valid.more_tablespaces valid.tablespaces t more in
          user_small t.oid (and_parts _ _ (and_parts _ _ (and_parts _ _ h).0).0).1

  database_small : (d : DatabaseObjects) → In c.databases d → d.oid < 2 ^ 32
  database_small d found = in_either first_heads valid.more_heads (head_of d) (d.oid < 2 ^ 32) first more (subst (λ l. In l (head_of d)) valid.databases_are (in_map head_of c.databases d found))
    where
      first : In first_heads (head_of d) → d.oid < 2 ^ 32
      first (inl is) = let n : d.oid ≡ 1 = ap (λ (x : DatabaseHead). x.oid) is in omega (arith, n)
      first (inr (inl is)) = let n : d.oid ≡ 4 = ap (λ (x : DatabaseHead). x.oid) is in omega (arith, n)
      first (inr (inr (inl is))) = let n : d.oid ≡ 5 = ap (λ (x : DatabaseHead). x.oid) is in omega (arith, n)
      first (inr (inr (inr none))) = absurd none

      more : In valid.more_heads (head_of d) → d.oid < 2 ^ 32
      more among = let h = all_in (head_is_valid c.roles) valid.more_heads valid.heads (head_of d) among in user_small d.oid (and_parts (is_name d.name) (is_user_number d.oid) (and_parts (is_name d.name && is_user_number d.oid) (has_role c.roles d.owner) h).0).1

  file_number : (d : DatabaseObjects) → In c.databases d → (r : Relation) → In (relations_of d) r → is_user_number r.file ≡ true
  file_number d d_found r found =
      let database = valid_in c.roles c.tablespaces c.databases valid.databases d d_found in
      all_in is_user_place (file_places d) database.file_numbers (place_of r) (subst (λ l. In l (place_of r)) (places_are d) (in_map place_of (relations_of d) r found))

  -- ---- what is free

  below_free : (dir : Path) (name : List ℕ) → IsFree s dir → IsFree s (dir ++ name ∷ [])
  below_free dir name absent = by (get s.names (dir ++ name ∷ [])) refl
    where
      by : (found : Option Node) → get s.names (dir ++ name ∷ []) ≡ found → IsFree s (dir ++ name ∷ [])
      by None e = e
      by (Some n) e =
          let way : blocked s.names (dir ++ name ∷ []) ≡ None = formed.tree (dir ++ name ∷ []) (ap is_some e) in
          let there : get s.names dir ≡ Some node.Dir = no_dir_none (get s.names dir) (none_second (blocked s.names dir) (no_dir (get s.names dir)) (sym (blocked_push s.names dir name) ∙ way)) in
          absurd (cc (there, absent))

  database_free : (d : DatabaseObjects) → In c.databases d → is_new_database before d ≡ true → IsFree s (base_path root ++ decimal d.oid ∷ [])
  database_free d found new = unused.no_databases d.oid (database_small d found) (not_true (list_any (database_has d.oid) first_databases) new)

  release_free : (t : Tablespace) → In ts t → is_own t.oid ≡ false → IsFree s (t.location ++ dir_name_of release ∷ [])
  release_free t found other = ready.releases t (from_in ts t found) (not_own t.oid other)

  -- ---- tablespaces

  tablespace_addresses : Tablespace → List Address
  tablespace_addresses t = if is_new_tablespace before t then ReleaseDir t.oid ∷ LinkTo t.oid ∷ [] else []

  new_other : (t : Tablespace) → is_new_tablespace before t ≡ true → is_own t.oid ≡ false
  new_other t new = new_is_other before refl t new

  along_tablespace : (t : Tablespace) → In ts t → Along (tablespace_names root release before t) (tablespace_addresses t)
  unfolding tablespace_addresses
  along_tablespace t found = by (is_new_tablespace before t) refl
    where
      by : (b : Bool) → is_new_tablespace before t ≡ b → Along (if b then dir_at (databases_path root release t) ∷ record { path = link_path root t.oid; node = Sym t.location } ∷ [] else []) (if b then ReleaseDir t.oid ∷ LinkTo t.oid ∷ [] else [])
      by false e = tt
      by true e =
          let other = new_other t e in
          (other_path root release t other ∙ ap (λ p. p ++ dir_name_of release ∷ []) (sym (region_other t found other)), (two root (codes "pg_tblspc") (decimal t.oid), tt))

  good_tablespace : (t : Tablespace) → In ts t → (a : Address) → In (tablespace_addresses t) a → IsGood a
  unfolding tablespace_addresses
  good_tablespace t found a among = let (new, here) = from_if (is_new_tablespace before t) (ReleaseDir t.oid ∷ LinkTo t.oid ∷ []) a among in by (new_other t new) here
    where
      by : is_own t.oid ≡ false → In (ReleaseDir t.oid ∷ LinkTo t.oid ∷ []) a → IsGood a
      by other (inl is) =
          subst IsGood (sym is) (record {
            proper = other;
            placed = (t, found, refl);
            free = subst (IsFree s) (ap (λ p. p ++ dir_name_of release ∷ []) (sym (region_other t found other))) (release_free t found other);
          })
      by other (inr (inl is)) =
          subst IsGood (sym is) (record {
            proper = tablespace_small t found;
            placed = own_space;
            free = subst (IsFree s) (two root (codes "pg_tblspc") (decimal t.oid)) (unused.no_links t.oid (tablespace_small t found));
          })
      by other (inr (inr none)) = absurd none

  -- ---- databases

  database_addresses : DatabaseObjects → List Address
  database_addresses d = if is_new_database before d then DatabaseDir d.oid ∷ VersionIn d.oid ∷ [] else []

  along_database : (d : DatabaseObjects) → Along (database_names root release before d) (database_addresses d)
  unfolding database_addresses
  along_database d = by (is_new_database before d)
    where
      by : (b : Bool) → Along (if b then dir_at (base_path root ++ decimal d.oid ∷ []) ∷ record { path = base_path root ++ decimal d.oid ∷ codes "PG_VERSION" ∷ []; node = File (version_text_of release) } ∷ [] else []) (if b then DatabaseDir d.oid ∷ VersionIn d.oid ∷ [] else [])
      by false = tt
      by true = (two root (codes "base") (decimal d.oid), (append_assoc root (codes "base" ∷ []) (decimal d.oid ∷ codes "PG_VERSION" ∷ []), tt))

  good_database : (d : DatabaseObjects) → In c.databases d → (a : Address) → In (database_addresses d) a → IsGood a
  unfolding database_addresses
  good_database d found a among = let (new, here) = from_if (is_new_database before d) (DatabaseDir d.oid ∷ VersionIn d.oid ∷ []) a among in by (database_free d found new) here
    where
      by : IsFree s (base_path root ++ decimal d.oid ∷ []) → In (DatabaseDir d.oid ∷ VersionIn d.oid ∷ []) a → IsGood a
      by free (inl is) =
          subst IsGood (sym is) (record { proper = database_small d found; placed = own_space; free = subst (IsFree s) (two root (codes "base") (decimal d.oid)) free })
      by free (inr (inl is)) =
          subst IsGood (sym is) (record {
            proper = database_small d found;
            placed = own_space;
            free = subst (IsFree s) (three root (codes "base") (decimal d.oid) (codes "PG_VERSION")) (below_free (base_path root ++ decimal d.oid ∷ []) (codes "PG_VERSION") free);
          })
      by free (inr (inr none)) = absurd none

  -- ---- what databases have

  abbrev was : DatabaseObjects → List Relation
  was d = relations_in before d.oid

  holding_addresses : DatabaseObjects → Tablespace → List Address
  holding_addresses d t = if is_newly_held (was d) (relations_of d) t then Holding t.oid d.oid ∷ [] else []

  held_other : (d : DatabaseObjects) (t : Tablespace) → is_newly_held (was d) (relations_of d) t ≡ true → is_own t.oid ≡ false
  held_other d t e = not_true (is_own t.oid) (and_parts (not (is_own t.oid)) (list_any (stands_in t.oid) (relations_of d) && not (list_any (stands_in t.oid) (was d))) e).0

  along_holding : (d : DatabaseObjects) (t : Tablespace) → In ts t → Along (holding_names root release d.oid (was d) (relations_of d) t) (holding_addresses d t)
  unfolding holding_addresses
  along_holding d t found = by (is_newly_held (was d) (relations_of d) t) refl
    where
      by : (b : Bool) → is_newly_held (was d) (relations_of d) t ≡ b → Along (if b then dir_at (databases_path root release t ++ decimal d.oid ∷ []) ∷ [] else []) (if b then Holding t.oid d.oid ∷ [] else [])
      by false e = tt
      by true e =
          let other = held_other d t e in (
            ap (λ p. p ++ decimal d.oid ∷ []) (other_path root release t other) ∙ two t.location (dir_name_of release) (decimal d.oid) ∙ ap (λ p. p ++ dir_name_of release ∷ decimal d.oid ∷ []) (sym (region_other t found other)),
            tt,
          )

  good_holding : (d : DatabaseObjects) → In c.databases d → (t : Tablespace) → In ts t → (a : Address) → In (holding_addresses d t) a → IsGood a
  unfolding holding_addresses
  good_holding d d_found t found a among = let (held, here) = from_if (is_newly_held (was d) (relations_of d) t) (Holding t.oid d.oid ∷ []) a among in by (held_other d t held) here
    where
      by : is_own t.oid ≡ false → In (Holding t.oid d.oid ∷ []) a → IsGood a
      by other (inl is) =
          subst IsGood (sym is) (record {
            proper = (other, database_small d d_found);
            placed = (t, found, refl);
            free =
                subst (IsFree s) (two t.location (dir_name_of release) (decimal d.oid) ∙ ap (λ p. p ++ dir_name_of release ∷ decimal d.oid ∷ []) (sym (region_other t found other)))
                (below_free (t.location ++ dir_name_of release ∷ []) (decimal d.oid) (release_free t found other));
          })
      by other (inr none) = absurd none

  file_addresses : ℕ → ℕ → Option Tablespace → List Address
  file_addresses database file None = []
  file_addresses database file (Some t) = MainFile t.oid database file ∷ []

  relation_addresses : DatabaseObjects → Relation → List Address
  relation_addresses d r = if is_new_relation (was d) r then file_addresses d.oid r.file (find (tablespace_has r.tablespace) ts) else []

  whole_path : (t : Tablespace) → In ts t → databases_path root release t ≡ region root ts t.oid ++ front release t.oid ∷ []
  whole_path t found = by (is_own t.oid) refl
    where
      by : (b : Bool) → is_own t.oid ≡ b → databases_path root release t ≡ region root ts t.oid ++ front release t.oid ∷ []
      by true e = own_path root release t e ∙ (λ i. (if sym e i then root else location_in (find (tablespace_has t.oid) ts)) ++ (if sym e i then codes "base" else dir_name_of release) ∷ [])
      by false e =
          other_path root release t e ∙ ap (λ p. p ++ dir_name_of release ∷ []) (sym (region_other t found e))
          ∙ ap (λ b. region root ts t.oid ++ (if b then codes "base" else dir_name_of release) ∷ []) (sym e)

  along_relation : (d : DatabaseObjects) (r : Relation) → Along (relation_names root release ts d.oid (was d) r) (relation_addresses d r)
  unfolding relation_addresses file_addresses
  along_relation d r = by (is_new_relation (was d) r)
    where
      file : (found : Option Tablespace) → find (tablespace_has r.tablespace) ts ≡ found → Along (file_names root release d.oid r.file found) (file_addresses d.oid r.file found)
      file None e = tt
      file (Some t) e = (
        ap (λ p. p ++ decimal d.oid ∷ decimal r.file ∷ []) (whole_path t (in_find (tablespace_has r.tablespace) ts t e)) ∙ append_assoc (region root ts t.oid) (front release t.oid ∷ []) (decimal d.oid ∷ decimal r.file ∷ []),
        tt,
      )

      by : (b : Bool) → Along (if b then file_names root release d.oid r.file (find (tablespace_has r.tablespace) ts) else []) (if b then file_addresses d.oid r.file (find (tablespace_has r.tablespace) ts) else [])
      by false = tt
      by true = file (find (tablespace_has r.tablespace) ts) refl

  -- what a relation's address is
  file_of : (d : DatabaseObjects) (r : Relation) (a : Address) → In (relation_addresses d r) a → (t : Tablespace) × In ts t × (t.oid ≡ r.tablespace) × (a ≡ MainFile t.oid d.oid r.file)
  unfolding relation_addresses file_addresses
  file_of d r a among = at_file (find (tablespace_has r.tablespace) ts) refl (from_if (is_new_relation (was d) r) (file_addresses d.oid r.file (find (tablespace_has r.tablespace) ts)) a among).1
    where
      at_file : (found : Option Tablespace) → find (tablespace_has r.tablespace) ts ≡ found → In (file_addresses d.oid r.file found) a → (t : Tablespace) × In ts t × (t.oid ≡ r.tablespace) × (a ≡ MainFile t.oid d.oid r.file)
      at_file None e none = absurd none
      at_file (Some t) e (inl is) = (t, in_find (tablespace_has r.tablespace) ts t e, eqb-true t.oid r.tablespace (find_has (tablespace_has r.tablespace) ts t e), is)
      at_file (Some t) e (inr none) = absurd none

  file_free : (d : DatabaseObjects) → In c.databases d → (r : Relation) → In (relations_of d) r → (t : Tablespace) → In ts t → IsFree s (databases_path root release t ++ decimal d.oid ∷ decimal r.file ∷ [])
  file_free d d_found r r_found t found = by (is_own t.oid) refl
    where
      number : is_user_number r.file ≡ true
      number = file_number d d_found r r_found

      own : (b : Bool) → is_new_database before d ≡ b → IsFree s (base_path root ++ decimal d.oid ∷ decimal r.file ∷ [])
      own true new = subst (IsFree s) (two (base_path root) (decimal d.oid) (decimal r.file)) (below_free (base_path root ++ decimal d.oid ∷ []) (decimal r.file) (database_free d d_found new))
      own false old =
          let (first, among, has) = any_in (database_has d.oid) first_databases (not_false (list_any (database_has d.oid) first_databases) old) in
          subst (λ n. IsFree s (base_path root ++ decimal n ∷ decimal r.file ∷ [])) (eqb-true first.oid d.oid has) (unused.no_files first (from_in first_databases first among) r.file (user_large r.file number) (user_small r.file number))

      by : (b : Bool) → is_own t.oid ≡ b → IsFree s (databases_path root release t ++ decimal d.oid ∷ decimal r.file ∷ [])
      by true e = subst (λ p. IsFree s (p ++ decimal d.oid ∷ decimal r.file ∷ [])) (sym (own_path root release t e)) (own (is_new_database before d) refl)
      by false e =
          subst (λ p. IsFree s (p ++ decimal d.oid ∷ decimal r.file ∷ [])) (sym (other_path root release t e))
          (subst (IsFree s) (two (t.location ++ dir_name_of release ∷ []) (decimal d.oid) (decimal r.file))
          (below_free ((t.location ++ dir_name_of release ∷ []) ++ decimal d.oid ∷ []) (decimal r.file) (below_free (t.location ++ dir_name_of release ∷ []) (decimal d.oid) (release_free t found e))))

  good_relation : (d : DatabaseObjects) → In c.databases d → (r : Relation) → In (relations_of d) r → (a : Address) → In (relation_addresses d r) a → IsGood a
  good_relation d d_found r r_found a among =
      let (t, found, is_there, is) = file_of d r a among in
      subst IsGood (sym is) (record {
        proper = (database_small d d_found, user_small r.file (file_number d d_found r r_found));
        placed = (t, found, refl);
        free =
            subst (IsFree s) (ap (λ p. p ++ decimal d.oid ∷ decimal r.file ∷ []) (whole_path t found) ∙ append_assoc (region root ts t.oid) (front release t.oid ∷ []) (decimal d.oid ∷ decimal r.file ∷ []))
            (file_free d d_found r r_found t found);
      })

  held_addresses : DatabaseObjects → List Address
  held_addresses d = flat_map (holding_addresses d) ts ++ flat_map (relation_addresses d) (relations_of d)

  -- ---- all of them

  addresses : List Address
  addresses = flat_map tablespace_addresses ts ++ (flat_map database_addresses c.databases ++ flat_map held_addresses c.databases)

  along_all : Along (new_names root release before c) addresses
  unfolding new_names addresses held_addresses
  along_all =
      along_append (flat_map (tablespace_names root release before) ts) (flat_map (database_names root release before) c.databases ++ flat_map (held_names root release before c) c.databases) (flat_map tablespace_addresses ts) (flat_map database_addresses c.databases ++ flat_map held_addresses c.databases)
      (along_flat (tablespace_names root release before) tablespace_addresses ts along_tablespace)
      (along_append (flat_map (database_names root release before) c.databases) (flat_map (held_names root release before c) c.databases) (flat_map database_addresses c.databases) (flat_map held_addresses c.databases)
      (along_flat (database_names root release before) database_addresses c.databases (λ d _. along_database d))
      (along_flat (held_names root release before c) held_addresses c.databases (λ d _. held d)))
    where
      held : (d : DatabaseObjects) → Along (held_names root release before c d) (held_addresses d)
      held d =
          along_append (flat_map (holding_names root release d.oid (was d) (relations_of d)) ts) (flat_map (relation_names root release ts d.oid (was d)) (relations_of d)) (flat_map (holding_addresses d) ts) (flat_map (relation_addresses d) (relations_of d))
          (along_flat (holding_names root release d.oid (was d) (relations_of d)) (holding_addresses d) ts (along_holding d))
          (along_flat (relation_names root release ts d.oid (was d)) (relation_addresses d) (relations_of d) (λ r _. along_relation d r))

  good_held : (d : DatabaseObjects) → In c.databases d → (a : Address) → In (held_addresses d) a → IsGood a
  unfolding held_addresses
  good_held d found a among =
      in_either (flat_map (holding_addresses d) ts) (flat_map (relation_addresses d) (relations_of d)) a (IsGood a)
      (λ here. let (t, there, inside) = flat_in (holding_addresses d) ts a here in good_holding d found t there a inside)
      (λ here. let (r, there, inside) = flat_in (relation_addresses d) (relations_of d) a here in good_relation d found r there a inside) among

  good_all : (a : Address) → In addresses a → IsGood a
  unfolding addresses
  good_all a among =
      in_either (flat_map tablespace_addresses ts) (flat_map database_addresses c.databases ++ flat_map held_addresses c.databases) a (IsGood a)
      (λ here. let (t, there, inside) = flat_in tablespace_addresses ts a here in good_tablespace t there a inside)
      (λ rest.
      in_either (flat_map database_addresses c.databases) (flat_map held_addresses c.databases) a (IsGood a)
      (λ here. let (d, there, inside) = flat_in database_addresses c.databases a here in good_database d there a inside)
      (λ here. let (d, there, inside) = flat_in held_addresses c.databases a here in good_held d there a inside) rest) among

  -- ---- they are distinct

  tablespace_marked : (t : Tablespace) (a : Address) → In (tablespace_addresses t) a → (tablespace_mark a ≡ t.oid) × (part a ≡ 0)
  unfolding tablespace_addresses
  tablespace_marked t a among = by (from_if (is_new_tablespace before t) (ReleaseDir t.oid ∷ LinkTo t.oid ∷ []) a among).1
    where
      by : In (ReleaseDir t.oid ∷ LinkTo t.oid ∷ []) a → (tablespace_mark a ≡ t.oid) × (part a ≡ 0)
      by (inl is) = (ap tablespace_mark is, ap part is)
      by (inr (inl is)) = (ap tablespace_mark is, ap part is)
      by (inr (inr none)) = absurd none

  database_marked : (d : DatabaseObjects) (a : Address) → In (database_addresses d) a → (database_mark a ≡ d.oid) × (part a ≡ 1)
  unfolding database_addresses
  database_marked d a among = by (from_if (is_new_database before d) (DatabaseDir d.oid ∷ VersionIn d.oid ∷ []) a among).1
    where
      by : In (DatabaseDir d.oid ∷ VersionIn d.oid ∷ []) a → (database_mark a ≡ d.oid) × (part a ≡ 1)
      by (inl is) = (ap database_mark is, ap part is)
      by (inr (inl is)) = (ap database_mark is, ap part is)
      by (inr (inr none)) = absurd none

  holding_marked : (d : DatabaseObjects) (t : Tablespace) (a : Address) → In (holding_addresses d t) a → (tablespace_mark a ≡ t.oid) × (database_mark a ≡ d.oid) × (part a ≡ 2)
  unfolding holding_addresses
  holding_marked d t a among = by (from_if (is_newly_held (was d) (relations_of d) t) (Holding t.oid d.oid ∷ []) a among).1
    where
      by : In (Holding t.oid d.oid ∷ []) a → (tablespace_mark a ≡ t.oid) × (database_mark a ≡ d.oid) × (part a ≡ 2)
      by (inl is) = (ap tablespace_mark is, ap database_mark is, ap part is)
      by (inr none) = absurd none

  relation_marked : (d : DatabaseObjects) (r : Relation) (a : Address) → In (relation_addresses d r) a → (file_mark a ≡ place_of r) × (database_mark a ≡ d.oid) × (part a ≡ 3)
  relation_marked d r a among =
      let (t, found, is_there, is) = file_of d r a among in
      (ap file_mark is ∙ ap (λ n. place_in n r.file) is_there, ap database_mark is, ap part is)

  held_marked : (d : DatabaseObjects) (a : Address) → In (held_addresses d) a → (database_mark a ≡ d.oid) × ((part a ≡ 2) ⊎ (part a ≡ 3))
  unfolding held_addresses
  held_marked d a among =
      in_either (flat_map (holding_addresses d) ts) (flat_map (relation_addresses d) (relations_of d)) a ((database_mark a ≡ d.oid) × ((part a ≡ 2) ⊎ (part a ≡ 3)))
      (λ here. let (t, there, inside) = flat_in (holding_addresses d) ts a here in let m = holding_marked d t a inside in (m.1, inl m.2))
      (λ here. let (r, there, inside) = flat_in (relation_addresses d) (relations_of d) a here in let m = relation_marked d r a inside in (m.1, inr m.2)) among

  parts_differ : (a b : Address) (n m : ℕ) → part a ≡ n → part b ≡ m → n ≢ m → b ≢ a
  parts_differ a b n m is is_too differ same = differ (sym is ∙ ap part (sym same) ∙ is_too)

  one_or_two : (t : Tablespace) → AreDistinct (tablespace_addresses t)
  unfolding tablespace_addresses
  one_or_two t = by (is_new_tablespace before t)
    where
      other : (b : Address) → In (LinkTo t.oid ∷ []) b → b ≢ ReleaseDir t.oid
      other b (inl is) same = absurd (let e : ◌≡◌ {A = Address} (LinkTo t.oid) (ReleaseDir t.oid) = sym is ∙ same in cc e)
      other b (inr none) same = absurd none

      by : (b : Bool) → AreDistinct (if b then ReleaseDir t.oid ∷ LinkTo t.oid ∷ [] else [])
      by false = tt
      by true = (other, ((λ b none same. absurd none), tt))

  both_distinct : (d : DatabaseObjects) → AreDistinct (database_addresses d)
  unfolding database_addresses
  both_distinct d = by (is_new_database before d)
    where
      other : (b : Address) → In (VersionIn d.oid ∷ []) b → b ≢ DatabaseDir d.oid
      other b (inl is) same = absurd (let e : ◌≡◌ {A = Address} (VersionIn d.oid) (DatabaseDir d.oid) = sym is ∙ same in cc e)
      other b (inr none) same = absurd none

      by : (b : Bool) → AreDistinct (if b then DatabaseDir d.oid ∷ VersionIn d.oid ∷ [] else [])
      by false = tt
      by true = (other, ((λ b none same. absurd none), tt))

  one_holding : (d : DatabaseObjects) (t : Tablespace) → AreDistinct (holding_addresses d t)
  unfolding holding_addresses
  one_holding d t = by (is_newly_held (was d) (relations_of d) t)
    where
      by : (b : Bool) → AreDistinct (if b then Holding t.oid d.oid ∷ [] else [])
      by false = tt
      by true = ((λ b none same. absurd none), tt)

  one_file : (d : DatabaseObjects) (r : Relation) → AreDistinct (relation_addresses d r)
  unfolding relation_addresses file_addresses
  one_file d r = by (is_new_relation (was d) r)
    where
      file : (found : Option Tablespace) → AreDistinct (file_addresses d.oid r.file found)
      file None = tt
      file (Some t) = ((λ b none same. absurd none), tt)

      by : (b : Bool) → AreDistinct (if b then file_addresses d.oid r.file (find (tablespace_has r.tablespace) ts) else [])
      by false = tt
      by true = file (find (tablespace_has r.tablespace) ts)

  nat_same : (n : ℕ) → nat_eq n n ≡ true
  nat_same n = eq-eqb n n refl

  held_distinct : (d : DatabaseObjects) → In c.databases d → AreDistinct (held_addresses d)
  unfolding held_addresses
  held_distinct d found =
      let database = valid_in c.roles c.tablespaces c.databases valid.databases d found in
      distinct_append (flat_map (holding_addresses d) ts) (flat_map (relation_addresses d) (relations_of d))
      (distinct_flat (holding_addresses d) tablespace_mark (λ (t : Tablespace). t.oid) nat_eq nat_same ts (λ t _. one_holding d t) (λ t a among. (holding_marked d t a among).0) valid.tablespace_oids_differ)
      (distinct_flat (relation_addresses d) file_mark place_of same_place same_place_itself (relations_of d) (λ r _. one_file d r) (λ r a among. (relation_marked d r a among).0) (ap (are_distinct same_place) (places_are d) ∙ database.file_places_differ))
      (λ a b here there.
      let (t, _, inside) = flat_in (holding_addresses d) ts a here in
      let (r, _, inside_too) = flat_in (relation_addresses d) (relations_of d) b there in
      parts_differ a b 2 3 (holding_marked d t a inside).2 (relation_marked d r b inside_too).2 (λ e. absurd (omega (arith, e))))

  all_distinct : AreDistinct addresses
  unfolding addresses
  all_distinct =
      distinct_append (flat_map tablespace_addresses ts) (flat_map database_addresses c.databases ++ flat_map held_addresses c.databases)
      (distinct_flat tablespace_addresses tablespace_mark (λ (t : Tablespace). t.oid) nat_eq nat_same ts (λ t _. one_or_two t) (λ t a among. (tablespace_marked t a among).0) valid.tablespace_oids_differ)
      (distinct_append (flat_map database_addresses c.databases) (flat_map held_addresses c.databases)
      (distinct_flat database_addresses database_mark (λ (d : DatabaseObjects). d.oid) nat_eq nat_same c.databases (λ d _. both_distinct d) (λ d a among. (database_marked d a among).0) valid.database_oids_differ)
      (distinct_flat held_addresses database_mark (λ (d : DatabaseObjects). d.oid) nat_eq nat_same c.databases held_distinct (λ d a among. (held_marked d a among).0) valid.database_oids_differ)
      (λ a b here there.
      let (d, _, inside) = flat_in database_addresses c.databases a here in
      let (e, _, inside_too) = flat_in held_addresses c.databases b there in
      held_other_part a b 1 (database_marked d a inside).1 (held_marked e b inside_too).1 (λ h. absurd (omega (arith, h))) (λ h. absurd (omega (arith, h)))))
      (λ a b here there.
      let (t, _, inside) = flat_in tablespace_addresses ts a here in
      in_either (flat_map database_addresses c.databases) (flat_map held_addresses c.databases) b (b ≢ a)
      (λ among. let (d, _, inside_too) = flat_in database_addresses c.databases b among in parts_differ a b 0 1 (tablespace_marked t a inside).1 (database_marked d b inside_too).1 (λ h. absurd (omega (arith, h))))
      (λ among. let (d, _, inside_too) = flat_in held_addresses c.databases b among in held_other_part a b 0 (tablespace_marked t a inside).1 (held_marked d b inside_too).1 (λ h. absurd (omega (arith, h))) (λ h. absurd (omega (arith, h)))) there)
    where
      held_other_part : (a b : Address) (n : ℕ) → part a ≡ n → (part b ≡ 2) ⊎ (part b ≡ 3) → n ≢ 2 → n ≢ 3 → b ≢ a
      held_other_part a b n is (inl is_too) not_two not_three = parts_differ a b n 2 is is_too not_two
      held_other_part a b n is (inr is_too) not_two not_three = parts_differ a b n 3 is is_too not_three

  -- ---- the law

  no_relations : (oid : ℕ) → relations_in before oid ≡ []
  unfolding relations_of
  no_relations oid = by (find (database_has oid) first_databases) refl
    where
      empty_first : (d : DatabaseObjects) → In first_databases d → relations_of d ≡ []
      empty_first d (inl is) = ap relations_of is
      empty_first d (inr (inl is)) = ap relations_of is
      empty_first d (inr (inr (inl is))) = ap relations_of is
      empty_first d (inr (inr (inr none))) = absurd none

      by : (found : Option DatabaseObjects) → find (database_has oid) first_databases ≡ found → option_map_or relations_of found [] ≡ []
      by None e = refl
      by (Some d) e = empty_first d (in_find (database_has oid) first_databases d e)

  needed : HasNeeded root release before c s
  needed = record {
    base = unused.base;
    links = unused.links;
    databases = λ d found old.
        let (first, among, has) = any_in (database_has d.oid) first_databases (not_false (list_any (database_has d.oid) first_databases) old) in
        subst (λ n. HasDir s (base_path root ++ decimal n ∷ [])) (eqb-true first.oid d.oid has) (unused.first first (from_in first_databases first among));
    locations = λ t found new. ready.locations t found (not_own t.oid (new_other t new));
    releases = λ t found other old. absurd (only_default t other (not_false (list_any (tablespace_has t.oid) before.tablespaces) old));
    held = λ d t d_found found other h. absurd (none_held d.oid t.oid h);
  }
    where
      only_default : (t : Tablespace) → t.oid ≢ default_tablespace → list_any (tablespace_has t.oid) (first_tablespace ∷ []) ≡ true → ⊥
      only_default t other e = by (nat_eq default_tablespace t.oid) refl e
        where
          by : (b : Bool) → nat_eq default_tablespace t.oid ≡ b → (b || false) ≡ true → ⊥
          by true is h = other (sym (eqb-true default_tablespace t.oid is))
          by false is h = absurd (cc h)

      none_held : (database tablespace : ℕ) → list_any (stands_in tablespace) (relations_in before database) ≡ true → ⊥
      none_held database tablespace h = let e : false ≡ true = ap (list_any (stands_in tablespace)) (sym (no_relations database)) ∙ h in absurd (cc e)

  pub room_when_unused : HasRoomFor s (new_names root release before c)
  room_when_unused = needed_gives_room root release before c s refl needed (record { free = all_free (new_names root release before c) addresses along_all good_all; distinct = paths_distinct (new_names root release before c) addresses along_all good_all all_distinct })
