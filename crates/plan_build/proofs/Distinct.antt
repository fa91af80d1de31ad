-- The directories and file numbers of a catalog's relations differ.
use Rattle.std.proofs.Common.{◌≡◌, ◌≢◌, ◌∙◌, inl, inr, ℕ, ◌==◌, ◌&&◌, ◌||◌, not, Bool, true, false, if◌then◌else◌, List, [], ◌∷◌, ◌++◌, map, codes, nat_eq, refl, sym, ap, arith}
use Rattle.std.specs.List.{AllByRecursion, find, flat_map, list_any}
use Rattle.std.specs.Fmt.{decimal}
use Rattle.std.proofs.lemmas.Bool.{and_parts, eqb-true, eq-eqb}
use Rattle.fs_model.specs.Names.{Path}
use Rattle.control_file.specs.declared.job.Job.{Job}
use Rattle.control_file.specs.declared.releases.Release.TheVariants.{V15, V16}
use Rattle.control_file.specs.Version.{dir_name_of}
use Rattle.catalog.specs.declared.owners.Tablespace.{Tablespace}
use Rattle.catalog.specs.Lists.{are_distinct}
use Rattle.catalog.specs.Cluster.{Cluster, DatabaseObjects, default_tablespace}
use Rattle.catalog.specs.Spaces.{tablespace_has, database_oids, FilePlace, same_place, file_places}
use Rattle.catalog.specs.Valid.{IsValid}
use Rattle.relation_files.specs.declared.relation.Relation.{Relation}
use Rattle.relation_files.specs.Places.{location_in, tablespace_dir, relation_dir}
use Rattle.relation_files.specs.Relations.{relation_at, relations_in, relations_of}
use Rattle.relation_map.specs.Equal.{Carriage, carriage}
use Rattle.relation_map.specs.Pairs.{old_site, new_site}
use Rattle.plan_build.specs.Plannable.{AreAlone, AreOtherDirs}
use Rattle.plan_build.specs.Carrying.{HaveOwnLocations}
use Rattle.plan_build.proofs.FileNames.{last_same, number_same, first_of, rest_of}
use Rattle.plan_build.proofs.Lists.{Among, all_of, one_of, of_mapped, of_flat, contains}
use Rattle.plan_build.proofs.Standing.{IsFound, found_in, valid_in, database_small, all_stand}

-- ---- the directories of tablespaces

abbrev dir_by : Bool → Path → Path → List ℕ → Path
dir_by own root location release = if own then root ++ codes "base" ∷ [] else location ++ release ∷ []

-- a directory in `base` is none of a release in a location
base_apart : (root location : Path) (release : List ℕ) → first_of release ≡ 80 → root ++ codes "base" ∷ [] ≡ location ++ release ∷ [] → ⊥
base_apart root location release first same =
    let b : ◌≡◌ {A = ℕ} 98 (first_of release) = ap first_of (last_same root location (codes "base") release same).1 in
    absurd (omega arith)

old_new_apart : (a b : Bool) (root root' location location' : Path) → root ≢ root' → dir_by a root location (dir_name_of V15) ≡ dir_by b root' location' (dir_name_of V16) → ⊥
old_new_apart true true root root' location location' other same = other (last_same root root' _ _ same).0
old_new_apart true false root root' location location' other same = base_apart root location' (dir_name_of V16) refl same
old_new_apart false true root root' location location' other same = base_apart root' location (dir_name_of V15) refl (sym same)
old_new_apart false false root root' location location' other same =
    let fifth : ◌≡◌ {A = ℕ} 53 54 = ap (λ l. first_of (rest_of (rest_of (rest_of (rest_of l))))) (last_same location location' (dir_name_of V15) (dir_name_of V16) same).1 in
    absurd (omega arith)

-- an old directory is no new one
pub other_dirs : (job : Job) (c : Cluster) (relations : List Relation) → job.old ≢ job.new → AreOtherDirs (map (carriage job c) relations)
other_dirs job c relations other = all_of _ (map (carriage job c) relations) (λ entry one. all_of (λ (later : Carriage). entry.from_dir ≢ later.to_dir) (map (carriage job c) relations) (apart entry one))
  where
    apart : (entry : Carriage) → Among (map (carriage job c) relations) entry → (later : Carriage) → Among (map (carriage job c) relations) later → entry.from_dir ≢ later.to_dir
    apart entry one later two same =
        let (r, there, is) = of_mapped (carriage job c) relations entry one in
        let (q, here, at) = of_mapped (carriage job c) relations later two in
        let dirs : relation_dir (old_site job c) r ≡ relation_dir (new_site job c) q = sym (ap (λ (e : Carriage). e.from_dir) is) ∙ same ∙ ap (λ (e : Carriage). e.to_dir) at in
        old_new_apart (r.tablespace == default_tablespace) (q.tablespace == default_tablespace) job.old job.new (location_in (find (tablespace_has r.tablespace) c.tablespaces)) (location_in (find (tablespace_has q.tablespace) c.tablespaces)) other
        (last_same (tablespace_dir (old_site job c) r.tablespace) (tablespace_dir (new_site job c) q.tablespace) (decimal r.database) (decimal q.database) dirs).0

-- ---- one tablespace has one directory

module _ (root : Path) (ts : List Tablespace) (own : HaveOwnLocations ts) where
  abbrev location : ℕ → Path
  location t = location_in (find (tablespace_has t) ts)

  not_default : (t : ℕ) → (t == default_tablespace) ≡ false → t ≢ default_tablespace
  not_default t is same = let test : (t == default_tablespace) ≡ true = eq-eqb t default_tablespace same in absurd (cc (test, is))

  one_space : (t u : ℕ) → list_any (tablespace_has t) ts ≡ true → list_any (tablespace_has u) ts ≡ true → (t == default_tablespace) ≡ false → (u == default_tablespace) ≡ false → location t ≡ location u → t ≡ u
  one_space t u one two other_t other_u same = by (nat_eq t u) refl
    where
      first : IsFound (tablespace_has t) ts
      first = found_in (tablespace_has t) ts one

      second : IsFound (tablespace_has u) ts
      second = found_in (tablespace_has u) ts two

      first_oid : first.tablespace.oid ≡ t
      first_oid = eqb-true first.tablespace.oid t first.passes

      second_oid : second.tablespace.oid ≡ u
      second_oid = eqb-true second.tablespace.oid u second.passes

      differ : (t ≡ u → ⊥) → ⊥
      differ apart =
          own first.tablespace second.tablespace (contains ts first.tablespace first.there) (contains ts second.tablespace second.there)
          (λ is. not_default t other_t (sym first_oid ∙ is)) (λ is. not_default u other_u (sym second_oid ∙ is)) (λ is. apart (sym first_oid ∙ is ∙ second_oid))
          (sym (ap location_in first.found) ∙ same ∙ ap location_in second.found)

      by : (b : Bool) → nat_eq t u ≡ b → t ≡ u
      by true is = eqb-true t u is
      by false is = absurd (differ (λ equal. (let test : nat_eq t u ≡ true = eq-eqb t u equal in absurd (cc (test, is)))))

  space_by : (a b : Bool) (t u : ℕ) → (t == default_tablespace) ≡ a → (u == default_tablespace) ≡ b → list_any (tablespace_has t) ts ≡ true → list_any (tablespace_has u) ts ≡ true
      → dir_by a root (location t) (dir_name_of V16) ≡ dir_by b root (location u) (dir_name_of V16) → t ≡ u
  space_by true true t u is at one two same = eqb-true t default_tablespace is ∙ sym (eqb-true u default_tablespace at)
  space_by true false t u is at one two same = absurd (base_apart root (location u) (dir_name_of V16) refl same)
  space_by false true t u is at one two same = absurd (base_apart root (location t) (dir_name_of V16) refl (sym same))
  space_by false false t u is at one two same = one_space t u one two is at (last_same (location t) (location u) (dir_name_of V16) (dir_name_of V16) same).0

-- ---- each relation has a directory and a file number of its own

-- each of the list with each behind it
abbrev ArePairs : {A : Type 0} → (A → A → Type 0) → List A → Type 0
ArePairs P [] = Unit {0}
ArePairs P (x ∷ xs) = AllByRecursion (P x) xs × ArePairs P xs

all_joined : {A : Type 0} (P : A → Type 0) (xs ys : List A) → AllByRecursion P xs → AllByRecursion P ys → AllByRecursion P (xs ++ ys)
all_joined P [] ys front back = back
all_joined P (x ∷ xs) ys front back = (front.0, all_joined P xs ys front.1 back)

pairs_joined : {A : Type 0} (P : A → A → Type 0) (xs ys : List A) → ArePairs P xs → ArePairs P ys → ((x y : A) → Among xs x → Among ys y → P x y) → ArePairs P (xs ++ ys)
pairs_joined P [] ys front back cross = back
pairs_joined P (x ∷ xs) ys front back cross = (
  all_joined (P x) xs ys front.0 (all_of (P x) ys (λ y one. cross x y (inl refl) one)),
  pairs_joined P xs ys front.1 back (λ a b one two. cross a b (inr one) two),
)

module _ (job : Job) (c : Cluster) (valid : IsValid c) (own : HaveOwnLocations c.tablespaces) where
  abbrev Apart : Relation → Relation → Type 0
  Apart r q = relation_dir (new_site job c) r ≡ relation_dir (new_site job c) q → r.file ≡ q.file → ⊥

  parts_of : (r q : Relation) → relation_dir (new_site job c) r ≡ relation_dir (new_site job c) q
      → (tablespace_dir (new_site job c) r.tablespace ≡ tablespace_dir (new_site job c) q.tablespace) × (decimal r.database ≡ decimal q.database)
  parts_of r q same = last_same (tablespace_dir (new_site job c) r.tablespace) (tablespace_dir (new_site job c) q.tablespace) (decimal r.database) (decimal q.database) same

  differs : (place : FilePlace) (places : List FilePlace) → list_any (same_place place) places ≡ false → (q : FilePlace) → Among places q → same_place place q ≡ false
  differs place [] none q absent = absurd absent
  differs place (p ∷ places) none q (inl is) = ap (same_place place) is ∙ or_first (same_place place p) (list_any (same_place place) places) none
    where
      or_first : (a b : Bool) → (a || b) ≡ false → a ≡ false
      or_first true b e = e
      or_first false b e = refl
  differs place (p ∷ places) none q (inr one) = differs place places (or_second (same_place place p) (list_any (same_place place) places) none) q one
    where
      or_second : (a b : Bool) → (a || b) ≡ false → b ≡ false
      or_second true b e = absurd (cc e)
      or_second false b e = e

  not_true : (a : Bool) → not a ≡ true → a ≡ false
  not_true true e = absurd (cc e)
  not_true false e = refl

  in_database : (d : DatabaseObjects) → Among c.databases d → (places : List FilePlace) → ((p : FilePlace) → Among places p → list_any (tablespace_has p.tablespace) c.tablespaces ≡ true)
      → are_distinct same_place places ≡ true → ArePairs Apart (map (relation_at d) places)
  in_database d found [] stand distinct = tt
  in_database d found (place ∷ places) stand distinct =
      let parts = and_parts (not (list_any (same_place place) places)) (are_distinct same_place places) distinct in
      (all_of (Apart (relation_at d place)) (map (relation_at d) places) (first parts.0), in_database d found places (λ p one. stand p (inr one)) parts.1)
    where
      first : not (list_any (same_place place) places) ≡ true → (q : Relation) → Among (map (relation_at d) places) q → Apart (relation_at d place) q
      first none q one dirs files =
          let (p, there, is) = of_mapped (relation_at d) places q one in
          let spaces : place.tablespace ≡ p.tablespace = space_by job.new c.tablespaces own (place.tablespace == default_tablespace) (p.tablespace == default_tablespace) place.tablespace p.tablespace refl refl (stand place (inl refl)) (stand p (inr there))
          (parts_of (relation_at d place) (relation_at d p) (dirs ∙ ap (relation_dir (new_site job c)) is)).0 in
          let numbers : place.number ≡ p.number = files ∙ ap (λ (r : Relation). r.file) is in
          let test : same_place place p ≡ true = (λ i. eq-eqb place.tablespace p.tablespace spaces i && eq-eqb place.number p.number numbers i) in
          let fails : same_place place p ≡ false = differs place places (not_true (list_any (same_place place) places) none) p there in
          absurd (cc (test, fails))

  of_database : (d : DatabaseObjects) → Among c.databases d → ArePairs Apart (relations_in d)
  unfolding relations_in
  of_database d found = in_database d found (file_places d) (all_stand c valid d found) (valid_in c.roles c.tablespaces c.databases valid.databases d found).file_places_differ

  database_of : (d : DatabaseObjects) (r : Relation) → Among (relations_in d) r → r.database ≡ d.oid
  unfolding relations_in
  database_of d r one = let (place, there, is) = of_mapped (relation_at d) (file_places d) r one in ap (λ (x : Relation). x.database) is

  oid_differs : (oid : ℕ) (ds : List DatabaseObjects) → list_any (nat_eq oid) (database_oids ds) ≡ false → (e : DatabaseObjects) → Among ds e → oid ≡ e.oid → ⊥
  oid_differs oid [] none e absent same = absurd absent
  oid_differs oid (d ∷ ds) none e (inl is) same =
      let test : nat_eq oid d.oid ≡ true = eq-eqb oid d.oid (same ∙ ap (λ (x : DatabaseObjects). x.oid) is) in
      let any : (nat_eq oid d.oid || list_any (nat_eq oid) (database_oids ds)) ≡ true = ap (λ b. b || list_any (nat_eq oid) (database_oids ds)) test in
      absurd (cc (any, none))
  oid_differs oid (d ∷ ds) none e (inr one) same = oid_differs oid ds (second (nat_eq oid d.oid) (list_any (nat_eq oid) (database_oids ds)) none) e one same
    where
      second : (a b : Bool) → (a || b) ≡ false → b ≡ false
      second true b e = absurd (cc e)
      second false b e = e

  of_databases : (ds : List DatabaseObjects) → ((d : DatabaseObjects) → Among ds d → Among c.databases d) → are_distinct nat_eq (database_oids ds) ≡ true → ArePairs Apart (flat_map relations_in ds)
  of_databases [] known distinct = tt
  of_databases (d ∷ ds) known distinct =
      let parts = and_parts (not (list_any (nat_eq d.oid) (database_oids ds))) (are_distinct nat_eq (database_oids ds)) distinct in
      pairs_joined Apart (relations_in d) (flat_map relations_in ds) (of_database d (known d (inl refl))) (of_databases ds (λ e one. known e (inr one)) parts.1) (cross parts.0)
    where
      cross : not (list_any (nat_eq d.oid) (database_oids ds)) ≡ true → (r q : Relation) → Among (relations_in d) r → Among (flat_map relations_in ds) q → Apart r q
      cross none r q one two dirs files =
          let (e, there, inside) = of_flat relations_in ds q two in
          let same : decimal d.oid ≡ decimal e.oid = ap decimal (sym (database_of d r one)) ∙ (parts_of r q dirs).1 ∙ ap decimal (database_of e q inside) in
          oid_differs d.oid ds (not_true (list_any (nat_eq d.oid) (database_oids ds)) none) e there (number_same d.oid e.oid (database_small c valid d (known d (inl refl))) same)

  alone_by : (relations : List Relation) → ArePairs Apart relations → AreAlone (map (carriage job c) relations)
  alone_by [] pairs = tt
  alone_by (r ∷ relations) pairs = (all_of (λ (other : Carriage). relation_dir (new_site job c) r ≡ other.to_dir → r.file ≡ other.file → ⊥) (map (carriage job c) relations) first, alone_by relations pairs.1)
    where
      first : (other : Carriage) → Among (map (carriage job c) relations) other → relation_dir (new_site job c) r ≡ other.to_dir → r.file ≡ other.file → ⊥
      first other one dirs files =
          let (q, there, is) = of_mapped (carriage job c) relations other one in
          one_of (Apart r) relations q pairs.0 there (dirs ∙ ap (λ (e : Carriage). e.to_dir) is) (files ∙ ap (λ (e : Carriage). e.file) is)

  pub all_alone : AreAlone (map (carriage job c) (relations_of c))
  unfolding relations_of
  all_alone = alone_by (flat_map relations_in c.databases) (of_databases c.databases (λ d one. one) valid.database_oids_differ)
