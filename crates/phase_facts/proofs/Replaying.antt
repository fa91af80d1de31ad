-- The names that the replay of a catalog makes are at new places, and none is the mark.
use Rattle.std.proofs.Common.{◌≡◌, subst, if◌then◌else◌, inl, inr, ℕ, Bool, true, false, cond, nat_eq, List, [], ◌∷◌, ◌++◌, map, Some, refl, sym, ap}
use Rattle.std.specs.Prelude.{codes}
use Rattle.std.specs.List.{AllByRecursion, flat_map, find}
use Rattle.std.specs.Fmt.{decimal}
use Rattle.fs_model.specs.Names.{Path}
use Rattle.fs_model.proofs.Runs.{all_append}
use Rattle.crash_safety.specs.Frame.{IsInside}
use Rattle.crash_safety.specs.Synced.{IsOneOf}
use Rattle.crash_safety.proofs.Keeping.{all_at}
use Rattle.control_file.specs.declared.releases.Release.TheVariants.{V16}
use Rattle.control_file.specs.Version.{dir_name_of}
use Rattle.catalog.specs.declared.owners.Tablespace.{Tablespace}
use Rattle.catalog.specs.Cluster.{Cluster, DatabaseObjects, default_tablespace}
use Rattle.catalog.specs.Spaces.{tablespace_has}
use Rattle.new_names.specs.declared.names.NewName.{NewName}
use Rattle.new_names.specs.declared.names.NewNode.{NewNode}
use Rattle.new_names.specs.Frame.{IsListed}
use Rattle.catalog_server.specs.declared.relation.Relation.{Relation}
use Rattle.catalog_server.specs.Profile.{catalog_path}
use Rattle.catalog_server.specs.ReplayNames.{base_path, databases_path, relations_of, relations_in, is_new_tablespace, is_new_database, is_new_relation, is_newly_held, tablespace_names, database_names, holding_names, file_names, relation_names, held_names, new_names, catalog_name, listed_names}
use Rattle.phase_facts.specs.Places.{locations_of}
use Rattle.phase_facts.proofs.Tops.{grounds}

append-nil : (path : Path) → path ++ [] ≡ path
append-nil [] = refl
append-nil (name ∷ path) = ap (λ rest. name ∷ rest) (append-nil path)

-- ---- lists

module _ {X Y : Type 0} (Q : X → Type 0) (P : Y → Type 0) where
  all_flat : (f : X → List Y) → ((x : X) → Q x → AllByRecursion P (f x)) → (xs : List X) → AllByRecursion Q xs → AllByRecursion P (flat_map f xs)
  all_flat f each [] all = tt
  all_flat f each (x ∷ xs) all = all_append P (f x) (flat_map f xs) (each x all.0) (all_flat f each xs all.1)

all_of_all : {X : Type 0} (Q : X → Type 0) → ((x : X) → Q x) → (xs : List X) → AllByRecursion Q xs
all_of_all Q each [] = tt
all_of_all Q each (x ∷ xs) = (each x, all_of_all Q each xs)

all_if : {Y : Type 0} (P : Y → Type 0) (b : Bool) (ys : List Y) → AllByRecursion P ys → AllByRecursion P (if b then ys else [])
all_if P true ys all = all
all_if P false ys all = tt

-- a release's directory at one of the locations
pub region_in : (release : List ℕ) (locations : List Path) (location rest : Path) → IsOneOf locations location → IsInside (map (λ location. location ++ release ∷ []) locations) ((location ++ release ∷ []) ++ rest)
region_in release [] location rest none = absurd none
region_in release (first ∷ locations) location rest (inl same) = inl (rest, ap (λ p. (p ++ release ∷ []) ++ rest) same)
region_in release (first ∷ locations) location rest (inr one) = inr (region_in release locations location rest one)

-- ---- names

module _ (root : Path) (locations : List Path) (before after : Cluster) (recorded : (location : Path) → IsOneOf (locations_of after.tablespaces) location → IsOneOf locations location) where
  Inside : NewName → Type 0
  Inside name = IsInside (grounds root locations) name.path

  -- what is in a tablespace's directory is inside
  Owns : Tablespace → Type 0
  Owns tablespace = (rest : Path) → IsInside (grounds root locations) (databases_path root V16 tablespace ++ rest)

  in_base : (rest : Path) → IsInside (grounds root locations) (base_path root ++ rest)
  in_base rest = inr (inr (inl (rest, refl)))

  owned : (ts : List Tablespace) → ((location : Path) → IsOneOf (locations_of ts) location → IsOneOf locations location) → AllByRecursion Owns ts
  unfolding Owns
  owned [] given = tt
  owned (t ∷ ts) given =
      let (own, others) = (elim (nat_eq t.oid default_tablespace) as (λ b. ((location : Path) → IsOneOf (if b then locations_of ts else t.location ∷ locations_of ts) location → IsOneOf locations location) → ((rest : Path) → IsInside (grounds root locations) ((if b then base_path root else t.location ++ dir_name_of V16 ∷ []) ++ rest)) × ((location : Path) → IsOneOf (locations_of ts) location → IsOneOf locations location)) [
        | true ↦ λ all. (in_base, all)
        | false ↦ λ all. ((λ rest. inr (inr (inr (region_in (dir_name_of V16) locations t.location rest (all t.location (inl refl)))))), λ location one. all location (inr one))
      ]) given in
      (own, owned ts others)

  all_owned : AllByRecursion Owns after.tablespaces
  all_owned = owned after.tablespaces recorded

  tablespace_inside : (t : Tablespace) → Owns t → AllByRecursion Inside (tablespace_names root V16 before t)
  unfolding Inside Owns
  tablespace_inside t owns =
      all_if Inside (is_new_tablespace before t) _
      (subst (λ p. IsInside (grounds root locations) p) (append-nil (databases_path root V16 t)) (owns []), (inl (decimal t.oid ∷ [], refl), tt))

  database_inside : (d : DatabaseObjects) → AllByRecursion Inside (database_names root V16 before d)
  unfolding Inside
  database_inside d = all_if Inside (is_new_database before d) _ (in_base (decimal d.oid ∷ []), (in_base (decimal d.oid ∷ codes "PG_VERSION" ∷ []), tt))

  holding_inside : (database : ℕ) (earlier relations : List Relation) (t : Tablespace) → Owns t → AllByRecursion Inside (holding_names root V16 database earlier relations t)
  unfolding Inside Owns
  holding_inside database earlier relations t owns = all_if Inside (is_newly_held earlier relations t) _ (owns (decimal database ∷ []), tt)

  file_inside : (database file oid : ℕ) (ts : List Tablespace) → AllByRecursion Owns ts → AllByRecursion Inside (file_names root V16 database file (find (tablespace_has oid) ts))
  unfolding Inside Owns
  file_inside database file oid [] all = tt
  file_inside database file oid (t ∷ ts) all =
      elim (tablespace_has oid t) as (λ b. AllByRecursion Inside (file_names root V16 database file (cond b (Some t) (find (tablespace_has oid) ts))))
      [ true ↦ (all.0 (decimal database ∷ decimal file ∷ []), tt) | false ↦ file_inside database file oid ts all.1 ]

  relation_inside : (database : ℕ) (earlier : List Relation) (r : Relation) → AllByRecursion Inside (relation_names root V16 after.tablespaces database earlier r)
  relation_inside database earlier r =
      all_if Inside (is_new_relation earlier r) (file_names root V16 database r.file (find (tablespace_has r.tablespace) after.tablespaces)) (file_inside database r.file r.tablespace after.tablespaces all_owned)

  held_inside : (d : DatabaseObjects) → AllByRecursion Inside (held_names root V16 before after d)
  held_inside d =
      let Any : Relation → Type 0 = λ _. Unit {0} in
      let earlier = relations_in before d.oid in
      all_append Inside (flat_map (holding_names root V16 d.oid earlier (relations_of d)) after.tablespaces) (flat_map (relation_names root V16 after.tablespaces d.oid earlier) (relations_of d))
      (all_flat Owns Inside (holding_names root V16 d.oid earlier (relations_of d)) (holding_inside d.oid earlier (relations_of d)) after.tablespaces all_owned)
      (all_flat Any Inside (relation_names root V16 after.tablespaces d.oid earlier) (λ r _. relation_inside d.oid earlier r) (relations_of d) (all_of_all Any (λ _. tt) (relations_of d)))

  new_inside : AllByRecursion Inside (new_names root V16 before after)
  unfolding new_names
  new_inside =
      let Any : DatabaseObjects → Type 0 = λ _. Unit {0} in
      all_append Inside (flat_map (tablespace_names root V16 before) after.tablespaces) (flat_map (database_names root V16 before) after.databases ++ flat_map (held_names root V16 before after) after.databases)
      (all_flat Owns Inside (tablespace_names root V16 before) tablespace_inside after.tablespaces all_owned)
      (all_append Inside (flat_map (database_names root V16 before) after.databases) (flat_map (held_names root V16 before after) after.databases)
      (all_flat Any Inside (database_names root V16 before) (λ d _. database_inside d) after.databases (all_of_all Any (λ _. tt) after.databases))
      (all_flat Any Inside (held_names root V16 before after) (λ d _. held_inside d) after.databases (all_of_all Any (λ _. tt) after.databases)))

  pub listed_inside : (path : Path) (what : NewNode) → IsListed (listed_names root V16 before after) path what → IsInside (grounds root locations) path
  unfolding Inside
  listed_inside path what is_listed =
      all_at Inside (listed_names root V16 before after) (record { path = path; node = what })
      (all_append Inside (new_names root V16 before after) (catalog_name root after ∷ []) new_inside (inr (inl ([], sym (append-nil (catalog_path root)))), tt)) is_listed
