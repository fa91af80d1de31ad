-- The names that a replay makes are inside the directories that it keeps within.
use Rattle.std.proofs.Common.{◌≡◌, ◌⊎◌, subst, if◌then◌else◌, inl, inr, ℕ, Bool, true, false, cond, List, [], ◌∷◌, ◌++◌, map, Option, Some, None, refl, sym, ◌∙◌, ap, append_assoc}
use Rattle.std.specs.Prelude.{codes}
use Rattle.std.specs.List.{AllByRecursion, Contains, flat_map, find}
use Rattle.std.specs.Fmt.{decimal}
use Rattle.fs_model.specs.Names.{Path, IsUnder}
use Rattle.fs_model.proofs.Runs.{all_append}
use Rattle.crash_safety.specs.Frame.{IsInside}
use Rattle.crash_safety.proofs.Keeping.{all_at}
use Rattle.control_file.specs.declared.releases.Release.{Release}
use Rattle.control_file.specs.Version.{version_text_of}
use Rattle.catalog.specs.declared.owners.Tablespace.{Tablespace}
use Rattle.catalog.specs.Cluster.{Cluster, DatabaseObjects}
use Rattle.catalog.specs.Spaces.{tablespace_has}
use Rattle.new_names.specs.declared.names.NewName.{NewName}
use Rattle.new_names.specs.declared.names.NewNode.{NewNode}
use Rattle.new_names.specs.Frame.{IsListed}
use Rattle.catalog_server.specs.declared.relation.Relation.{Relation}
use Rattle.catalog_server.specs.Profile.{profile_path}
use Rattle.catalog_server.specs.ReplayNames.{base_path, links_path, databases_path, relations_of, relations_in, is_new_tablespace, is_new_database, is_new_relation, is_newly_held, tablespace_names, database_names, holding_names, file_names, relation_names, held_names, new_names, catalog_name, listed_names}
use Rattle.catalog_server.specs.Within.{replay_tops}

append-nil : (path : Path) → path ++ [] ≡ path
append-nil [] = refl
append-nil (name ∷ path) = ap (λ rest. name ∷ rest) (append-nil path)

-- ---- lists

module _ {X Y : Type 0} (Q : X → Type 0) (P : Y → Type 0) where
  all_flat : (f : X → List Y) → ((x : X) → Q x → AllByRecursion P (f x)) → (xs : List X) → AllByRecursion Q xs → AllByRecursion P (flat_map f xs)
  all_flat f each [] all = tt
  all_flat f each (x ∷ xs) all = all_append P (f x) (flat_map f xs) (each x all.0) (all_flat f each xs all.1)

all_of_all : {X : Type 0} (Q : X → Type 0) → ((x : X) → Q x) → (xs : List X) → AllByRecursion Q xs
all_of_all Q each [] = tt
all_of_all Q each (x ∷ xs) = (each x, all_of_all Q each xs)

all_if : {Y : Type 0} (P : Y → Type 0) (b : Bool) (ys : List Y) → AllByRecursion P ys → AllByRecursion P (if b then ys else [])
all_if P true ys all = all
all_if P false ys all = tt

-- ---- names

module _ (root : Path) (release : Release) (before after : Cluster) where
  Inside : NewName → Type 0
  Inside name = IsInside (replay_tops root release after) name.path

  -- what is in a tablespace's directory is inside
  Owns : Tablespace → Type 0
  Owns tablespace = (rest : Path) → IsInside (replay_tops root release after) (databases_path root release tablespace ++ rest)

  owned : (ts : List Tablespace) → ((path : Path) → IsInside (map (databases_path root release) ts) path → IsInside (replay_tops root release after) path) → AllByRecursion Owns ts
  unfolding Owns
  owned [] inside = tt
  owned (t ∷ ts) inside = (λ rest. inside (databases_path root release t ++ rest) (inl (rest, refl)), owned ts (λ path in_it. inside path (inr in_it)))

  all_owned : AllByRecursion Owns after.tablespaces
  all_owned = owned after.tablespaces (λ path in_it. inr (inr (inr in_it)))

  in_base : (rest : Path) → IsInside (replay_tops root release after) (base_path root ++ rest)
  in_base rest = inl (rest, refl)

  tablespace_inside : (t : Tablespace) → Owns t → AllByRecursion Inside (tablespace_names root release before t)
  unfolding Inside Owns
  tablespace_inside t owns =
      all_if Inside (is_new_tablespace before t) _
      (subst (λ p. IsInside (replay_tops root release after) p) (append-nil (databases_path root release t)) (owns []), (inr (inl (decimal t.oid ∷ [], refl)), tt))

  database_inside : (d : DatabaseObjects) → AllByRecursion Inside (database_names root release before d)
  unfolding Inside
  database_inside d = all_if Inside (is_new_database before d) _ (in_base (decimal d.oid ∷ []), (in_base (decimal d.oid ∷ codes "PG_VERSION" ∷ []), tt))

  holding_inside : (database : ℕ) (earlier relations : List Relation) (t : Tablespace) → Owns t → AllByRecursion Inside (holding_names root release database earlier relations t)
  unfolding Inside Owns
  holding_inside database earlier relations t owns = all_if Inside (is_newly_held earlier relations t) _ (owns (decimal database ∷ []), tt)

  file_inside : (database file oid : ℕ) (ts : List Tablespace) → AllByRecursion Owns ts → AllByRecursion Inside (file_names root release database file (find (tablespace_has oid) ts))
  unfolding Inside Owns
  file_inside database file oid [] all = tt
  file_inside database file oid (t ∷ ts) all =
      elim (tablespace_has oid t) as (λ b. AllByRecursion Inside (file_names root release database file (cond b (Some t) (find (tablespace_has oid) ts))))
      [ true ↦ (all.0 (decimal database ∷ decimal file ∷ []), tt) | false ↦ file_inside database file oid ts all.1 ]

  relation_inside : (database : ℕ) (earlier : List Relation) (r : Relation) → AllByRecursion Inside (relation_names root release after.tablespaces database earlier r)
  relation_inside database earlier r =
      all_if Inside (is_new_relation earlier r) (file_names root release database r.file (find (tablespace_has r.tablespace) after.tablespaces)) (file_inside database r.file r.tablespace after.tablespaces all_owned)

  held_inside : (d : DatabaseObjects) → AllByRecursion Inside (held_names root release before after d)
  held_inside d =
      let Any : Relation → Type 0 = λ _. Unit {0} in
      let earlier = relations_in before d.oid in
      all_append Inside (flat_map (holding_names root release d.oid earlier (relations_of d)) after.tablespaces) (flat_map (relation_names root release after.tablespaces d.oid earlier) (relations_of d))
      (all_flat Owns Inside (holding_names root release d.oid earlier (relations_of d)) (holding_inside d.oid earlier (relations_of d)) after.tablespaces all_owned)
      (all_flat Any Inside (relation_names root release after.tablespaces d.oid earlier) (λ r _. relation_inside d.oid earlier r) (relations_of d) (all_of_all Any (λ _. tt) (relations_of d)))

  new_inside : AllByRecursion Inside (new_names root release before after)
  unfolding new_names
  new_inside =
      let Any : DatabaseObjects → Type 0 = λ _. Unit {0} in
      all_append Inside (flat_map (tablespace_names root release before) after.tablespaces) (flat_map (database_names root release before) after.databases ++ flat_map (held_names root release before after) after.databases)
      (all_flat Owns Inside (tablespace_names root release before) tablespace_inside after.tablespaces all_owned)
      (all_append Inside (flat_map (database_names root release before) after.databases) (flat_map (held_names root release before after) after.databases)
      (all_flat Any Inside (database_names root release before) (λ d _. database_inside d) after.databases (all_of_all Any (λ _. tt) after.databases))
      (all_flat Any Inside (held_names root release before after) (λ d _. held_inside d) after.databases (all_of_all Any (λ _. tt) after.databases)))

  pub listed_inside : (path : Path) (what : NewNode) → IsListed (listed_names root release before after) path what → IsInside (replay_tops root release after) path
  unfolding Inside
  listed_inside path what is_listed =
      all_at Inside (listed_names root release before after) (record { path = path; node = what })
      (all_append Inside (new_names root release before after) (catalog_name root after ∷ []) new_inside (inr (inr (inl (codes "catalog.sql" ∷ [], refl))), tt)) is_listed
