-- The statements of databases lead to them, each as it is made: with its connections, and with the schema `public` alone.
use Rattle.std.proofs.Common.{◌≡◌, ℕ, Bool, true, false, cond, List, [], ◌∷◌, ◌++◌, map, Option, Some, None, Ok, refl, sym, ap, subst, ◌∙◌, append_assoc}
use Rattle.std.specs.Prelude.{not, nat_eq, bytes_eq, ◌||◌, option_map}
use Rattle.std.specs.List.{list_all, list_any, flat_map}
use Rattle.std.proofs.lemmas.List.{append-nil, map-append}
use Rattle.catalog.specs.declared.owners.Role.{Role}
use Rattle.catalog.specs.declared.error.CatalogError.{CatalogError}
use Rattle.catalog.specs.Lists.{are_distinct, change_first}
use Rattle.catalog.specs.Cluster.{Cluster, DatabaseObjects, fresh_database}
use Rattle.catalog.specs.Spaces.{database_has, database_oids, database_names, role_names}
use Rattle.catalog.specs.Lookups.{database_is}
use Rattle.catalog.specs.Forms.{has_role}
use Rattle.catalog.specs.Changes.{unless, with_database, with_connections, set_connections, refusal_in}
use Rattle.catalog.specs.Refusals.{first_cause, oid_taken, is_system_number, database_refusal}
use Rattle.catalog.specs.Valid.{head_of, head_is_valid}
use Rattle.catalog.proofs.ListLemmas.{and_left, and_right, or_right, not_false, nat_eq-turned, bytes_eq-turned}
use Rattle.catalog.proofs.CauseLemmas.{no_cause}
use Rattle.catalog_laws.specs.Unrefused.{EachBehind}
use Rattle.dump_grammar.specs.declared.statement.NextKind.TheVariants as kinds
use Rattle.dump_grammar.specs.declared.statement.Statement.TheVariants.{SetNext, CreateDatabase, AlterDatabase}
use Rattle.dump_grammar.specs.Canonical.{role_name, same_flag, flag_statements, starts_on, database_statements}
use Rattle.dump_rules.specs.Rules.{State, opened, new_session, no_numbers, found, taken, step, Replays}
use Rattle.dump_laws.proofs.Lookups.{bytes_eq-itself}
use Rattle.dump_laws.proofs.Replaying.{each_replays}
use Rattle.dump_laws.proofs.Databases.{find_at, change_at, nat_eq-itself, found_role}
use Rattle.dump_laws.proofs.Roles.{all_at, user_is_new, unsystem}

-- a database as it is made
abbrev pub emptied : DatabaseObjects → DatabaseObjects
emptied d = fresh_database d.oid d.name d.owner d.connections

abbrev pub with_databases : Cluster → List DatabaseObjects → Cluster
with_databases c ds = record c { databases = ds }

-- ---- what the others' OIDs and names are

oids-emptied : (ds : List DatabaseObjects) → database_oids (map emptied ds) ≡ database_oids ds
oids-emptied [] = refl
oids-emptied (d ∷ ds) = ap (λ (l : List ℕ). d.oid ∷ l) (oids-emptied ds)

names-emptied : (ds : List DatabaseObjects) → database_names (map emptied ds) ≡ database_names ds
names-emptied [] = refl
names-emptied (d ∷ ds) = ap (λ (l : List (List ℕ)). d.name ∷ l) (names-emptied ds)

any_turned : {A B : Type 0} (same : B → B → Bool) → ((x y : B) → same x y ≡ same y x) → (f : A → B) (y : B) (xs : List A) → list_any (same y) (map f xs) ≡ list_any (λ x. same (f x) y) xs
any_turned same turned f y [] = refl
any_turned same turned f y (x ∷ xs) = λ i. turned y (f x) i || any_turned same turned f y xs i

-- what is free of a database's OID and name
record IsFree (roles : List Role) (front : List DatabaseObjects) (d : DatabaseObjects) : Type 0 where
  owned : has_role roles d.owner ≡ true
  unused : list_any (database_has d.oid) front ≡ false
  unnamed : list_any (database_is d.name) front ≡ false

is_free : (roles : List Role) (front : List DatabaseObjects) (d : DatabaseObjects) → database_refusal roles front d ≡ None → IsFree roles front d
is_free roles front d free =
    let n = no_cause _ _ _ _ _ free in
    record {
      owned = not_false _ n.stands;
      unused = sym (any_turned nat_eq nat_eq-turned (λ (x : DatabaseObjects). x.oid) d.oid front) ∙ or_right _ _ n.oids;
      unnamed = sym (any_turned bytes_eq bytes_eq-turned (λ (x : DatabaseObjects). x.name) d.name front) ∙ n.names;
    }

emptied_refusal : (roles : List Role) (ds : List DatabaseObjects) (d : DatabaseObjects) → database_refusal roles (map emptied ds) d ≡ database_refusal roles ds d
emptied_refusal roles ds d =
    λ i. first_cause (not (has_role roles d.owner)) false (oid_taken d.oid (oids-emptied ds i)) (list_any (bytes_eq d.name) (names-emptied ds i)) false

-- ---- a new database

abbrev made_on : DatabaseObjects → DatabaseObjects
made_on d = fresh_database d.oid d.name d.owner true

database_numbered : Cluster → ℕ → State
database_numbered c oid = record { catalog = c; session = record new_session { numbers = record no_numbers { database = Some oid } } }

step_create : (c : Cluster) (front : List DatabaseObjects) (d : DatabaseObjects) → c.databases ≡ front → are_distinct bytes_eq (role_names c.roles) ≡ true → database_refusal c.roles front d ≡ None
    → step (database_numbered c d.oid) (CreateDatabase d.name (role_name c.roles d.owner)) ≡ Ok (opened (with_databases c (front ++ made_on d ∷ [])))
unfolding step database_numbered
step_create c front d is differ free =
    let f = is_free c.roles front d free in
    ap (taken new_session) (found_role c d.owner (λ o. with_database c (fresh_database d.oid d.name o true)) differ f.owned)
    ∙ ap (λ (ds : List DatabaseObjects). taken new_session (unless (database_refusal c.roles ds d) (with_databases c (ds ++ made_on d ∷ [])))) is
    ∙ ap (λ (o : Option CatalogError). taken new_session (unless o (with_databases c (front ++ made_on d ∷ [])))) free

-- a database's connections set, where no other has its OID or its name
step_alter : (c : Cluster) (front : List DatabaseObjects) (d : DatabaseObjects) → list_any (database_has d.oid) front ≡ false → list_any (database_is d.name) front ≡ false
    → step (opened (with_databases c (front ++ made_on d ∷ []))) (AlterDatabase d.name false) ≡ Ok (opened (with_databases c (front ++ fresh_database d.oid d.name d.owner false ∷ [])))
unfolding step
step_alter c front d unused unnamed =
    let here : Cluster = with_databases c (front ++ made_on d ∷ []) in
    let changed : Cluster = with_databases c (change_first (database_has d.oid) (set_connections false) (front ++ made_on d ∷ [])) in
    ap (λ (o : Option DatabaseObjects). taken new_session (found (option_map (λ (x : DatabaseObjects). x.oid) o) (λ oid. with_connections here oid false))) (find_at (database_is d.name) front (made_on d) [] unnamed (bytes_eq-itself d.name))
    ∙ ap (λ (o : Option DatabaseObjects). taken new_session (unless (refusal_in (λ _. None) o) changed)) (find_at (database_has d.oid) front (made_on d) [] unused (nat_eq-itself d.oid))
    ∙ ap (λ (ds : List DatabaseObjects). Ok (opened (with_databases c ds))) (change_at (database_has d.oid) (set_connections false) front (made_on d) [] unused (nat_eq-itself d.oid))

flag_replays : (c : Cluster) (front : List DatabaseObjects) (d : DatabaseObjects) (on : Bool) → d.connections ≡ on → list_any (database_has d.oid) front ≡ false → list_any (database_is d.name) front ≡ false
    → Replays (opened (with_databases c (front ++ made_on d ∷ []))) (cond (same_flag on true) [] (AlterDatabase d.name on ∷ [])) (opened (with_databases c (front ++ fresh_database d.oid d.name d.owner on ∷ [])))
flag_replays c front d true is unused unnamed = refl
flag_replays c front d false is unused unnamed = (opened (with_databases c (front ++ fresh_database d.oid d.name d.owner false ∷ [])), step_alter c front d unused unnamed, refl)

new_replays : (c : Cluster) (front : List DatabaseObjects) (d : DatabaseObjects) → c.databases ≡ front → are_distinct bytes_eq (role_names c.roles) ≡ true → database_refusal c.roles front d ≡ None
    → Replays (opened c) (SetNext kinds.Database d.oid ∷ CreateDatabase d.name (role_name c.roles d.owner) ∷ flag_statements true d) (opened (with_databases c (front ++ emptied d ∷ [])))
unfolding step database_numbered
new_replays c front d is differ free =
    let f = is_free c.roles front d free in (
      database_numbered c d.oid,
      refl,
      (opened (with_databases c (front ++ made_on d ∷ [])), step_create c front d is differ free, flag_replays c front d d.connections refl f.unused f.unnamed),
    )

-- ---- the databases behind the first three

pub more_databases_replay : (c : Cluster) (first more : List DatabaseObjects) → are_distinct bytes_eq (role_names c.roles) ≡ true → list_all (λ d. head_is_valid c.roles (head_of d)) more ≡ true
    → EachBehind (λ before d. is_system_number d.oid ≡ false → database_refusal c.roles before d ≡ None) (first ++ more)
    → Replays (opened (with_databases c (map emptied first))) (flat_map (database_statements c.roles) more) (opened (with_databases c (map emptied (first ++ more))))
more_databases_replay c first more differ valid free =
    subst (λ (l : List DatabaseObjects). Replays (opened (with_databases c (map emptied l))) (flat_map (database_statements c.roles) more) (opened (with_databases c (map emptied (first ++ more))))) (append-nil first)
    (each_replays (λ ds. opened (with_databases c (map emptied (first ++ ds)))) (database_statements c.roles) [] more (λ before d after e.
    let is_valid = all_at (λ x. head_is_valid c.roles (head_of x)) before d after (ap (list_all (λ x. head_is_valid c.roles (head_of x))) (sym e) ∙ valid) in
    let new = user_is_new d.oid (and_right _ _ (and_left _ _ is_valid)) in
    let front = first ++ before in
    let here = with_databases c (map emptied front) in
    let refusal = emptied_refusal c.roles front d ∙ free front d after (ap (λ (l : List DatabaseObjects). first ++ l) e ∙ sym (append_assoc first before (d ∷ after))) new in
    let all : map emptied front ++ emptied d ∷ [] ≡ map emptied (first ++ (before ++ d ∷ [])) = sym (map-append emptied front (d ∷ [])) ∙ ap (map emptied) (append_assoc first before (d ∷ [])) in
    unsystem (opened here) (opened (with_databases c (map emptied (first ++ (before ++ d ∷ []))))) (is_system_number d.oid) (flag_statements (starts_on d) d) _ new
    (subst (λ (l : List DatabaseObjects). Replays (opened here) (SetNext kinds.Database d.oid ∷ CreateDatabase d.name (role_name c.roles d.owner) ∷ flag_statements true d) (opened (with_databases c l))) all
    (new_replays here (map emptied front) d refl differ refusal))))
