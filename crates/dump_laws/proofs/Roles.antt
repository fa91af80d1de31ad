-- The statements of roles and of tablespaces lead to them.
use Rattle.std.proofs.Common.{◌≡◌, ℕ, Bool, true, false, cond, List, [], ◌∷◌, ◌++◌, Option, Some, None, refl, sym, ap, subst, ◌∙◌}
use Rattle.std.specs.Prelude.{bytes_eq}
use Rattle.std.specs.List.{list_all, flat_map}
use Rattle.catalog.specs.declared.owners.Role.{Role}
use Rattle.catalog.specs.declared.owners.Tablespace.{Tablespace}
use Rattle.catalog.specs.declared.error.CatalogError.{CatalogError}
use Rattle.catalog.specs.Lists.{are_distinct}
use Rattle.catalog.specs.Spaces.{role_names}
use Rattle.catalog.specs.Cluster.{Cluster, first_role, first_tablespace}
use Rattle.catalog.specs.Forms.{has_role}
use Rattle.catalog.specs.Changes.{unless, with_tablespace}
use Rattle.catalog.specs.Refusals.{is_system_number, role_refusal, tablespace_refusal}
use Rattle.catalog.specs.Valid.{is_user_number, role_is_valid, tablespace_is_valid}
use Rattle.catalog.proofs.ListLemmas.{and_left, and_right, not_true, not_false}
use Rattle.catalog.proofs.CauseLemmas.{no_cause}
use Rattle.catalog_laws.specs.Unrefused.{EachBehind}
use Rattle.dump_grammar.specs.declared.statement.NextKind.TheVariants as kinds
use Rattle.dump_grammar.specs.declared.statement.Statement.{Statement}
use Rattle.dump_grammar.specs.declared.statement.Statement.TheVariants.{SetNext, CreateRole, CreateTablespace}
use Rattle.dump_grammar.specs.Canonical.{role_name, role_statements, tablespace_statements}
use Rattle.dump_rules.specs.Rules.{State, opened, new_session, no_numbers, taken, step, Replays}
use Rattle.dump_laws.proofs.Replaying.{each_replays}
use Rattle.dump_laws.proofs.Databases.{found_role}

-- an entry at a place has what each has
pub all_at : {A : Type 0} (p : A → Bool) (before : List A) (x : A) (after : List A) → list_all p (before ++ x ∷ after) ≡ true → p x ≡ true
all_at p [] x after h = and_left _ _ h
all_at p (y ∷ ys) x after h = all_at p ys x after (and_right _ _ h)

pub user_is_new : (n : ℕ) → is_user_number n ≡ true → is_system_number n ≡ false
user_is_new n h = not_true (is_system_number n) (and_left _ _ h)

-- the statements of an object that isn't one of the start
pub unsystem : (s t : State) (b : Bool) (xs ys : List Statement) → b ≡ false → Replays s ys t → Replays s (cond b xs ys) t
unsystem s t b xs ys e h = subst (λ (c : Bool). Replays s (cond c xs ys) t) (sym e) h

-- ---- roles

-- with these roles behind the first
abbrev role_state : Cluster → List Role → State
role_state c roles = opened (record c { roles = first_role c.bootstrap ∷ roles })

role_numbered : Cluster → List Role → ℕ → State
role_numbered c roles oid = record { catalog = record c { roles = first_role c.bootstrap ∷ roles }; session = record new_session { numbers = record no_numbers { role = Some oid } } }

role_step : (c : Cluster) (before : List Role) (r : Role) → role_refusal (first_role c.bootstrap ∷ before) r ≡ None → Replays (role_state c before) (SetNext kinds.Role r.oid ∷ CreateRole r.name ∷ []) (role_state c (before ++ r ∷ []))
unfolding step role_numbered
role_step c before r free = (
  role_numbered c before r.oid,
  refl,
  (role_state c (before ++ r ∷ []), ap (λ (o : Option CatalogError). taken new_session (unless o (record c { roles = first_role c.bootstrap ∷ (before ++ r ∷ []) }))) free, refl),
)

pub roles_replay : (c : Cluster) (more : List Role) → list_all role_is_valid more ≡ true
    → EachBehind (λ before role. is_system_number role.oid ≡ false → role_refusal before role ≡ None) (first_role c.bootstrap ∷ more)
    → Replays (role_state c []) (flat_map role_statements more) (role_state c more)
roles_replay c more valid free =
    each_replays (role_state c) role_statements [] more (λ before r after e.
    let new = user_is_new r.oid (and_right _ _ (all_at role_is_valid before r after (ap (list_all role_is_valid) (sym e) ∙ valid))) in
    unsystem (role_state c before) (role_state c (before ++ r ∷ [])) (is_system_number r.oid) [] _ new
    (role_step c before r (free (first_role c.bootstrap ∷ before) r after (ap (λ (l : List Role). first_role c.bootstrap ∷ l) e) new)))

-- ---- tablespaces

abbrev space_state : Cluster → List Tablespace → State
space_state c tablespaces = opened (record c { tablespaces = first_tablespace ∷ tablespaces })

space_numbered : Cluster → List Tablespace → ℕ → State
space_numbered c tablespaces oid = record { catalog = record c { tablespaces = first_tablespace ∷ tablespaces }; session = record new_session { numbers = record no_numbers { tablespace = Some oid } } }

space_step : (c : Cluster) (before : List Tablespace) (t : Tablespace) → are_distinct bytes_eq (role_names c.roles) ≡ true → tablespace_refusal c.roles (first_tablespace ∷ before) t ≡ None
    → Replays (space_state c before) (SetNext kinds.Tablespace t.oid ∷ CreateTablespace t.name (role_name c.roles t.owner) t.location ∷ []) (space_state c (before ++ t ∷ []))
unfolding step space_numbered
space_step c before t differ free =
    let here : Cluster = record c { tablespaces = first_tablespace ∷ before } in
    let owned : has_role c.roles t.owner ≡ true = not_false _ (no_cause _ _ _ _ _ free).stands in (
      space_numbered c before t.oid,
      refl,
      (
        space_state c (before ++ t ∷ []),
        ap (taken new_session) (found_role here t.owner (λ o. with_tablespace here (record t { owner = o })) differ owned)
            ∙ ap (λ (o : Option CatalogError). taken new_session (unless o (record c { tablespaces = first_tablespace ∷ (before ++ t ∷ []) }))) free,
        refl,
      ),
    )

pub tablespaces_replay : (c : Cluster) (more : List Tablespace) → are_distinct bytes_eq (role_names c.roles) ≡ true → list_all (tablespace_is_valid c.roles) more ≡ true
    → EachBehind (λ before tablespace. is_system_number tablespace.oid ≡ false → tablespace_refusal c.roles before tablespace ≡ None) (first_tablespace ∷ more)
    → Replays (space_state c []) (flat_map (tablespace_statements c.roles) more) (space_state c more)
tablespaces_replay c more differ valid free =
    each_replays (space_state c) (tablespace_statements c.roles) [] more (λ before t after e.
    let is_valid = all_at (tablespace_is_valid c.roles) before t after (ap (list_all (tablespace_is_valid c.roles)) (sym e) ∙ valid) in
    let new = user_is_new t.oid (and_right _ _ (and_left _ _ (and_left _ _ is_valid))) in
    unsystem (space_state c before) (space_state c (before ++ t ∷ [])) (is_system_number t.oid) [] _ new
    (space_step c before t differ (free (first_tablespace ∷ before) t after (ap (λ (l : List Tablespace). first_tablespace ∷ l) e) new)))
