-- A statement inside the database that is connected.
use Rattle.std.proofs.Common.{◌≡◌, ℕ, Bool, true, false, List, [], ◌∷◌, ◌++◌, Option, Some, None, Result, Ok, refl, ap, ◌∙◌, rules}
use Rattle.std.specs.Prelude.{nat_eq, bytes_eq}
use Rattle.std.specs.List.{list_any, find}
use Rattle.catalog.specs.declared.error.CatalogError.{CatalogError}
use Rattle.catalog.specs.Lists.{are_distinct, change_first}
use Rattle.catalog.specs.Cluster.{DatabaseObjects, Cluster}
use Rattle.catalog.specs.Spaces.{database_has, role_names, tablespace_names}
use Rattle.catalog.specs.Forms.{has_role, has_tablespace}
use Rattle.catalog.specs.Changes.{unless, refusal_in, with_change}
use Rattle.catalog.proofs.ListLemmas.{or_left, or_right}
use Rattle.dump_grammar.specs.declared.statement.NextKind.{NextKind}
use Rattle.dump_grammar.specs.declared.statement.Statement.TheVariants.{SetNext}
use Rattle.dump_grammar.specs.Canonical.{role_name, tablespace_name}
use Rattle.dump_rules.specs.declared.numbers.Numbers.{Numbers}
use Rattle.dump_rules.specs.Rules.{State, no_numbers, with_number, found, role_oid, tablespace_oid, connected_database, step}
use Rattle.dump_laws.proofs.Lookups.{role_again, tablespace_again}

-- ---- the first entry that passes stands between two parts of a list

pub find_at : {A : Type 0} (p : A → Bool) (before : List A) (x : A) (after : List A) → list_any p before ≡ false → p x ≡ true → find p (before ++ x ∷ after) ≡ Some x
find_at p [] x after h k = rw k refl
find_at p (y ∷ ys) x after h k = let other : p y ≡ false = or_left _ _ h in rw other (find_at p ys x after (or_right _ _ h) k)

pub change_at : {A : Type 0} (p : A → Bool) (change : A → A) (before : List A) (x : A) (after : List A) → list_any p before ≡ false → p x ≡ true → change_first p change (before ++ x ∷ after) ≡ before ++ change x ∷ after
change_at p change [] x after h k = rw k refl
change_at {A = A} p change (y ∷ ys) x after h k =
    let other : p y ≡ false = or_left _ _ h in
    rw other (ap (λ (l : List A). y ∷ l) (change_at p change ys x after (or_right _ _ h) k))

pub nat_eq-itself : (n : ℕ) → nat_eq n n ≡ true
nat_eq-itself n = search rules

-- ---- one database among those of a cluster

abbrev pub with_one : Cluster → List DatabaseObjects → List DatabaseObjects → DatabaseObjects → Cluster
with_one c before after d = record c { databases = before ++ d ∷ after }

-- the state while that database is filled, with these numbers set, and with none
abbrev pub numbered_within : Cluster → List DatabaseObjects → List DatabaseObjects → DatabaseObjects → Numbers → State
numbered_within c before after d numbers = record { catalog = with_one c before after d; session = record { numbers = numbers; connected = Some d.oid } }

abbrev pub within : Cluster → List DatabaseObjects → List DatabaseObjects → DatabaseObjects → State
within c before after d = numbered_within c before after d no_numbers

-- names lead back to what they stand for, and no database before has that OID
pub record IsPlace (c : Cluster) (before : List DatabaseObjects) (oid : ℕ) : Type 0 where
  pub roles_differ : are_distinct bytes_eq (role_names c.roles) ≡ true
  pub tablespaces_differ : are_distinct bytes_eq (tablespace_names c.tablespaces) ≡ true
  pub alone : list_any (database_has oid) before ≡ false

pub step_number : (c : Cluster) (before after : List DatabaseObjects) (d : DatabaseObjects) (numbers : Numbers) (kind : NextKind) (n : ℕ)
    → step (numbered_within c before after d numbers) (SetNext kind n) ≡ Ok (numbered_within c before after d (with_number kind (Some n) numbers))
unfolding step
step_number c before after d numbers kind n = refl

-- the database that is connected is that one
pub found_connected : (c : Cluster) (before after : List DatabaseObjects) (d : DatabaseObjects) (numbers : Numbers) (make : DatabaseObjects → Result Cluster CatalogError)
    → list_any (database_has d.oid) before ≡ false → found (connected_database (numbered_within c before after d numbers)) make ≡ make d
found_connected c before after d numbers make alone =
    ap (λ (o : Option DatabaseObjects). found o make) (find_at (database_has d.oid) before d after alone (nat_eq-itself d.oid))

pub found_role : (c : Cluster) (oid : ℕ) (make : ℕ → Result Cluster CatalogError) → are_distinct bytes_eq (role_names c.roles) ≡ true → has_role c.roles oid ≡ true → found (role_oid c (role_name c.roles oid)) make ≡ make oid
found_role c oid make differ has = ap (λ (o : Option ℕ). found o make) (role_again c oid differ has)

pub found_tablespace : (c : Cluster) (oid : ℕ) (make : ℕ → Result Cluster CatalogError) → are_distinct bytes_eq (tablespace_names c.tablespaces) ≡ true → has_tablespace c.tablespaces oid ≡ true
    → found (tablespace_oid c (tablespace_name c.tablespaces oid)) make ≡ make oid
found_tablespace c oid make differ has = ap (λ (o : Option ℕ). found o make) (tablespace_again c oid differ has)

-- a change that the database takes
pub changed_within : (c : Cluster) (before after : List DatabaseObjects) (d : DatabaseObjects) (refusal : DatabaseObjects → Option CatalogError) (change : DatabaseObjects → DatabaseObjects)
    → list_any (database_has d.oid) before ≡ false → refusal d ≡ None → with_change (with_one c before after d) d.oid refusal change ≡ Ok (with_one c before after (change d))
changed_within c before after d refusal change alone free =
    let made : Cluster = record c { databases = change_first (database_has d.oid) change (before ++ d ∷ after) } in
    ap (λ (o : Option DatabaseObjects). unless (refusal_in refusal o) made) (find_at (database_has d.oid) before d after alone (nat_eq-itself d.oid))
    ∙ ap (λ (o : Option CatalogError). unless o made) free
    ∙ ap (λ (l : List DatabaseObjects). Ok (record c { databases = l })) (change_at (database_has d.oid) change before d after alone (nat_eq-itself d.oid))
