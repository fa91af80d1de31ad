-- A catalog with one of its databases changed.
use Rattle.std.proofs.Common.{◌≡◌, ℕ, Bool, true, false, cond, List, [], ◌∷◌, get_or, set, Option, Some, None, Result, Ok, Err, sym, ap, subst, ◌∙◌}
use Rattle.std.specs.Prelude.{is_ok, IsOk, nat_eq, bytes_eq}
use Rattle.std.specs.List.{find, position}
use Rattle.catalog.specs.declared.error.CatalogError.{CatalogError}
use Rattle.catalog.specs.declared.error.CatalogError.TheVariants.{NoSuch}
use Rattle.catalog.specs.declared.owners.Role.{Role}
use Rattle.catalog.specs.declared.owners.Tablespace.{Tablespace}
use Rattle.catalog.specs.Lists.{are_distinct, change_first}
use Rattle.catalog.specs.Cluster.{DatabaseObjects, Cluster}
use Rattle.catalog.specs.Spaces.{database_has}
use Rattle.catalog.specs.Changes.{unless, refusal_in, with_change}
use Rattle.catalog.specs.Valid.{IsValidDatabase, AreValidDatabases, DatabaseHead, head_of, IsValid}
use Rattle.catalog.proofs.ListLemmas

-- ---- what is made

pub change_made : (c : Cluster) (oid i : ℕ) (refusal : DatabaseObjects → Option CatalogError) (change : DatabaseObjects → DatabaseObjects) (d : DatabaseObjects) → position (database_has oid) c.databases ≡ Some i → refusal (get_or c.databases i d) ≡ None
    → with_change c oid refusal change ≡ Ok (record c { databases = set c.databases i (change (get_or c.databases i d)) })
change_made c oid i refusal change d found free =
    let f = ListLemmas.found_at (database_has oid) c.databases i d found in
    let made : Cluster = record c { databases = change_first (database_has oid) change c.databases } in
    let unrefused : refusal_in refusal (find (database_has oid) c.databases) ≡ None = ap (refusal_in refusal) f.entry ∙ free in
    ap (λ (o : Option CatalogError). unless o made) unrefused ∙ ap (λ (ds : List DatabaseObjects). let made : Result Cluster CatalogError = Ok (record c { databases = ds }) in made) (sym (f.written change))

pub change_refused : (c : Cluster) (oid i : ℕ) (refusal : DatabaseObjects → Option CatalogError) (change : DatabaseObjects → DatabaseObjects) (d : DatabaseObjects) (e : CatalogError) → position (database_has oid) c.databases ≡ Some i → refusal (get_or c.databases i d) ≡ Some e
    → with_change c oid refusal change ≡ Err e
change_refused c oid i refusal change d e found refused =
    let f = ListLemmas.found_at (database_has oid) c.databases i d found in
    let made : Cluster = record c { databases = change_first (database_has oid) change c.databases } in
    ap (λ (o : Option CatalogError). unless o made) (ap (refusal_in refusal) f.entry ∙ refused)

pub change_missing : (c : Cluster) (oid : ℕ) (refusal : DatabaseObjects → Option CatalogError) (change : DatabaseObjects → DatabaseObjects) → position (database_has oid) c.databases ≡ None → with_change c oid refusal change ≡ Err NoSuch
change_missing c oid refusal change missing =
    let made : Cluster = record c { databases = change_first (database_has oid) change c.databases } in
    ap (λ (o : Option CatalogError). unless o made) (ap (refusal_in refusal) (ListLemmas.none_found (database_has oid) c.databases missing))

-- ---- a valid catalog stays valid

databases_keep : (roles : List Role) (tablespaces : List Tablespace) (passes : DatabaseObjects → Bool) (change : DatabaseObjects → DatabaseObjects) (ds : List DatabaseObjects) (found : DatabaseObjects) → find passes ds ≡ Some found
    → (IsValidDatabase roles tablespaces found → IsValidDatabase roles tablespaces (change found)) → AreValidDatabases roles tablespaces ds → AreValidDatabases roles tablespaces (change_first passes change ds)
databases_keep roles tablespaces passes change [] found h keeps valid = cc
databases_keep roles tablespaces passes change (d ∷ ds) found h keeps valid = more (passes d) h (λ k. databases_keep roles tablespaces passes change ds found k keeps valid.1)
  where
    more : (b : Bool) → cond b (Some d) (find passes ds) ≡ Some found → (find passes ds ≡ Some found → AreValidDatabases roles tablespaces (change_first passes change ds)) → AreValidDatabases roles tablespaces (cond b (change d ∷ ds) (d ∷ change_first passes change ds))
    more true k rest =
        let same : found ≡ d = cc in
        (subst (λ (x : DatabaseObjects). IsValidDatabase roles tablespaces (change x)) same (keeps (subst (λ (x : DatabaseObjects). IsValidDatabase roles tablespaces x) (sym same) valid.0)), valid.1)
    more false k rest = (valid.0, rest k)

-- a change that keeps the database valid, and its OID, name and owner
pub change_keeps : (c : Cluster) (oid i : ℕ) (change : DatabaseObjects → DatabaseObjects) (d : DatabaseObjects) → IsValid c → position (database_has oid) c.databases ≡ Some i → ((x : DatabaseObjects) → head_of (change x) ≡ head_of x)
    → (IsValidDatabase c.roles c.tablespaces (get_or c.databases i d) → IsValidDatabase c.roles c.tablespaces (change (get_or c.databases i d))) → IsValid (record c { databases = set c.databases i (change (get_or c.databases i d)) })
change_keeps c oid i change d v found same keeps =
    let f = ListLemmas.found_at (database_has oid) c.databases i d found in
    let passes : DatabaseObjects → Bool = database_has oid in
    let after : List DatabaseObjects = change_first passes change c.databases in
    let valid : IsValid (record c { databases = after }) =
    record {
      more_roles = v.more_roles;
      more_tablespaces = v.more_tablespaces;
      more_heads = v.more_heads;
      bootstrap = v.bootstrap;
      roles_are = v.roles_are;
      tablespaces_are = v.tablespaces_are;
      databases_are = ListLemmas.map-change head_of passes change same c.databases ∙ v.databases_are;
      roles = v.roles;
      tablespaces = v.tablespaces;
      heads = v.heads;
      role_oids_differ = v.role_oids_differ;
      role_names_differ = v.role_names_differ;
      tablespace_oids_differ = v.tablespace_oids_differ;
      tablespace_names_differ = v.tablespace_names_differ;
      database_oids_differ = ap (are_distinct nat_eq) (ListLemmas.map-change (λ (x : DatabaseObjects). x.oid) passes change (λ x. ap (λ (h : DatabaseHead). h.oid) (same x)) c.databases) ∙ v.database_oids_differ;
      database_names_differ = ap (are_distinct bytes_eq) (ListLemmas.map-change (λ (x : DatabaseObjects). x.name) passes change (λ x. ap (λ (h : DatabaseHead). h.name) (same x)) c.databases) ∙ v.database_names_differ;
      databases = databases_keep c.roles c.tablespaces passes change c.databases (get_or c.databases i d) f.entry keeps v.databases;
    } in
    subst (λ (ds : List DatabaseObjects). IsValid (record c { databases = ds })) (sym (f.written change)) valid

-- ---- the same, of the database that a call was lent

-- what a call was lent: the database at the place that was found
pub record Lent (c : Cluster) (oid i : ℕ) (lent : DatabaseObjects) : Type 0 where
  pub place : position (database_has oid) c.databases ≡ Some i
  pub entry : lent ≡ get_or c.databases i lent

pub lent_made : (c : Cluster) (oid i : ℕ) (refusal : DatabaseObjects → Option CatalogError) (change : DatabaseObjects → DatabaseObjects) (lent left : DatabaseObjects) → Lent c oid i lent → refusal lent ≡ None → left ≡ change lent
    → with_change c oid refusal change ≡ Ok (record c { databases = set c.databases i left })
lent_made c oid i refusal change lent left at free changed =
    change_made c oid i refusal change lent at.place (subst (λ (d : DatabaseObjects). refusal d ≡ None) at.entry free)
    ∙ ap (λ (d : DatabaseObjects). let made : Result Cluster CatalogError = Ok (record c { databases = set c.databases i d }) in made) (sym (changed ∙ ap change at.entry))

pub lent_refused : (c : Cluster) (oid i : ℕ) (refusal : DatabaseObjects → Option CatalogError) (change : DatabaseObjects → DatabaseObjects) (lent : DatabaseObjects) (e : CatalogError) → Lent c oid i lent → refusal lent ≡ Some e → with_change c oid refusal change ≡ Err e
lent_refused c oid i refusal change lent e at refused =
    change_refused c oid i refusal change lent e at.place (subst (λ (d : DatabaseObjects). refusal d ≡ Some e) at.entry refused)

-- a change that isn't refused is made
pub lent_is_made : (c : Cluster) (oid i : ℕ) (refusal : DatabaseObjects → Option CatalogError) (change : DatabaseObjects → DatabaseObjects) (lent : DatabaseObjects) → Lent c oid i lent → refusal lent ≡ None → IsOk (with_change c oid refusal change)
lent_is_made c oid i refusal change lent at free =
    ap is_ok (change_made c oid i refusal change lent at.place (subst (λ (d : DatabaseObjects). refusal d ≡ None) at.entry free))

pub lent_keeps : (c : Cluster) (oid i : ℕ) (change : DatabaseObjects → DatabaseObjects) (lent left : DatabaseObjects) → IsValid c → Lent c oid i lent → ((x : DatabaseObjects) → head_of (change x) ≡ head_of x) → left ≡ change lent
    → (IsValidDatabase c.roles c.tablespaces lent → IsValidDatabase c.roles c.tablespaces (change lent)) → IsValid (record c { databases = set c.databases i left })
lent_keeps c oid i change lent left v at same changed keeps =
    subst (λ (d : DatabaseObjects). IsValid (record c { databases = set c.databases i d })) (sym (changed ∙ ap change at.entry))
    (change_keeps c oid i change lent v at.place same (subst (λ (d : DatabaseObjects). IsValidDatabase c.roles c.tablespaces d → IsValidDatabase c.roles c.tablespaces (change d)) at.entry keeps))
