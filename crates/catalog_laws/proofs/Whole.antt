-- No object of a valid catalog is refused against those before it: the whole.
use Rattle.std.proofs.Common.{◌≡◌, true, false, List, [], ◌∷◌, ◌++◌, map, None, refl, ap, subst, ◌∙◌}
use Rattle.std.specs.Prelude.{nat_eq, bytes_eq, codes}
use Rattle.std.specs.List.{list_all}
use Rattle.catalog.specs.declared.owners.Role.{Role}
use Rattle.catalog.specs.declared.owners.Tablespace.{Tablespace}
use Rattle.catalog.specs.Lists.{are_distinct}
use Rattle.catalog.specs.Cluster.{DatabaseObjects, Cluster, bootstrap_role}
use Rattle.catalog.specs.Forms.{has_role}
use Rattle.catalog.specs.Refusals.{is_system_number, role_refusal, tablespace_refusal, database_refusal}
use Rattle.catalog.specs.Valid.{AreValidDatabases, IsValidDatabase, DatabaseHead, head_of, first_heads, tablespace_is_valid, head_is_valid, IsValid}
use Rattle.catalog.proofs.ListLemmas.{and_left, and_right, and_both, or_both, all-mono, all-both, nat_eq-turned, bytes_eq-turned}
use Rattle.catalog_laws.specs.Unrefused.{EachBehind, IsUnrefusedDatabase, IsUnrefused}
use Rattle.catalog_laws.proofs.Behind
use Rattle.catalog_laws.proofs.Objects.{stands, database_unrefused}

bootstrap_stands : (c : Cluster) → IsValid c → has_role c.roles bootstrap_role ≡ true
bootstrap_stands c v = ap (λ (l : List Role). has_role l bootstrap_role) v.roles_are

role_free : (c : Cluster) → IsValid c → EachBehind (λ before role. is_system_number role.oid ≡ false → role_refusal before role ≡ None) c.roles
role_free c v before r after e user =
    let oids = subst (λ (l : List Role). are_distinct nat_eq (map (λ (x : Role). x.oid) l) ≡ true) e v.role_oids_differ in
    let names = subst (λ (l : List Role). are_distinct bytes_eq (map (λ (x : Role). x.name) l) ≡ true) e v.role_names_differ in
    Behind.uncaused refl refl (or_both _ _ user (Behind.end_free nat_eq nat_eq-turned (λ (x : Role). x.oid) [] before r after oids))
    (Behind.end_free bytes_eq bytes_eq-turned (λ (x : Role). x.name) [] before r after names) refl

tablespace_owned : (c : Cluster) → IsValid c → list_all (λ (s : Tablespace). has_role c.roles s.owner) c.tablespaces ≡ true
tablespace_owned c v =
    let more = all-mono (tablespace_is_valid c.roles) (λ (s : Tablespace). has_role c.roles s.owner) (λ s h. and_right _ _ (and_left _ _ h)) v.more_tablespaces v.tablespaces in
    ap (list_all (λ (s : Tablespace). has_role c.roles s.owner)) v.tablespaces_are ∙ and_both _ _ (bootstrap_stands c v) more

tablespace_free : (c : Cluster) → IsValid c → EachBehind (λ before tablespace. is_system_number tablespace.oid ≡ false → tablespace_refusal c.roles before tablespace ≡ None) c.tablespaces
tablespace_free c v before s after e user =
    let owned = Behind.all_at (λ (x : Tablespace). has_role c.roles x.owner) before s after (subst (λ (l : List Tablespace). list_all (λ (x : Tablespace). has_role c.roles x.owner) l ≡ true) e (tablespace_owned c v)) in
    let oids = subst (λ (l : List Tablespace). are_distinct nat_eq (map (λ (x : Tablespace). x.oid) l) ≡ true) e v.tablespace_oids_differ in
    let names = subst (λ (l : List Tablespace). are_distinct bytes_eq (codes "pg_global" ∷ map (λ (x : Tablespace). x.name) l) ≡ true) e v.tablespace_names_differ in
    Behind.uncaused (stands _ owned) refl (or_both _ _ user (Behind.end_free nat_eq nat_eq-turned (λ (x : Tablespace). x.oid) [] before s after oids))
    (Behind.end_free bytes_eq bytes_eq-turned (λ (x : Tablespace). x.name) (codes "pg_global" ∷ []) before s after names) refl

databases_owned : (c : Cluster) → IsValid c → list_all (λ (h : DatabaseHead). has_role c.roles h.owner) (map head_of c.databases) ≡ true
databases_owned c v =
    let ten = bootstrap_stands c v in
    let first : list_all (λ (h : DatabaseHead). has_role c.roles h.owner) first_heads ≡ true = and_both _ _ ten (and_both _ _ ten (and_both _ _ ten refl)) in
    let more = all-mono (head_is_valid c.roles) (λ (h : DatabaseHead). has_role c.roles h.owner) (λ h k. and_right _ _ k) v.more_heads v.heads in
    ap (list_all (λ (h : DatabaseHead). has_role c.roles h.owner)) v.databases_are ∙ all-both (λ (h : DatabaseHead). has_role c.roles h.owner) first_heads v.more_heads first more

database_free : (c : Cluster) → IsValid c → EachBehind (λ before database. is_system_number database.oid ≡ false → database_refusal c.roles before database ≡ None) c.databases
database_free c v before d after e user =
    let owned = Behind.end_holds (λ (h : DatabaseHead). has_role c.roles h.owner) head_of [] before d after (subst (λ (l : List DatabaseObjects). list_all (λ (h : DatabaseHead). has_role c.roles h.owner) (map head_of l) ≡ true) e (databases_owned c v)) in
    let oids = subst (λ (l : List DatabaseObjects). are_distinct nat_eq (map (λ (x : DatabaseObjects). x.oid) l) ≡ true) e v.database_oids_differ in
    let names = subst (λ (l : List DatabaseObjects). are_distinct bytes_eq (map (λ (x : DatabaseObjects). x.name) l) ≡ true) e v.database_names_differ in
    Behind.uncaused (stands _ owned) refl (or_both _ _ user (Behind.end_free nat_eq nat_eq-turned (λ (x : DatabaseObjects). x.oid) [] before d after oids))
    (Behind.end_free bytes_eq bytes_eq-turned (λ (x : DatabaseObjects). x.name) [] before d after names) refl

valid_at : (roles : List Role) (tablespaces : List Tablespace) (before : List DatabaseObjects) (d : DatabaseObjects) (after : List DatabaseObjects) → AreValidDatabases roles tablespaces (before ++ d ∷ after) → IsValidDatabase roles tablespaces d
valid_at roles tablespaces [] d after v = v.0
valid_at roles tablespaces (x ∷ before) d after v = valid_at roles tablespaces before d after v.1

contents_free : (c : Cluster) → IsValid c → EachBehind (λ before database. IsUnrefusedDatabase c.roles c.tablespaces database) c.databases
contents_free c v before d after e =
    database_unrefused c.roles c.tablespaces d (valid_at c.roles c.tablespaces before d after (subst (λ (l : List DatabaseObjects). AreValidDatabases c.roles c.tablespaces l) e v.databases))

pub unrefused : (c : Cluster) → IsValid c → IsUnrefused c
unrefused c v = record { roles = role_free c v; tablespaces = tablespace_free c v; databases = database_free c v; contents = contents_free c v }
