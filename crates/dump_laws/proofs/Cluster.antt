-- The statements of a valid catalog lead to it.
use Rattle.std.proofs.Common.{◌≡◌, ℕ, Bool, true, false, cond, List, [], ◌∷◌, ◌++◌, map, Option, None, Ok, Err, refl, sym, ap, subst, ◌∙◌, append_assoc}
use Rattle.std.specs.Prelude.{nat_eq, bytes_eq, codes}
use Rattle.std.specs.List.{list_all, list_any, flat_map}
use Rattle.catalog.specs.declared.owners.Role.{Role}
use Rattle.catalog.specs.declared.owners.Tablespace.{Tablespace}
use Rattle.catalog.specs.Lists.{are_distinct}
use Rattle.catalog.specs.Cluster.{Cluster, DatabaseObjects, fresh_database, bootstrap_role, started}
use Rattle.catalog.specs.Spaces.{database_has, database_oids, database_names, role_names, tablespace_names}
use Rattle.catalog.specs.Lookups.{database_is}
use Rattle.catalog.specs.Refusals.{is_system_number, role_refusal, tablespace_refusal, database_refusal}
use Rattle.catalog.specs.Valid.{DatabaseHead, head_of, first_heads, head_is_valid, AreValidDatabases, IsValid}
use Rattle.catalog.proofs.ListLemmas.{and_left, and_right, or_left, or_right, not_true}
use Rattle.catalog_laws.specs.Unrefused.{EachBehind, IsUnrefusedDatabase, IsUnrefused}
use Rattle.catalog_laws.proofs.Whole.{unrefused}
use Rattle.catalog.specs.declared.error.CatalogError.TheVariants.{NoSuch}
use Rattle.dump_grammar.specs.declared.error.TextCause.TheVariants.{Catalog}
use Rattle.dump_grammar.specs.declared.statement.Statement.{Statement}
use Rattle.dump_grammar.specs.declared.statement.Statement.TheVariants.{Bootstrap}
use Rattle.dump_grammar.specs.Canonical.{role_statements, tablespace_statements, database_statements, content_statements}
use Rattle.dump_rules.specs.Rules.{State, opened, step, Replays}
use Rattle.dump_laws.specs.Replayed.{at, StatementsReplay}
use Rattle.dump_laws.proofs.Lookups.{bytes_eq-itself}
use Rattle.dump_laws.proofs.Replaying.{Replays-append}
use Rattle.dump_laws.proofs.Roles.{roles_replay, tablespaces_replay}
use Rattle.dump_laws.proofs.NewDatabases.{emptied, with_databases, more_databases_replay}
use Rattle.dump_laws.proofs.Contents.{contents_replay}
use Rattle.dump_laws.proofs.Every.{all_map}
use Rattle.std.proofs.lemmas.Grind.{flat_map-append}
use Rattle.catalog.proofs.SpaceLemmas.{any_map}
use Rattle.catalog.proofs.ListLemmas.{or_both}

-- ---- the three databases of the start

-- the list begins with databases of these heads
record Three (ds : List DatabaseObjects) (more_heads : List DatabaseHead) : Type 0 where
  a : DatabaseObjects
  b : DatabaseObjects
  e : DatabaseObjects
  more : List DatabaseObjects
  is : ds ≡ a ∷ b ∷ e ∷ more
  a_is : emptied a ≡ fresh_database 1 (codes "template1") bootstrap_role a.connections
  b_is : emptied b ≡ fresh_database 4 (codes "template0") bootstrap_role b.connections
  e_is : emptied e ≡ fresh_database 5 (codes "postgres") bootstrap_role e.connections
  more_is : map head_of more ≡ more_heads

head_is : (d : DatabaseObjects) (head : DatabaseHead) → head_of d ≡ head → emptied d ≡ fresh_database head.oid head.name head.owner d.connections
head_is d head e = λ i. fresh_database (e i).oid (e i).name (e i).owner d.connections

three : (ds : List DatabaseObjects) (more_heads : List DatabaseHead) → map head_of ds ≡ first_heads ++ more_heads → Three ds more_heads
three [] hs h = absurd cc
three (a ∷ []) hs h = absurd cc
three (a ∷ b ∷ []) hs h = absurd cc
three (a ∷ b ∷ e ∷ more) hs h =
    let p : head_of a ≡ record { oid = 1; name = codes "template1"; owner = bootstrap_role } = cc in
    let q : head_of b ≡ record { oid = 4; name = codes "template0"; owner = bootstrap_role } = cc in
    let r : head_of e ≡ record { oid = 5; name = codes "postgres"; owner = bootstrap_role } = cc in
    let s : map head_of more ≡ hs = cc in
    record {
      a = a;
      b = b;
      e = e;
      more = more;
      is = refl;
      a_is = head_is a (record { oid = 1; name = codes "template1"; owner = bootstrap_role }) p;
      b_is = head_is b (record { oid = 4; name = codes "template0"; owner = bootstrap_role }) q;
      e_is = head_is e (record { oid = 5; name = codes "postgres"; owner = bootstrap_role }) r;
      more_is = s;
    }

-- with their connections so
abbrev first_state : Cluster → Bool → Bool → Bool → State
first_state c x y z =
    opened (with_databases c (fresh_database 1 (codes "template1") bootstrap_role x ∷ fresh_database 4 (codes "template0") bootstrap_role y ∷ fresh_database 5 (codes "postgres") bootstrap_role z ∷ []))

first_flag : (c : Cluster) (x y z : Bool) → Replays (first_state c true y z) (database_statements c.roles (fresh_database 1 (codes "template1") bootstrap_role x)) (first_state c x y z)
unfolding step
first_flag c true y z = refl
first_flag c false y z = (first_state c false y z, refl, refl)

second_flag : (c : Cluster) (x y z : Bool) → Replays (first_state c x false z) (database_statements c.roles (fresh_database 4 (codes "template0") bootstrap_role y)) (first_state c x y z)
unfolding step
second_flag c x true z = (first_state c x true z, refl, refl)
second_flag c x false z = refl

third_flag : (c : Cluster) (x y z : Bool) → Replays (first_state c x y true) (database_statements c.roles (fresh_database 5 (codes "postgres") bootstrap_role z)) (first_state c x y z)
unfolding step
third_flag c x y true = refl
third_flag c x y false = (first_state c x y false, refl, refl)

flags_replay : (c : Cluster) (hs : List DatabaseHead) (t : Three c.databases hs) → Replays (first_state c true false true) (flat_map (database_statements c.roles) (t.a ∷ t.b ∷ t.e ∷ [])) (opened (with_databases c (map emptied (t.a ∷ t.b ∷ t.e ∷ []))))
flags_replay c hs t =
    let x = t.a.connections in
    let y = t.b.connections in
    let z = t.e.connections in
    let f : DatabaseObjects → List Statement = database_statements c.roles in
    let one = subst (λ (d : DatabaseObjects). Replays (first_state c true false true) (f d) (first_state c x false true)) (sym t.a_is) (first_flag c x false true) in
    let two = subst (λ (d : DatabaseObjects). Replays (first_state c x false true) (f d) (first_state c x y true)) (sym t.b_is) (second_flag c x y true) in
    let last = subst (λ (d : DatabaseObjects). Replays (first_state c x y true) (f d) (first_state c x y z)) (sym t.e_is) (third_flag c x y z) in
    let end : first_state c x y z ≡ opened (with_databases c (map emptied (t.a ∷ t.b ∷ t.e ∷ []))) = λ i. opened (with_databases c (sym t.a_is i ∷ sym t.b_is i ∷ sym t.e_is i ∷ [])) in
    subst (λ (s : State). Replays (first_state c true false true) (flat_map f (t.a ∷ t.b ∷ t.e ∷ [])) s) end
    (Replays-append (first_state c true false true) (first_state c x false true) (first_state c x y z) (f t.a) (f t.b ++ (f t.e ++ [])) one
    (Replays-append (first_state c x false true) (first_state c x y true) (first_state c x y z) (f t.b) (f t.e ++ []) two
    (Replays-append (first_state c x y true) (first_state c x y z) (first_state c x y z) (f t.e) [] last refl)))

databases_replay : (c : Cluster) → IsValid c → IsUnrefused c → Replays (first_state c true false true) (flat_map (database_statements c.roles) c.databases) (opened (with_databases c (map emptied c.databases)))
databases_replay c v u =
    let t = three c.databases v.more_heads v.databases_are in
    let first : List DatabaseObjects = t.a ∷ t.b ∷ t.e ∷ [] in
    let valid = all_map (head_is_valid c.roles) head_of t.more (ap (list_all (head_is_valid c.roles)) t.more_is ∙ v.heads) in
    let free = subst (EachBehind (λ before database. is_system_number database.oid ≡ false → database_refusal c.roles before database ≡ None)) t.is u.databases in
    let later = more_databases_replay c first t.more v.role_names_differ valid free in
    let f : DatabaseObjects → List Statement = database_statements c.roles in
    let all = Replays-append (first_state c true false true) (opened (with_databases c (map emptied first))) (opened (with_databases c (map emptied (first ++ t.more)))) (flat_map f first) (flat_map f t.more) (flags_replay c v.more_heads t) later in
    let lines : flat_map f first ++ flat_map f t.more ≡ flat_map f c.databases = sym (flat_map-append f first t.more) ∙ ap (flat_map f) (sym t.is) in
    subst (λ (ls : List Statement). Replays (first_state c true false true) ls (opened (with_databases c (map emptied c.databases)))) lines
    (subst (λ (ds : List DatabaseObjects). Replays (first_state c true false true) (flat_map f first ++ flat_map f t.more) (opened (with_databases c (map emptied ds)))) (sym t.is) all)

-- ---- what the databases hold

any_at : {A : Type 0} (p : A → Bool) (xs : List A) (y : A) (ys : List A) → list_any p (xs ++ y ∷ ys) ≡ false → p y ≡ false
any_at p [] y ys h = or_left _ _ h
any_at p (x ∷ xs) y ys h = any_at p xs y ys (or_right _ _ h)

-- of entries that differ, none before one is the same
none_before : {A B : Type 0} (same : B → B → Bool) (f : A → B) (xs : List A) (y : A) (ys : List A) → are_distinct same (map f (xs ++ y ∷ ys)) ≡ true → list_any (λ x. same (f x) (f y)) xs ≡ false
none_before same f [] y ys h = refl
none_before same f (x ∷ xs) y ys h =
    let apart = not_true _ (and_left _ _ h) in
    let here : same (f x) (f y) ≡ false = any_at (λ z. same (f x) (f z)) xs y ys (sym (any_map (same (f x)) f (xs ++ y ∷ ys)) ∙ apart) in
    or_both (same (f x) (f y)) (list_any (λ z. same (f z) (f y)) xs) here (none_before same f xs y ys (and_right _ _ h))

record Fills (c : Cluster) : Type 0 where
  roles_differ : are_distinct bytes_eq (role_names c.roles) ≡ true
  spaces_differ : are_distinct bytes_eq (tablespace_names c.tablespaces) ≡ true
  oids_differ : are_distinct nat_eq (database_oids c.databases) ≡ true
  names_differ : are_distinct bytes_eq (database_names c.databases) ≡ true
  free : EachBehind (λ before database. IsUnrefusedDatabase c.roles c.tablespaces database) c.databases

contents_from : (c : Cluster) → Fills c → (before ds : List DatabaseObjects) (n : Option ℕ) → c.databases ≡ before ++ ds → AreValidDatabases c.roles c.tablespaces ds
    → (m : Option ℕ) × Replays (at (with_databases c (before ++ map emptied ds)) n) (flat_map (content_statements c.roles c.tablespaces) ds) (at (with_databases c (before ++ ds)) m)
contents_from c f before [] n is valid = (n, refl)
contents_from c f before (d ∷ ds) n is valid =
    let unused : list_any (database_has d.oid) before ≡ false = none_before nat_eq (λ (x : DatabaseObjects). x.oid) before d ds (subst (λ (l : List DatabaseObjects). are_distinct nat_eq (database_oids l) ≡ true) is f.oids_differ) in
    let unnamed : list_any (database_is d.name) before ≡ false = none_before bytes_eq (λ (x : DatabaseObjects). x.name) before d ds (subst (λ (l : List DatabaseObjects). are_distinct bytes_eq (database_names l) ≡ true) is f.names_differ) in
    let here : Cluster = with_databases c (before ++ map emptied (d ∷ ds)) in
    let one = contents_replay here before (map emptied ds) d n refl unused unnamed f.roles_differ f.spaces_differ valid.0 (f.free before d ds is) in
    let joined : before ++ d ∷ ds ≡ (before ++ d ∷ []) ++ ds = sym (append_assoc before (d ∷ []) ds) in
    let later = contents_from c f (before ++ d ∷ []) ds one.0 (is ∙ joined) valid.1 in
    let f = content_statements c.roles c.tablespaces in
    let middle : (before ++ d ∷ []) ++ map emptied ds ≡ before ++ d ∷ map emptied ds = append_assoc before (d ∷ []) (map emptied ds) in
    let rest : Replays (at (with_databases c (before ++ d ∷ map emptied ds)) one.0) (flat_map f ds) (at (with_databases c (before ++ d ∷ ds)) later.0) =
    subst (λ (l : List DatabaseObjects). Replays (at (with_databases c (before ++ d ∷ map emptied ds)) one.0) (flat_map f ds) (at (with_databases c l) later.0)) (sym joined)
    (subst (λ (l : List DatabaseObjects). Replays (at (with_databases c l) one.0) (flat_map f ds) (at (with_databases c ((before ++ d ∷ []) ++ ds)) later.0)) middle later.1) in
    (later.0, Replays-append (at here n) (at (with_databases c (before ++ d ∷ map emptied ds)) one.0) (at (with_databases c (before ++ d ∷ ds)) later.0) (f d) (flat_map f ds) one.1 rest)

-- ---- the whole

pub step_bootstrap : (c : Cluster) → step (opened (started c.bootstrap)) (Bootstrap c.bootstrap) ≡ Ok (opened (started c.bootstrap))
unfolding step
step_bootstrap c = ap (λ (b : Bool). cond b (Ok (opened (started c.bootstrap))) (Err (Catalog NoSuch))) (bytes_eq-itself c.bootstrap)

-- with the roles, and with the tablespaces too
abbrev with_roles : Cluster → Cluster
with_roles c = record (started c.bootstrap) { roles = c.roles }

abbrev with_spaces : Cluster → Cluster
with_spaces c = record (with_roles c) { tablespaces = c.tablespaces }

all_roles : (c : Cluster) → IsValid c → IsUnrefused c → Replays (opened (started c.bootstrap)) (flat_map role_statements c.roles) (opened (with_roles c))
all_roles c v u =
    let begins : State = opened (started c.bootstrap) in
    let free = subst (EachBehind (λ before role. is_system_number role.oid ≡ false → role_refusal before role ≡ None)) v.roles_are u.roles in
    let made = roles_replay (started c.bootstrap) v.more_roles v.roles free in
    subst (λ (rs : List Role). Replays begins (flat_map role_statements rs) (opened (record (started c.bootstrap) { roles = rs }))) (sym v.roles_are) made

all_tablespaces : (c : Cluster) → IsValid c → IsUnrefused c → Replays (opened (with_roles c)) (flat_map (tablespace_statements c.roles) c.tablespaces) (opened (with_spaces c))
all_tablespaces c v u =
    let free = subst (EachBehind (λ before tablespace. is_system_number tablespace.oid ≡ false → tablespace_refusal c.roles before tablespace ≡ None)) v.tablespaces_are u.tablespaces in
    let made = tablespaces_replay (with_roles c) v.more_tablespaces v.role_names_differ v.tablespaces free in
    subst (λ (ts : List Tablespace). Replays (opened (with_roles c)) (flat_map (tablespace_statements c.roles) ts) (opened (record (with_roles c) { tablespaces = ts }))) (sym v.tablespaces_are) made

pub statements_replay : StatementsReplay
statements_replay c v =
    let u = unrefused c v in
    let fills : Fills c = record { roles_differ = v.role_names_differ; spaces_differ = v.tablespace_names_differ; oids_differ = v.database_oids_differ; names_differ = v.database_names_differ; free = u.contents } in
    let contents = contents_from c fills [] c.databases None refl v.databases in
    let begins : State = opened (started c.bootstrap) in
    let fresh : State = opened (with_databases c (map emptied c.databases)) in
    let end : State = at c contents.0 in
    let databases = Replays-append (opened (with_spaces c)) fresh end (flat_map (database_statements c.roles) c.databases) (flat_map (content_statements c.roles c.tablespaces) c.databases) (databases_replay c v u) contents.1 in
    let spaces = Replays-append (opened (with_roles c)) (opened (with_spaces c)) end (flat_map (tablespace_statements c.roles) c.tablespaces) _ (all_tablespaces c v u) databases in
    let all = Replays-append begins (opened (with_roles c)) end (flat_map role_statements c.roles) _ (all_roles c v u) spaces in
    (contents.0, (begins, step_bootstrap c, all))
