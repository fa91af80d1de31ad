-- A valid catalog with no more objects than at the start is the one that its cluster starts with.
use Rattle.std.proofs.Common.{◌≡◌, ◌∙◌, ℕ, Bool, true, false, ◌&&◌, not, ◌==◌, List, [], ◌∷◌, ◌++◌, length, map, refl, sym, ap, subst, arith, if◌then◌else◌}
use Rattle.std.specs.Prelude.{nat_eq, codes}
use Rattle.std.proofs.lemmas.Bool.{eqb-true}
use Rattle.catalog.specs.declared.owners.Role.{Role}
use Rattle.catalog.specs.declared.owners.Tablespace.{Tablespace}
use Rattle.catalog.specs.declared.owners.Schema.{Schema}
use Rattle.catalog.specs.declared.enums.EnumType.{EnumType}
use Rattle.catalog.specs.declared.relations.Table.{Table}
use Rattle.catalog.specs.declared.relations.Index.{Index}
use Rattle.catalog.specs.declared.relations.Sequence.{Sequence}
use Rattle.catalog.specs.Cluster.{DatabaseObjects, Cluster, public_schema, bootstrap_role, fresh_database, first_databases, first_role, first_tablespace, started}
use Rattle.catalog.specs.Valid.{IsValid, IsValidDatabase, AreValidDatabases, DatabaseHead, head_of, first_heads}
use Rattle.catalog_checks.specs.Clusters.{has_wrong_connections}
use Rattle.catalog_checks.specs.Starting.{is_bare, is_bare_at, has_first_databases, has_first_objects}
use Rattle.catalog_checks.proofs.Validity.{front, back}

single : {A : Type 0} (xs : List A) (x : A) (more : List A) → xs ≡ x ∷ more → (length xs == 1) ≡ true → xs ≡ x ∷ []
single xs x [] is one = is
single xs x (y ∷ more) is one =
    let count : length xs ≡ 1 = eqb-true (length xs) 1 one in
    let parts : length xs ≡ length (x ∷ y ∷ more) = ap length is in
    absurd (omega arith)

empty : {A : Type 0} (xs : List A) → (length xs == 0) ≡ true → xs ≡ []
empty [] none = refl
empty (x ∷ xs) none = (let count : length (x ∷ xs) ≡ 0 = eqb-true (length (x ∷ xs)) 0 none in absurd (omega arith))

not_false : (b : Bool) → not b ≡ true → b ≡ false
not_false true e = absurd (cc e)
not_false false e = refl

not_true : (b : Bool) → not b ≡ false → b ≡ true
not_true true e = refl
not_true false e = absurd (cc e)

-- what a bare database has
record Bare (d : DatabaseObjects) : Type 0 where
  schemas : (length d.schemas == 1) ≡ true
  enums : d.enums ≡ []
  tables : d.tables ≡ []
  indexes : d.indexes ≡ []
  sequences : d.sequences ≡ []
  connections : has_wrong_connections d ≡ false

bare : (d : DatabaseObjects) → is_bare d ≡ true → Bare d
bare d is =
    let a = length d.schemas == 1 in
    let b = length d.enums == 0 in
    let t = length d.tables == 0 in
    let n = length d.indexes == 0 in
    let q = length d.sequences == 0 in
    let w = not (has_wrong_connections d) in
    let five : (a && b && t && n && q) ≡ true = front (a && b && t && n && q) w is in
    let four : (a && b && t && n) ≡ true = front (a && b && t && n) q five in
    let three : (a && b && t) ≡ true = front (a && b && t) n four in
    let two : (a && b) ≡ true = front (a && b) t three in
    record {
      schemas = front a b two;
      enums = empty d.enums (back a b two);
      tables = empty d.tables (back (a && b) t three);
      indexes = empty d.indexes (back (a && b && t) n four);
      sequences = empty d.sequences (back (a && b && t && n) q five);
      connections = not_false (has_wrong_connections d) (back (a && b && t && n && q) w is);
    }

fresh : (d : DatabaseObjects) (head : DatabaseHead) (connections : Bool) (more : List Schema) → head_of d ≡ head → d.schemas ≡ public_schema ∷ more → Bare d → d.connections ≡ connections → d ≡ fresh_database head.oid head.name head.owner connections
fresh d head connections more heads public is flag =
    let only : d.schemas ≡ public_schema ∷ [] = single d.schemas public_schema more public is.schemas in
    λ i. record {
      oid = (heads i).oid;
      name = (heads i).name;
      owner = (heads i).owner;
      connections = flag i;
      schemas = only i;
      enums = is.enums i;
      tables = is.tables i;
      indexes = is.indexes i;
      sequences = is.sequences i;
    }

-- a database that isn't `template0` has connections
flag_on : (d : DatabaseObjects) (oid : ℕ) → d.oid ≡ oid → nat_eq oid 4 ≡ false → has_wrong_connections d ≡ false → d.connections ≡ true
flag_on d oid is other right =
    let e : nat_eq d.oid 4 ≡ false = ap (λ n. nat_eq n 4) is ∙ other in
    not_true d.connections (sym (ap (λ (b : Bool). if b then d.connections else not d.connections) e) ∙ right)

flag_off : (d : DatabaseObjects) → d.oid ≡ 4 → has_wrong_connections d ≡ false → d.connections ≡ false
flag_off d is right =
    let e : nat_eq d.oid 4 ≡ true = ap (λ n. nat_eq n 4) is in
    sym (ap (λ (b : Bool). if b then d.connections else not d.connections) e) ∙ right

three : (roles : List Role) (tablespaces : List Tablespace) (a b c : DatabaseObjects) (more : List DatabaseHead) → map head_of (a ∷ b ∷ c ∷ []) ≡ first_heads ++ more → AreValidDatabases roles tablespaces (a ∷ b ∷ c ∷ [])
    → Bare a → Bare b → Bare c → a ∷ b ∷ c ∷ [] ≡ first_databases
three roles tablespaces a b c more heads valid bare_a bare_b bare_c =
    let first : head_of a ≡ record { oid = 1; name = codes "template1"; owner = bootstrap_role } = cc heads in
    let second : head_of b ≡ record { oid = 4; name = codes "template0"; owner = bootstrap_role } = cc heads in
    let third : head_of c ≡ record { oid = 5; name = codes "postgres"; owner = bootstrap_role } = cc heads in
    let one : a ≡ fresh_database 1 (codes "template1") bootstrap_role true =
    fresh a _ true valid.0.more_schemas first valid.0.public_first bare_a (flag_on a 1 (ap (λ (h : DatabaseHead). h.oid) first) refl bare_a.connections) in
    let two : b ≡ fresh_database 4 (codes "template0") bootstrap_role false =
    fresh b _ false valid.1.0.more_schemas second valid.1.0.public_first bare_b (flag_off b (ap (λ (h : DatabaseHead). h.oid) second) bare_b.connections) in
    let last : c ≡ fresh_database 5 (codes "postgres") bootstrap_role true =
    fresh c _ true valid.1.1.0.more_schemas third valid.1.1.0.public_first bare_c (flag_on c 5 (ap (λ (h : DatabaseHead). h.oid) third) refl bare_c.connections) in
    λ i. one i ∷ two i ∷ last i ∷ []

first_three : (roles : List Role) (tablespaces : List Tablespace) (ds : List DatabaseObjects) (more : List DatabaseHead) → map head_of ds ≡ first_heads ++ more → AreValidDatabases roles tablespaces ds → has_first_databases ds ≡ true → ds ≡ first_databases
first_three roles tablespaces [] more heads valid is = absurd (cc is)
first_three roles tablespaces (a ∷ []) more heads valid is = absurd (cc is)
first_three roles tablespaces (a ∷ b ∷ []) more heads valid is = absurd (cc is)
first_three roles tablespaces (a ∷ b ∷ c ∷ []) more heads valid is =
    let both : (is_bare a && is_bare b) ≡ true = front (is_bare a && is_bare b) (is_bare c) is in
    three roles tablespaces a b c more heads valid (bare a (front (is_bare a) (is_bare b) both)) (bare b (back (is_bare a) (is_bare b) both)) (bare c (back (is_bare a && is_bare b) (is_bare c) is))
first_three roles tablespaces (a ∷ b ∷ c ∷ d ∷ ds) more heads valid is =
    let count : length (a ∷ b ∷ c ∷ d ∷ ds) == 3 ≡ true =
    front (length (a ∷ b ∷ c ∷ d ∷ ds) == 3) (is_bare a) (front ((length (a ∷ b ∷ c ∷ d ∷ ds) == 3) && is_bare a) (is_bare b) (front ((length (a ∷ b ∷ c ∷ d ∷ ds) == 3) && is_bare a && is_bare b) (is_bare c) is)) in
    let n : length (a ∷ b ∷ c ∷ d ∷ ds) ≡ 3 = eqb-true (length (a ∷ b ∷ c ∷ d ∷ ds)) 3 count in
    absurd (omega arith)

pub is_started : (c : Cluster) → IsValid c → has_first_objects c ≡ true → c ≡ started c.bootstrap
is_started c valid is =
    let r = length c.roles == 1 in
    let t = length c.tablespaces == 1 in
    let counts : (r && t) ≡ true = front (r && t) (has_first_databases c.databases) is in
    let roles : c.roles ≡ first_role c.bootstrap ∷ [] = single c.roles (first_role c.bootstrap) valid.more_roles valid.roles_are (front r t counts) in
    let tablespaces : c.tablespaces ≡ first_tablespace ∷ [] = single c.tablespaces first_tablespace valid.more_tablespaces valid.tablespaces_are (back r t counts) in
    let databases : c.databases ≡ first_databases = first_three c.roles c.tablespaces c.databases valid.more_heads valid.databases_are valid.databases (back (r && t) (has_first_databases c.databases) is) in
    λ i. record { bootstrap = c.bootstrap; roles = roles i; tablespaces = tablespaces i; databases = databases i }

pub started_has : (c : Cluster) → c ≡ started c.bootstrap → has_first_objects c ≡ true
started_has c is = ap has_first_objects is
