-- The statements of a valid catalog can be written.
use Rattle.std.proofs.Common.{◌≡◌, ℕ, ◌-◌, ◌<◌, ◌≤◌, ◌^◌, Bool, true, false, cond, List, [], ◌∷◌, ◌++◌, length, map, Option, Some, None, refl, sym, ap, subst, ◌∙◌, arith}
use Rattle.std.specs.Prelude.{not, ◌&&◌, ◌||◌, nat_lt, nat_le, bytes_eq, is_some, is_none, slice_get}
use Rattle.std.specs.List.{list_all, flat_map}
use Rattle.std.proofs.lemmas.Bool.{ltb-true, le-leb}
use Rattle.std.proofs.lemmas.Slice.Eq.{bytes_eq-Decides}
use Rattle.fs_model.specs.Names.{is_name as is_file_name}
use Rattle.catalog.specs.declared.types.ColumnKind.{ColumnKind}
use Rattle.catalog.specs.declared.types.ColumnKind.TheVariants as columns
use Rattle.catalog.specs.declared.owners.Role.{Role}
use Rattle.catalog.specs.declared.owners.Tablespace.{Tablespace}
use Rattle.catalog.specs.declared.owners.Schema.{Schema}
use Rattle.catalog.specs.declared.enums.EnumType.{EnumType}
use Rattle.catalog.specs.declared.relations.Column.{Column}
use Rattle.catalog.specs.Cluster.{DatabaseObjects, Cluster, first_tablespace}
use Rattle.catalog.specs.Spaces.{role_has, tablespace_has, enum_has}
use Rattle.catalog.specs.Forms.{is_name, is_32_bits, is_length, column_form_of, column_form, has_role, has_tablespace, has_schema, has_enum, schema_is, kind_stands, column_stands, key_stands}
use Rattle.catalog.specs.Refusals.{is_system_number}
use Rattle.catalog.specs.Valid.{is_user_number, DatabaseHead, head_of, role_is_valid, tablespace_is_valid, head_is_valid, IsValid}
use Rattle.dump_grammar.specs.declared.statement.Statement.{Statement}
use Rattle.dump_grammar.specs.Spelling.{is_column, is_written_column}
use Rattle.dump_grammar.specs.Canonical.{role_name, role_in, tablespace_name, tablespace_in, enum_in, enum_place, role_statements, tablespace_statements, same_flag, flag_statements, starts_on, database_statements, kind_text, column_text, is_text_location, is_byte_column}
use Rattle.dump_spelling.specs.Spelled.{AreWritable}
use Rattle.dump_laws.proofs.Every.{both_true, both, Every, every, every_to, every_both, all_map, all_to, found, within}

-- ---- statements one after another

pub writable-append : (xs ys : List Statement) → AreWritable xs → AreWritable ys → AreWritable (xs ++ ys)
writable-append [] ys h k = k
writable-append (x ∷ xs) ys h k = (h.0, writable-append xs ys h.1 k)

pub writable_each : {A : Type 0} (f : A → List Statement) (xs : List A) → Every (λ x. AreWritable (f x)) xs → AreWritable (flat_map f xs)
writable_each f [] h = tt
writable_each f (x ∷ xs) h = writable-append (f x) (flat_map f xs) h.0 (writable_each f xs h.1)

-- ---- numbers

in_32_bits : (n : ℕ) → is_32_bits n ≡ true → n ≤ 4294967295
in_32_bits n h = let k = ltb-true n (2 ^ 32) h in omega arith

pub user_number : (n : ℕ) → is_user_number n ≡ true → n ≤ 4294967295
user_number n h = in_32_bits n (both_true (not (is_system_number n)) (is_32_bits n) h).1

-- ---- names

abbrev pub is_named_role : Role → Bool
is_named_role role = is_name role.name

abbrev pub AreNamedRoles : List Role → Type 0
AreNamedRoles roles = list_all is_named_role roles ≡ true

pub owner_named : (roles : List Role) (oid : ℕ) → AreNamedRoles roles → has_role roles oid ≡ true → is_name (role_name roles oid) ≡ true
owner_named roles oid named h =
    let f = found (role_has oid) is_named_role roles h named in
    ap (λ (r : Option Role). is_name (role_in r)) f.is ∙ f.has

abbrev pub is_named_tablespace : Tablespace → Bool
is_named_tablespace t = is_name t.name

pub space_named : (spaces : List Tablespace) (oid : ℕ) → list_all is_named_tablespace spaces ≡ true → has_tablespace spaces oid ≡ true → is_name (tablespace_name spaces oid) ≡ true
space_named spaces oid named h =
    let f = found (tablespace_has oid) is_named_tablespace spaces h named in
    ap (λ (r : Option Tablespace). is_name (tablespace_in r)) f.is ∙ f.has

abbrev pub is_named_schema : Schema → Bool
is_named_schema s = is_name s.name

pub schema_named : (schemas : List Schema) (name : List ℕ) → list_all is_named_schema schemas ≡ true → has_schema schemas name ≡ true → is_name name ≡ true
schema_named schemas name named h =
    let f = found (schema_is name) is_named_schema schemas h named in
    let same : f.entry.name ≡ name = (bytes_eq-Decides f.entry.name name).0 f.passes in
    ap is_name (sym same) ∙ f.has

abbrev pub is_named_enum : EnumType → Bool
is_named_enum k = is_name k.schema && is_name k.name

pub enum_named : (enums : List EnumType) (oid : ℕ) → list_all is_named_enum enums ≡ true → has_enum enums oid ≡ true → (is_name (enum_place enums oid).schema && is_name (enum_place enums oid).name) ≡ true
enum_named enums oid named h =
    let f = found (enum_has oid) is_named_enum enums h named in
    ap (λ (r : Option EnumType). is_name (enum_in r).schema && is_name (enum_in r).name) f.is ∙ f.has

-- ---- columns

column_is_of : (enums : List EnumType) → list_all is_named_enum enums ≡ true → (c : Column) (kind : ColumnKind) → column_form_of c kind ≡ true → kind_stands enums kind ≡ true
    → is_column (record { name = c.name; kind = kind_text enums kind; missing = c.missing }) ≡ true
column_is_of enums named c (columns.Base base) h k = h
column_is_of enums named c (columns.Enum oid) h k = both (is_name c.name) (is_name (enum_place enums oid).schema && is_name (enum_place enums oid).name) h (enum_named enums oid named k)
column_is_of enums named c (columns.Dropped long align) h k =
    let a = both_true (bytes_eq c.name [] && is_none c.missing) (is_length long) h in
    let b = both_true (bytes_eq c.name []) (is_none c.missing) a.0 in
    both (bytes_eq c.name []) (is_none c.missing && is_length long) b.0 (both (is_none c.missing) (is_length long) b.1 a.1)

pub columns_are : (enums : List EnumType) → list_all is_named_enum enums ≡ true → (cs : List Column) → list_all column_form cs ≡ true → list_all (column_stands enums) cs ≡ true → list_all is_column (map (column_text enums) cs) ≡ true
columns_are enums named [] h k = refl
columns_are enums named (c ∷ cs) h k =
    let a = both_true (column_form c) (list_all column_form cs) h in
    let b = both_true (column_stands enums c) (list_all (column_stands enums) cs) k in
    both (is_column (column_text enums c)) (list_all is_column (map (column_text enums) cs)) (column_is_of enums named c c.kind a.0 b.0) (columns_are enums named cs a.1 b.1)

pub bytes_are : (enums : List EnumType) (cs : List Column) → list_all is_byte_column cs ≡ true → list_all is_written_column (map (column_text enums) cs) ≡ true
bytes_are enums [] h = refl
bytes_are enums (c ∷ cs) h =
    let a = both_true (is_byte_column c) (list_all is_byte_column cs) h in
    both (is_byte_column c) (list_all is_written_column (map (column_text enums) cs)) a.0 (bytes_are enums cs a.1)

-- ---- keys

column_within : (cs : List Column) (i : ℕ) (o : Option Column) → slice_get cs i ≡ o → is_some o ≡ true → i < length cs
column_within cs i None e h = absurd cc
column_within cs i (Some c) e h = within cs i c e

key_is : (cs : List Column) (k : ℕ) → length cs ≤ 1600 → key_stands cs k ≡ true → nat_le k 65535 ≡ true
key_is cs k le h =
    let a = both_true (nat_lt 0 k) (is_some (slice_get cs (k - 1))) h in
    let p = ltb-true 0 k a.0 in
    let i = column_within cs (k - 1) (slice_get cs (k - 1)) refl a.1 in
    le-leb k 65535 (omega arith)

pub keys_are : (cs : List Column) (ks : List ℕ) → length cs ≤ 1600 → list_all (key_stands cs) ks ≡ true → list_all (λ k. nat_le k 65535) ks ≡ true
keys_are cs ks le h = all_to (key_stands cs) (λ k. nat_le k 65535) (λ k. key_is cs k le) ks h

-- ---- roles, tablespaces and databases

pub either : (b : Bool) (xs ys : List Statement) → (b ≡ true → AreWritable xs) → (b ≡ false → AreWritable ys) → AreWritable (cond b xs ys)
either true xs ys f g = f refl
either false xs ys f g = g refl

pub roles_named : (c : Cluster) → IsValid c → AreNamedRoles c.roles
roles_named c v = subst AreNamedRoles (sym v.roles_are) (both (is_name c.bootstrap) (list_all is_named_role v.more_roles) v.bootstrap (all_to role_is_valid is_named_role (λ r h. (both_true (is_name r.name) (is_user_number r.oid) h).0) v.more_roles v.roles))

role_writable : (r : Role) → role_is_valid r ≡ true → AreWritable (role_statements r)
role_writable r h =
    let a = both_true (is_name r.name) (is_user_number r.oid) h in
    either (is_system_number r.oid) [] _ (λ _. tt) (λ _. ((user_number r.oid a.1, tt), ((a.0, tt), tt)))

pub roles_writable : (c : Cluster) → IsValid c → AreWritable (flat_map role_statements c.roles)
roles_writable c v =
    subst (λ (rs : List Role). AreWritable (flat_map role_statements rs)) (sym v.roles_are)
    (writable_each role_statements v.more_roles (every_to (λ r. role_is_valid r ≡ true) (λ r. AreWritable (role_statements r)) role_writable v.more_roles (every role_is_valid v.more_roles v.roles)))

pub tablespaces_named : (c : Cluster) → IsValid c → list_all is_named_tablespace c.tablespaces ≡ true
tablespaces_named c v =
    subst (λ (ts : List Tablespace). list_all is_named_tablespace ts ≡ true) (sym v.tablespaces_are)
    (all_to (tablespace_is_valid c.roles) is_named_tablespace (λ t h. (both_true (is_name t.name) (is_user_number t.oid) (both_true (is_name t.name && is_user_number t.oid) (has_role c.roles t.owner) (both_true (is_name t.name && is_user_number t.oid && has_role c.roles t.owner) (list_all is_file_name t.location) h).0).0).0) v.more_tablespaces v.tablespaces)

tablespace_writable : (roles : List Role) → AreNamedRoles roles → (t : Tablespace) → (tablespace_is_valid roles t ≡ true) × (is_text_location t ≡ true) → AreWritable (tablespace_statements roles t)
tablespace_writable roles named t h =
    let a = both_true (is_name t.name && is_user_number t.oid && has_role roles t.owner) (list_all is_file_name t.location) h.0 in
    let b = both_true (is_name t.name && is_user_number t.oid) (has_role roles t.owner) a.0 in
    let d = both_true (is_name t.name) (is_user_number t.oid) b.0 in
    either (is_system_number t.oid) [] _ (λ _. tt) (λ _. ((user_number t.oid d.1, tt), (((d.0, owner_named roles t.owner named b.1, a.1), h.1), tt)))

pub tablespaces_writable : (c : Cluster) → IsValid c → list_all is_text_location c.tablespaces ≡ true → AreWritable (flat_map (tablespace_statements c.roles) c.tablespaces)
tablespaces_writable c v w =
    let f = tablespace_statements c.roles in
    let texts : list_all is_text_location (first_tablespace ∷ v.more_tablespaces) ≡ true = subst (λ (ts : List Tablespace). list_all is_text_location ts ≡ true) v.tablespaces_are w in
    let more = (both_true (is_text_location first_tablespace) (list_all is_text_location v.more_tablespaces) texts).1 in
    subst (λ (ts : List Tablespace). AreWritable (flat_map f ts)) (sym v.tablespaces_are)
    (writable_each f v.more_tablespaces (every_to (λ t. (tablespace_is_valid c.roles t ≡ true) × (is_text_location t ≡ true)) (λ t. AreWritable (f t)) (tablespace_writable c.roles (roles_named c v)) v.more_tablespaces
    (every_both (λ t. tablespace_is_valid c.roles t ≡ true) (λ t. is_text_location t ≡ true) v.more_tablespaces (every (tablespace_is_valid c.roles) v.more_tablespaces v.tablespaces) (every is_text_location v.more_tablespaces more))))

-- what the head of a database is, the three of the start among them
abbrev pub head_fits : List Role → DatabaseHead → Bool
head_fits roles head = is_name head.name && (is_system_number head.oid || (is_user_number head.oid && has_role roles head.owner))

or_right : (a b : Bool) → b ≡ true → (a || b) ≡ true
or_right true b h = refl
or_right false b h = h

or_second : (a b : Bool) → (a || b) ≡ true → a ≡ false → b ≡ true
or_second true b h k = absurd cc
or_second false b h k = h

pub heads_fit : (c : Cluster) → IsValid c → list_all (λ d. head_fits c.roles (head_of d)) c.databases ≡ true
heads_fit c v =
    let more : list_all (head_fits c.roles) v.more_heads ≡ true = all_to (head_is_valid c.roles) (head_fits c.roles) (λ head h.
    let a = both_true (is_name head.name && is_user_number head.oid) (has_role c.roles head.owner) h in
    let b = both_true (is_name head.name) (is_user_number head.oid) a.0 in
    both (is_name head.name) (is_system_number head.oid || (is_user_number head.oid && has_role c.roles head.owner)) b.0 (or_right (is_system_number head.oid) (is_user_number head.oid && has_role c.roles head.owner) (both (is_user_number head.oid) (has_role c.roles head.owner) b.1 a.1))) v.more_heads v.heads in
    all_map (head_fits c.roles) head_of c.databases (subst (λ (hs : List DatabaseHead). list_all (head_fits c.roles) hs ≡ true) (sym v.databases_are) more)

flag_writable : (starts : Bool) (d : DatabaseObjects) → is_name d.name ≡ true → AreWritable (flag_statements starts d)
flag_writable starts d named = either (same_flag d.connections starts) [] _ (λ _. tt) (λ _. ((named, tt), tt))

database_writable : (roles : List Role) → AreNamedRoles roles → (d : DatabaseObjects) → head_fits roles (head_of d) ≡ true → AreWritable (database_statements roles d)
database_writable roles named d h =
    let a = both_true (is_name d.name) (is_system_number d.oid || (is_user_number d.oid && has_role roles d.owner)) h in
    either (is_system_number d.oid) (flag_statements (starts_on d) d) _ (λ _. flag_writable (starts_on d) d a.0) (λ e.
    let b = both_true (is_user_number d.oid) (has_role roles d.owner) (or_second (is_system_number d.oid) (is_user_number d.oid && has_role roles d.owner) a.1 e) in
    ((user_number d.oid b.0, tt), (((a.0, owner_named roles d.owner named b.1), tt), flag_writable true d a.0)))

pub databases_writable : (c : Cluster) → IsValid c → AreWritable (flat_map (database_statements c.roles) c.databases)
databases_writable c v =
    let f = database_statements c.roles in
    writable_each f c.databases (every_to (λ d. head_fits c.roles (head_of d) ≡ true) (λ d. AreWritable (f d)) (database_writable c.roles (roles_named c v)) c.databases (every (λ d. head_fits c.roles (head_of d)) c.databases (heads_fit c v)))
