-- The statements of what a valid database holds can be written, and so those of a whole catalog.
use Rattle.std.proofs.Common.{◌≡◌, ◌≤◌, Bool, true, false, cond, List, [], ◌∷◌, ◌++◌, length, drop, map, Option, Some, None, refl, ap, subst, ◌∙◌}
use Rattle.std.specs.Prelude.{not, ◌&&◌, ◌||◌, nat_lt, nat_le, nat_eq}
use Rattle.std.specs.List.{list_all, list_any, find, flat_map}
use Rattle.std.proofs.lemmas.Bool.{leb-true}
use Rattle.catalog.specs.declared.owners.Role.{Role}
use Rattle.catalog.specs.declared.owners.Tablespace.{Tablespace}
use Rattle.catalog.specs.declared.owners.Schema.{Schema}
use Rattle.catalog.specs.declared.enums.Label.{Label}
use Rattle.catalog.specs.declared.enums.EnumType.{EnumType}
use Rattle.catalog.specs.declared.relations.Toast.{Toast}
use Rattle.catalog.specs.declared.relations.Table.{Table}
use Rattle.catalog.specs.declared.relations.Index.{Index}
use Rattle.catalog.specs.declared.relations.Sequence.{Sequence}
use Rattle.catalog.specs.Cluster.{DatabaseObjects, Cluster}
use Rattle.catalog.specs.Spaces.{table_has, toast_oids, table_oids, relation_oids, type_oids, enum_label_oids, label_oids, toast_files, table_files, table_places, index_place, sequence_place, place_in, file_places}
use Rattle.catalog.specs.Forms.{is_name, column_form, table_form, index_form, has_role, has_tablespace, has_schema, column_stands, enum_stands, table_stands, keys_stand, index_stands, sequence_stands, is_long, same_text, same_column}
use Rattle.catalog.specs.Lists.{are_distinct}
use Rattle.catalog.specs.Valid.{is_user_number, is_user_place, schema_is_valid, enum_is_valid, table_is_valid, index_is_valid, sequence_is_valid, IsValidDatabase, AreValidDatabases, IsValid, head_of}
use Rattle.dump_grammar.specs.Canonical.{table_in, table_place, schema_statements, label_statements, enum_statements, toast_statements, create_table, table_statements, index_statements, sequence_statements, object_statements, holds_nothing, content_statements, statements_of, is_byte_table, is_byte_database, IsWritableCatalog}
use Rattle.dump_spelling.specs.Spelled.{AreWritable}
use Rattle.dump_laws.proofs.Every.{both_true, both, Every, every, every_to, all_append, all_flat, all_map, all_to}
use Rattle.catalog.specs.Refusals.{is_system_number}
use Rattle.dump_laws.proofs.Writable.{head_fits, writable-append, writable_each, either, user_number, AreNamedRoles, is_named_tablespace, is_named_schema, is_named_enum, owner_named, space_named, schema_named, columns_are, bytes_are, keys_are, roles_named, tablespaces_named, roles_writable, tablespaces_writable, databases_writable, heads_fit}

-- what the objects of a database speak of has names
record Names (roles : List Role) (spaces : List Tablespace) : Type 0 where
  of_roles : AreNamedRoles roles
  of_spaces : list_all is_named_tablespace spaces ≡ true

-- ---- schemas

schema_writable : (roles : List Role) → AreNamedRoles roles → (s : Schema) → schema_is_valid roles s ≡ true → AreWritable (schema_statements roles s)
schema_writable roles named s h =
    let a = both_true (is_name s.name) (has_role roles s.owner) h in
    (((a.0, owner_named roles s.owner named a.1), tt), tt)

all_drop : {A : Type 0} (p : A → Bool) (xs : List A) → list_all p xs ≡ true → list_all p (drop 1 xs) ≡ true
all_drop p [] h = refl
all_drop p (x ∷ xs) h = (both_true (p x) (list_all p xs) h).1

schemas_writable : (roles : List Role) → AreNamedRoles roles → (ss : List Schema) → list_all (schema_is_valid roles) ss ≡ true → AreWritable (flat_map (schema_statements roles) ss)
schemas_writable roles named ss h =
    writable_each (schema_statements roles) ss (every_to (λ s. schema_is_valid roles s ≡ true) (λ s. AreWritable (schema_statements roles s)) (schema_writable roles named) ss (every (schema_is_valid roles) ss h))

schemas_named : (roles : List Role) (ss : List Schema) → list_all (schema_is_valid roles) ss ≡ true → list_all is_named_schema ss ≡ true
schemas_named roles ss h = all_to (schema_is_valid roles) is_named_schema (λ s k. (both_true (is_name s.name) (has_role roles s.owner) k).0) ss h

-- ---- enums

record EnumNames (roles : List Role) (k : EnumType) : Type 0 where
  schema : is_name k.schema ≡ true
  name : is_name k.name ≡ true
  owner : has_role roles k.owner ≡ true

enum_names : (roles : List Role) (d : DatabaseObjects) → list_all is_named_schema d.schemas ≡ true → (k : EnumType) → enum_is_valid roles d k ≡ true → EnumNames roles k
enum_names roles d named k h =
    let a = both_true (is_name k.name && enum_stands roles d k && not (list_any is_long k.labels)) (are_distinct same_text k.labels) h in
    let b = both_true (is_name k.name && enum_stands roles d k) (not (list_any is_long k.labels)) a.0 in
    let e = both_true (is_name k.name) (enum_stands roles d k) b.0 in
    let f = both_true (has_role roles k.owner) (has_schema d.schemas k.schema) e.1 in
    record { schema = schema_named d.schemas k.schema named f.1; name = e.0; owner = f.0 }

enums_named : (roles : List Role) (d : DatabaseObjects) → list_all is_named_schema d.schemas ≡ true → list_all (enum_is_valid roles d) d.enums ≡ true → list_all is_named_enum d.enums ≡ true
enums_named roles d named h = all_to (enum_is_valid roles d) is_named_enum (λ k v. let n = enum_names roles d named k v in both (is_name k.schema) (is_name k.name) n.schema n.name) d.enums h

labels_writable : (k : EnumType) → is_name k.schema ≡ true → is_name k.name ≡ true → (ls : List Label) → list_all is_user_number (map (λ (l : Label). l.oid) ls) ≡ true → AreWritable (flat_map (label_statements k) ls)
labels_writable k s n [] h = tt
labels_writable k s n (l ∷ ls) h =
    let a = both_true (is_user_number l.oid) (list_all is_user_number (map (λ (m : Label). m.oid) ls)) h in
    ((user_number l.oid a.0, tt), (((s, n), tt), labels_writable k s n ls a.1))

enum_writable : (roles : List Role) (k : EnumType) → AreNamedRoles roles → EnumNames roles k → is_user_number k.oid ≡ true → list_all is_user_number (enum_label_oids k) ≡ true → AreWritable (enum_statements roles k)
enum_writable roles k named n h l = ((user_number k.oid h, tt), (((n.schema, n.name, owner_named roles k.owner named n.owner), tt), labels_writable k n.schema n.name k.labels l))

-- ---- tables

record TableNumbersFit (t : Table) : Type 0 where
  row_type : is_user_number t.row_type ≡ true
  oids : list_all is_user_number (table_oids t) ≡ true
  files : list_all is_user_number (table_files t) ≡ true

toast_writable : (toast : Option Toast) → list_all is_user_number (toast_oids toast) ≡ true → list_all is_user_number (toast_files toast) ≡ true → AreWritable (toast_statements toast)
toast_writable None h k = tt
toast_writable (Some t) h k =
    let a = both_true (is_user_number t.oid) (is_user_number t.index_oid && true) h in
    let b = both_true (is_user_number t.index_oid) true a.1 in
    let e = both_true (is_user_number t.file) (is_user_number t.index_file && true) k in
    let f = both_true (is_user_number t.index_file) true e.1 in
    ((user_number t.oid a.0, tt), ((user_number t.file e.0, tt), ((user_number t.index_oid b.0, tt), ((user_number t.index_file f.0, tt), tt))))

record TableParts (roles : List Role) (spaces : List Tablespace) (d : DatabaseObjects) (t : Table) : Type 0 where
  name : is_name t.name ≡ true
  columns : list_all column_form t.columns ≡ true
  owner : has_role roles t.owner ≡ true
  space : has_tablespace spaces t.tablespace ≡ true
  schema : has_schema d.schemas t.schema ≡ true
  kinds : list_all (column_stands d.enums) t.columns ≡ true
  few : length t.columns ≤ 1600

table_parts : (roles : List Role) (spaces : List Tablespace) (d : DatabaseObjects) (t : Table) → table_is_valid roles spaces d t ≡ true → TableParts roles spaces d t
table_parts roles spaces d t h =
    let a = both_true (table_form t && table_stands roles spaces d t && nat_le (length t.columns) 1600) (are_distinct same_column t.columns) h in
    let b = both_true (table_form t && table_stands roles spaces d t) (nat_le (length t.columns) 1600) a.0 in
    let e = both_true (table_form t) (table_stands roles spaces d t) b.0 in
    let f = both_true (is_name t.name) (list_all column_form t.columns) e.0 in
    let g = both_true (has_role roles t.owner && has_tablespace spaces t.tablespace && has_schema d.schemas t.schema) (list_all (column_stands d.enums) t.columns) e.1 in
    let i = both_true (has_role roles t.owner && has_tablespace spaces t.tablespace) (has_schema d.schemas t.schema) g.0 in
    let j = both_true (has_role roles t.owner) (has_tablespace spaces t.tablespace) i.0 in
    record { name = f.0; columns = f.1; owner = j.0; space = j.1; schema = i.1; kinds = g.1; few = leb-true (length t.columns) 1600 b.1 }

table_writable : (roles : List Role) (spaces : List Tablespace) (d : DatabaseObjects) (t : Table) → Names roles spaces → list_all is_named_schema d.schemas ≡ true → list_all is_named_enum d.enums ≡ true → TableParts roles spaces d t → TableNumbersFit t → is_byte_table t ≡ true
    → AreWritable (table_statements roles spaces d.enums t)
table_writable roles spaces d t names schemas enums p n bytes =
    let oids = both_true (is_user_number t.oid) (list_all is_user_number (toast_oids t.toast)) n.oids in
    let files = both_true (is_user_number t.file) (list_all is_user_number (toast_files t.toast)) n.files in
    let made : AreWritable (create_table roles spaces d.enums t ∷ []) = (((schema_named d.schemas t.schema schemas p.schema, p.name, owner_named roles t.owner names.of_roles p.owner, space_named spaces t.tablespace names.of_spaces p.space, columns_are d.enums enums t.columns p.columns p.kinds), bytes_are d.enums t.columns bytes), tt) in
    ((user_number t.row_type n.row_type, tt), ((user_number t.oid oids.0, tt), ((user_number t.file files.0, tt), writable-append (toast_statements t.toast) (create_table roles spaces d.enums t ∷ []) (toast_writable t.toast oids.1 files.1) made)))

-- ---- indexes

-- the names of a table, and how many columns it has
record TableNames (t : Table) : Type 0 where
  schema : is_name t.schema ≡ true
  name : is_name t.name ≡ true
  few : length t.columns ≤ 1600

table_names : (roles : List Role) (spaces : List Tablespace) (d : DatabaseObjects) → list_all is_named_schema d.schemas ≡ true → (t : Table) → table_is_valid roles spaces d t ≡ true → TableNames t
table_names roles spaces d schemas t h =
    let p = table_parts roles spaces d t h in
    record { schema = schema_named d.schemas t.schema schemas p.schema; name = p.name; few = p.few }

found_next : {A : Type 0} (P : A → Type 0) (b : Bool) (y : A) (o : Option A) (x : A) → P y → (o ≡ Some x → P x) → cond b (Some y) o ≡ Some x → P x
found_next P true y o x h on e = let same : y ≡ x = cc in subst P same h
found_next P false y o x h on e = on e

found_each : {A : Type 0} (p : A → Bool) (P : A → Type 0) (xs : List A) (x : A) → Every P xs → find p xs ≡ Some x → P x
found_each p P [] x h e = absurd cc
found_each p P (y ∷ ys) x h e = found_next P (p y) y (find p ys) x h.0 (found_each p P ys x h.1) e

index_writable_over : (spaces : List Tablespace) (tables : List Table) (i : Index) (o : Option Table) → find (table_has i.table) tables ≡ o → list_all is_named_tablespace spaces ≡ true → Every TableNames tables
    → index_form i ≡ true → has_tablespace spaces i.tablespace ≡ true → keys_stand i.keys o ≡ true → is_user_number i.oid ≡ true → is_user_number i.file ≡ true → AreWritable (index_statements spaces tables i)
index_writable_over spaces tables i None e named each form space keys oid file = absurd cc
index_writable_over spaces tables i (Some t) e named each form space keys oid file =
    let n = found_each (table_has i.table) TableNames tables t each e in
    let f = both_true (is_name i.name) (nat_lt 0 (length i.keys)) form in
    let are = both (nat_lt 0 (length i.keys)) (list_all (λ k. nat_le k 65535) i.keys) f.1 (keys_are t.columns i.keys n.few keys) in
    let schema : is_name (table_place tables i.table).schema ≡ true = ap (λ (r : Option Table). is_name (table_in r).schema) e ∙ n.schema in
    let name : is_name (table_place tables i.table).name ≡ true = ap (λ (r : Option Table). is_name (table_in r).name) e ∙ n.name in
    ((user_number i.oid oid, tt), ((user_number i.file file, tt), (((f.0, schema, name, space_named spaces i.tablespace named space, are), tt), tt)))

index_writable : (spaces : List Tablespace) (tables : List Table) (i : Index) → list_all is_named_tablespace spaces ≡ true → Every TableNames tables → index_is_valid spaces tables i ≡ true → is_user_number i.oid ≡ true → is_user_number i.file ≡ true → AreWritable (index_statements spaces tables i)
index_writable spaces tables i named each h oid file =
    let a = both_true (index_form i && index_stands spaces tables i) (nat_le (length i.keys) 32) h in
    let b = both_true (index_form i) (index_stands spaces tables i) a.0 in
    let e = both_true (has_tablespace spaces i.tablespace) (keys_stand i.keys (find (table_has i.table) tables)) b.1 in
    index_writable_over spaces tables i (find (table_has i.table) tables) refl named each b.0 e.0 e.1 oid file

-- ---- sequences

sequence_writable : (roles : List Role) (d : DatabaseObjects) (s : Sequence) → AreNamedRoles roles → list_all is_named_schema d.schemas ≡ true → sequence_is_valid roles d s ≡ true → is_user_number s.oid ≡ true → is_user_number s.file ≡ true → AreWritable (sequence_statements roles s)
sequence_writable roles d s named schemas h oid file =
    let a = both_true (is_name s.name) (sequence_stands roles d s) h in
    let b = both_true (has_role roles s.owner) (has_schema d.schemas s.schema) a.1 in
    ((user_number s.oid oid, tt), ((user_number s.file file, tt), (((schema_named d.schemas s.schema schemas b.1, a.0, owner_named roles s.owner named b.0), tt), tt)))

-- ---- what a database holds

-- the numbers of each list, from those of its spaces
record NumbersFit (d : DatabaseObjects) : Type 0 where
  enums : Every (λ k. is_user_number k.oid ≡ true) d.enums
  labels : Every (λ k. list_all is_user_number (enum_label_oids k) ≡ true) d.enums
  row_types : Every (λ t. is_user_number t.row_type ≡ true) d.tables
  tables : Every (λ t. list_all is_user_number (table_oids t) ≡ true) d.tables
  files : Every (λ t. list_all is_user_number (table_files t) ≡ true) d.tables
  indexes : Every (λ i. is_user_number i.oid ≡ true) d.indexes
  index_files : Every (λ i. is_user_number i.file ≡ true) d.indexes
  sequences : Every (λ s. is_user_number s.oid ≡ true) d.sequences
  sequence_files : Every (λ s. is_user_number s.file ≡ true) d.sequences

every_map : {A B : Type 0} (p : B → Bool) (f : A → B) (xs : List A) → list_all p (map f xs) ≡ true → Every (λ x. p (f x) ≡ true) xs
every_map p f xs h = every (λ x. p (f x)) xs (all_map p f xs h)

user_places : (t : Table) → list_all is_user_place (table_places t) ≡ true → list_all is_user_number (table_files t) ≡ true
user_places t h = all_map is_user_place (place_in t.tablespace) (table_files t) h

numbers_fit : (roles : List Role) (spaces : List Tablespace) (d : DatabaseObjects) → IsValidDatabase roles spaces d → NumbersFit d
unfolding relation_oids type_oids label_oids file_places
numbers_fit roles spaces d v =
    let relations = both_true (list_all is_user_number (relation_oids d)) (are_distinct nat_eq (relation_oids d)) v.relation_oids_differ in
    let types = both_true (list_all is_user_number (type_oids d)) (are_distinct nat_eq (type_oids d)) v.type_oids_differ in
    let labels = both_true (list_all is_user_number (label_oids d)) (are_distinct nat_eq (label_oids d)) v.label_oids_differ in
    let r = all_append is_user_number (flat_map table_oids d.tables) (map (λ (i : Index). i.oid) d.indexes ++ map (λ (s : Sequence). s.oid) d.sequences) relations.0 in
    let q = all_append is_user_number (map (λ (i : Index). i.oid) d.indexes) (map (λ (s : Sequence). s.oid) d.sequences) r.1 in
    let t = all_append is_user_number (map (λ (k : EnumType). k.oid) d.enums) (map (λ (t : Table). t.row_type) d.tables) types.0 in
    let f = all_append is_user_place (flat_map table_places d.tables) (map index_place d.indexes ++ map sequence_place d.sequences) v.file_numbers in
    let g = all_append is_user_place (map index_place d.indexes) (map sequence_place d.sequences) f.1 in
    record {
      enums = every_map is_user_number (λ (k : EnumType). k.oid) d.enums t.0;
      labels = all_flat is_user_number enum_label_oids d.enums labels.0;
      row_types = every_map is_user_number (λ (t : Table). t.row_type) d.tables t.1;
      tables = all_flat is_user_number table_oids d.tables r.0;
      files = every_to (λ t. list_all is_user_place (table_places t) ≡ true) (λ t. list_all is_user_number (table_files t) ≡ true) user_places d.tables (all_flat is_user_place table_places d.tables f.0);
      indexes = every_map is_user_number (λ (i : Index). i.oid) d.indexes q.0;
      index_files = every_map is_user_place index_place d.indexes g.0;
      sequences = every_map is_user_number (λ (s : Sequence). s.oid) d.sequences q.1;
      sequence_files = every_map is_user_place sequence_place d.sequences g.1;
    }

every_three : {A : Type 0} (P Q R S : A → Type 0) → ((x : A) → P x → Q x → R x → S x) → (xs : List A) → Every P xs → Every Q xs → Every R xs → Every S xs
every_three P Q R S f [] p q r = tt
every_three P Q R S f (x ∷ xs) p q r = (f x p.0 q.0 r.0, every_three P Q R S f xs p.1 q.1 r.1)

every_row : (ts : List Table) → Every (λ t. is_user_number t.row_type ≡ true) ts → Every (λ t. list_all is_user_number (table_oids t) ≡ true) ts → Every (λ t. list_all is_user_number (table_files t) ≡ true) ts → Every TableNumbersFit ts
every_row ts = every_three (λ t. is_user_number t.row_type ≡ true) (λ t. list_all is_user_number (table_oids t) ≡ true) (λ t. list_all is_user_number (table_files t) ≡ true) TableNumbersFit (λ t p q r. record { row_type = p; oids = q; files = r }) ts

objects_writable : (roles : List Role) (spaces : List Tablespace) (d : DatabaseObjects) → Names roles spaces → IsValidDatabase roles spaces d → is_byte_database d ≡ true → AreWritable (object_statements roles spaces d)
objects_writable roles spaces d names v bytes =
    let n = numbers_fit roles spaces d v in
    let schemas = schemas_named roles d.schemas v.schemas in
    let enums = enums_named roles d schemas v.enums in
    let a = schemas_writable roles names.of_roles (drop 1 d.schemas) (all_drop (schema_is_valid roles) d.schemas v.schemas) in
    let b = writable_each (enum_statements roles) d.enums (every_three (λ k. enum_is_valid roles d k ≡ true) (λ k. is_user_number k.oid ≡ true) (λ k. list_all is_user_number (enum_label_oids k) ≡ true) (λ k. AreWritable (enum_statements roles k)) (λ k h o l. enum_writable roles k names.of_roles (enum_names roles d schemas k h) o l) d.enums (every (enum_is_valid roles d) d.enums v.enums) n.enums n.labels) in
    let e = writable_each (table_statements roles spaces d.enums) d.tables (every_three (λ t. table_is_valid roles spaces d t ≡ true) TableNumbersFit (λ t. is_byte_table t ≡ true) (λ t. AreWritable (table_statements roles spaces d.enums t)) (λ t h m w. table_writable roles spaces d t names schemas enums (table_parts roles spaces d t h) m w) d.tables (every (table_is_valid roles spaces d) d.tables v.tables) (every_row d.tables n.row_types n.tables n.files) (every is_byte_table d.tables bytes)) in
    let tables = every_to (λ t. table_is_valid roles spaces d t ≡ true) TableNames (table_names roles spaces d schemas) d.tables (every (table_is_valid roles spaces d) d.tables v.tables) in
    let f = writable_each (index_statements spaces d.tables) d.indexes (every_three (λ i. index_is_valid spaces d.tables i ≡ true) (λ i. is_user_number i.oid ≡ true) (λ i. is_user_number i.file ≡ true) (λ i. AreWritable (index_statements spaces d.tables i)) (λ i h o m. index_writable spaces d.tables i names.of_spaces tables h o m) d.indexes (every (index_is_valid spaces d.tables) d.indexes v.indexes) n.indexes n.index_files) in
    let g = writable_each (sequence_statements roles) d.sequences (every_three (λ s. sequence_is_valid roles d s ≡ true) (λ s. is_user_number s.oid ≡ true) (λ s. is_user_number s.file ≡ true) (λ s. AreWritable (sequence_statements roles s)) (λ s h o m. sequence_writable roles d s names.of_roles schemas h o m) d.sequences (every (sequence_is_valid roles d) d.sequences v.sequences) n.sequences n.sequence_files) in
    writable-append _ _ a (writable-append _ _ b (writable-append _ _ e (writable-append _ _ f g)))

content_writable : (roles : List Role) (spaces : List Tablespace) (d : DatabaseObjects) → Names roles spaces → IsValidDatabase roles spaces d → is_byte_database d ≡ true → is_name d.name ≡ true → AreWritable (content_statements roles spaces d)
content_writable roles spaces d names v bytes named =
    either (holds_nothing d) [] _ (λ _. tt) (λ _. ((named, tt), objects_writable roles spaces d names v bytes))

contents_writable : (roles : List Role) (spaces : List Tablespace) (ds : List DatabaseObjects) → Names roles spaces → AreValidDatabases roles spaces ds → list_all is_byte_database ds ≡ true → list_all (λ d. is_name d.name) ds ≡ true → AreWritable (flat_map (content_statements roles spaces) ds)
contents_writable roles spaces [] names v bytes named = tt
contents_writable roles spaces (d ∷ ds) names v bytes named =
    let a = both_true (is_byte_database d) (list_all is_byte_database ds) bytes in
    let b = both_true (is_name d.name) (list_all (λ e. is_name e.name) ds) named in
    writable-append (content_statements roles spaces d) (flat_map (content_statements roles spaces) ds) (content_writable roles spaces d names v.0 a.0 b.0) (contents_writable roles spaces ds names v.1 a.1 b.1)

-- ---- the whole

databases_named : (c : Cluster) → IsValid c → list_all (λ d. is_name d.name) c.databases ≡ true
databases_named c v =
    all_to (λ d. head_fits c.roles (head_of d)) (λ d. is_name d.name) (λ d h. (both_true (is_name d.name) (is_system_number d.oid || (is_user_number d.oid && has_role c.roles d.owner)) h).0) c.databases (heads_fit c v)

pub statements_writable : (c : Cluster) → IsValid c → IsWritableCatalog c → AreWritable (statements_of c)
statements_writable c v w =
    let names : Names c.roles c.tablespaces = record { of_roles = roles_named c v; of_spaces = tablespaces_named c v } in
    ((v.bootstrap, tt), writable-append _ _ (roles_writable c v) (writable-append _ _ (tablespaces_writable c v w.locations) (writable-append _ _ (databases_writable c v) (contents_writable c.roles c.tablespaces c.databases names v.databases w.missing_values (databases_named c v)))))
