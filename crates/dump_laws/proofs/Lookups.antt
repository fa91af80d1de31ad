-- The name of what an OID stands for leads back to the OID.
use Rattle.std.proofs.Common.{◌≡◌, ℕ, Bool, true, false, cond, List, [], ◌∷◌, ◌++◌, map, Option, Some, refl, sym, ap, ◌∙◌}
use Rattle.std.specs.Prelude.{not, ◌||◌, bytes_eq, option_map}
use Rattle.std.specs.List.{list_any, find}
use Rattle.std.proofs.lemmas.Bool.{eqb-true}
use Rattle.std.proofs.lemmas.List.Folds.{list_any-append}
use Rattle.std.proofs.lemmas.Slice.Eq.{bytes_eq-Decides}
use Rattle.catalog.specs.declared.owners.Role.{Role}
use Rattle.catalog.specs.declared.owners.Tablespace.{Tablespace}
use Rattle.catalog.specs.declared.enums.EnumType.{EnumType}
use Rattle.catalog.specs.declared.relations.Table.{Table}
use Rattle.catalog.specs.Lists.{are_distinct}
use Rattle.catalog.specs.Cluster.{DatabaseObjects, Cluster}
use Rattle.catalog.specs.Spaces.{role_has, tablespace_has, enum_has, table_has, role_names, tablespace_names, SchemaName, same_name, enum_name, table_name, sequence_name, index_name, relation_names, type_names}
use Rattle.catalog.specs.Forms.{has_role, has_tablespace, has_enum}
use Rattle.catalog.specs.Lookups.{role_is, tablespace_is, enum_is, table_is}
use Rattle.catalog.proofs.ListLemmas.{and_left, and_right, and_both, or_left, or_right, not_true}
use Rattle.catalog.proofs.DatabaseLemmas.{same_name-turned}
use Rattle.dump_grammar.specs.Canonical.{role_in, role_name, tablespace_in, tablespace_name, enum_in, enum_place, table_in, table_place}
use Rattle.dump_rules.specs.Rules.{role_oid, tablespace_oid, enum_oid, table_oid}

-- ---- the first entry that passes

-- an entry that passes, where one does
pub found_one : {A : Type 0} (p : A → Bool) (xs : List A) → list_any p xs ≡ true → (x : A) × (find p xs ≡ Some x) × (p x ≡ true)
found_one p [] h = absurd cc
found_one {A = A} p (x ∷ xs) h =
    let P : Bool → Type 0 = λ b. p x ≡ b → (b || list_any p xs) ≡ true → (y : A) × (cond b (Some x) (find p xs) ≡ Some y) × (p y ≡ true) in
    elim (p x) as P [ true ↦ λ is _. (x, refl, is) | false ↦ λ _ more. found_one p xs more ] refl h

-- what is unlike all entries is unlike the one found
unlike_found : {A N : Type 0} (p : A → Bool) (name : A → N) (q : N → Bool) (xs : List A) (x : A) → list_any q (map name xs) ≡ false → find p xs ≡ Some x → q (name x) ≡ false
unlike_found p name q [] x h k = absurd cc
unlike_found p name q (y ∷ ys) x h k =
    let P : Bool → Type 0 = λ b. cond b (Some y) (find p ys) ≡ Some x → q (name x) ≡ false in
    elim (p y) as P [
      | true ↦ λ is. let same : y ≡ x = cc in ap (λ z. q (name z)) (sym same) ∙ or_left _ _ h
      | false ↦ λ more. unlike_found p name q ys x (or_right _ _ h) more
    ] k

-- where names differ, the entry found is the first of its name
pub found_again : {A N : Type 0} (same : N → N → Bool) (name : A → N) (test : A → Bool) (p : A → Bool) (xs : List A) (x : A)
    → ((y : A) → test y ≡ same (name y) (name x)) → ((n : N) → same n n ≡ true)
    → are_distinct same (map name xs) ≡ true → find p xs ≡ Some x → find test xs ≡ Some x
found_again same name test p [] x tests itself h k = k
found_again same name test p (y ∷ ys) x tests itself h k =
    let P : Bool → Type 0 = λ b. cond b (Some y) (find p ys) ≡ Some x → cond (test y) (Some y) (find test ys) ≡ Some x in
    elim (p y) as P [
      | true ↦ λ is. let e : y ≡ x = cc in let passes : test y ≡ true = tests y ∙ ap (λ z. same (name z) (name x)) e ∙ itself (name x) in rw passes is
      | false ↦ λ more. let fails : test y ≡ false = tests y ∙ unlike_found p name (same (name y)) ys x (not_true _ (and_left _ _ h)) more in rw fails (found_again same name test p ys x tests itself (and_right _ _ h) more)
    ] k

pub bytes_eq-itself : (n : List ℕ) → bytes_eq n n ≡ true
bytes_eq-itself n = (bytes_eq-Decides n n).1 refl

pub same_name-itself : (n : SchemaName) → same_name n n ≡ true
same_name-itself n = rw (bytes_eq-itself n.schema, bytes_eq-itself n.name) refl

-- ---- roles and tablespaces

pub role_again : (c : Cluster) (oid : ℕ) → are_distinct bytes_eq (role_names c.roles) ≡ true → has_role c.roles oid ≡ true → role_oid c (role_name c.roles oid) ≡ Some oid
role_again c oid differ has =
    let f = found_one (role_has oid) c.roles has in
    let again : find (role_is f.0.name) c.roles ≡ Some f.0 =
    found_again bytes_eq (λ (r : Role). r.name) (role_is f.0.name) (role_has oid) c.roles f.0 (λ y. refl) bytes_eq-itself differ f.1 in
    ap (λ (o : Option Role). option_map (λ (r : Role). r.oid) (find (role_is (role_in o)) c.roles)) f.1
    ∙ ap (option_map (λ (r : Role). r.oid)) again ∙ ap (λ (n : ℕ). Some n) (eqb-true f.0.oid oid f.2)

pub tablespace_again : (c : Cluster) (oid : ℕ) → are_distinct bytes_eq (tablespace_names c.tablespaces) ≡ true → has_tablespace c.tablespaces oid ≡ true → tablespace_oid c (tablespace_name c.tablespaces oid) ≡ Some oid
tablespace_again c oid differ has =
    let f = found_one (tablespace_has oid) c.tablespaces has in
    let again : find (tablespace_is f.0.name) c.tablespaces ≡ Some f.0 =
    found_again bytes_eq (λ (t : Tablespace). t.name) (tablespace_is f.0.name) (tablespace_has oid) c.tablespaces f.0 (λ y. refl) bytes_eq-itself (and_right _ _ differ) f.1 in
    ap (λ (o : Option Tablespace). option_map (λ (t : Tablespace). t.oid) (find (tablespace_is (tablespace_in o)) c.tablespaces)) f.1
    ∙ ap (option_map (λ (t : Tablespace). t.oid)) again ∙ ap (λ (n : ℕ). Some n) (eqb-true f.0.oid oid f.2)

-- ---- enums and tables

-- the front of a list whose entries differ
pub distinct_front : {A : Type 0} (same : A → A → Bool) (xs ys : List A) → are_distinct same (xs ++ ys) ≡ true → are_distinct same xs ≡ true
distinct_front same [] ys h = refl
distinct_front same (x ∷ xs) ys h =
    let unlike : (list_any (same x) xs || list_any (same x) ys) ≡ false = sym (list_any-append (same x) xs ys) ∙ not_true _ (and_left _ _ h) in
    and_both _ _ (ap not (or_left _ _ unlike)) (distinct_front same xs ys (and_right _ _ h))

enums_again : (enums : List EnumType) (oid : ℕ) → are_distinct same_name (map enum_name enums) ≡ true → has_enum enums oid ≡ true
    → option_map (λ (k : EnumType). k.oid) (find (enum_is (enum_place enums oid).schema (enum_place enums oid).name) enums) ≡ Some oid
enums_again enums oid differ has =
    let f = found_one (enum_has oid) enums has in
    let again : find (enum_is f.0.schema f.0.name) enums ≡ Some f.0 =
    found_again same_name enum_name (enum_is f.0.schema f.0.name) (enum_has oid) enums f.0 (λ y. same_name-turned (enum_name f.0) (enum_name y)) same_name-itself differ f.1 in
    ap (λ (o : Option EnumType). option_map (λ (k : EnumType). k.oid) (find (enum_is (enum_in o).schema (enum_in o).name) enums)) f.1
    ∙ ap (option_map (λ (k : EnumType). k.oid)) again ∙ ap (λ (n : ℕ). Some n) (eqb-true f.0.oid oid f.2)

tables_again : (tables : List Table) (oid : ℕ) → are_distinct same_name (map table_name tables) ≡ true → list_any (table_has oid) tables ≡ true
    → option_map (λ (t : Table). t.oid) (find (table_is (table_place tables oid).schema (table_place tables oid).name) tables) ≡ Some oid
tables_again tables oid differ has =
    let f = found_one (table_has oid) tables has in
    let again : find (table_is f.0.schema f.0.name) tables ≡ Some f.0 =
    found_again same_name table_name (table_is f.0.schema f.0.name) (table_has oid) tables f.0 (λ y. same_name-turned (table_name f.0) (table_name y)) same_name-itself differ f.1 in
    ap (λ (o : Option Table). option_map (λ (t : Table). t.oid) (find (table_is (table_in o).schema (table_in o).name) tables)) f.1
    ∙ ap (option_map (λ (t : Table). t.oid)) again ∙ ap (λ (n : ℕ). Some n) (eqb-true f.0.oid oid f.2)

-- the names of a database's enums differ, and those of its tables
pub enum_names_differ : (d : DatabaseObjects) → are_distinct same_name (type_names d) ≡ true → are_distinct same_name (map enum_name d.enums) ≡ true
unfolding type_names
enum_names_differ d differ = distinct_front same_name (map enum_name d.enums) (map table_name d.tables) differ

pub table_names_differ : (d : DatabaseObjects) → are_distinct same_name (relation_names d) ≡ true → are_distinct same_name (map table_name d.tables) ≡ true
unfolding relation_names
table_names_differ d differ = distinct_front same_name (map table_name d.tables) (map (index_name d.tables) d.indexes ++ map sequence_name d.sequences) differ

pub enum_again : (d : DatabaseObjects) (oid : ℕ) → are_distinct same_name (map enum_name d.enums) ≡ true → has_enum d.enums oid ≡ true
    → enum_oid d (enum_place d.enums oid).schema (enum_place d.enums oid).name ≡ Some oid
enum_again d oid differ has = enums_again d.enums oid differ has

pub table_again : (d : DatabaseObjects) (oid : ℕ) → are_distinct same_name (map table_name d.tables) ≡ true → list_any (table_has oid) d.tables ≡ true
    → table_oid d (table_place d.tables oid).schema (table_place d.tables oid).name ≡ Some oid
table_again d oid differ has = tables_again d.tables oid differ has
