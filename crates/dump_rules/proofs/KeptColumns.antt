-- A table whose columns are too many is refused as its first 1,601 are.
use Rattle.std.proofs.Common.{◌≡◌, ◌<◌, ◌≤◌, ℕ, length, arith, Bool, true, false, ◌&&◌, ◌||◌, not, nat_le, nat_lt, nat_eq, if◌then◌else◌, List, [], ◌∷◌, ◌++◌, Option, Some, None, option_map, refl, sym, ap, subst, ◌∙◌}
use Rattle.std.specs.List.{list_all, list_any, find}
use Rattle.std.proofs.lemmas.List.{take_all, take-append-le, length-take-le, length-append}
use Rattle.std.proofs.lemmas.List.Folds.{list_all-append}
use Rattle.std.proofs.lemmas.List.{take-append-drop}
use Rattle.std.proofs.lemmas.Bool.{leb-true, leb-false, lt-ltb, ltb-true, ltb-false}
use Rattle.std.proofs.lemmas.Bool.Decides.{Decides-eqb}
use Rattle.catalog.specs.declared.error.CatalogError.{CatalogError}
use Rattle.catalog.specs.declared.error.CatalogError.TheVariants.{NoSuch, TooMany}
use Rattle.catalog.specs.declared.types.ColumnKind.{ColumnKind}
use Rattle.catalog.specs.declared.types.ColumnKind.TheVariants as columns
use Rattle.catalog.specs.declared.enums.EnumType.{EnumType}
use Rattle.catalog.specs.declared.owners.Role.{Role}
use Rattle.catalog.specs.declared.owners.Tablespace.{Tablespace}
use Rattle.catalog.specs.declared.relations.Column.{Column}
use Rattle.catalog.specs.declared.relations.Table.{Table}
use Rattle.catalog.specs.Lists.{change_first}
use Rattle.catalog.specs.Cluster.{DatabaseObjects, Cluster}
use Rattle.catalog.specs.Spaces.{database_has, enum_has}
use Rattle.catalog.specs.Lookups.{enum_is}
use Rattle.catalog.specs.Forms.{column_form, has_role, has_tablespace, has_schema, kind_stands, column_stands, table_stands}
use Rattle.catalog.specs.Refusals.{first_cause, table_refusal}
use Rattle.catalog.specs.Changes.{unless, refusal_in, add_table, with_table}
use Rattle.dump_grammar.specs.declared.columns.NamedKind.{NamedKind}
use Rattle.dump_grammar.specs.declared.columns.NamedKind.TheVariants as named
use Rattle.dump_grammar.specs.declared.columns.ColumnText.{ColumnText}
use Rattle.dump_grammar.specs.Spelling.{is_column}
use Rattle.dump_rules.specs.Kept.{kept}
use Rattle.dump_rules.specs.Rules.{TableNumbers, role_oid, tablespace_oid, database_of, kind_of, column_as, column_of, joined, columns_of}
use Rattle.dump_rules.specs.Made.{table_made}
use Rattle.dump_rules.proofs.ColumnLemmas.{forms}

-- ---- one column more

more_at : (b : Bool) (front all : List Column) (c : Column) → nat_le 1601 (length all) ≡ b → length front < 1601 → front ≡ kept all → front ++ c ∷ [] ≡ kept (all ++ c ∷ [])
more_at true front all c long h e =
    let count : length front ≡ 1601 = ap length e ∙ length-take-le 1601 all (leb-true 1601 (length all) long) in
    absurd (omega (arith, h, count))
more_at false front all c long h e =
    let short : length all < 1601 = leb-false 1601 (length all) long in
    let same : front ≡ all = e ∙ take_all 1601 all (omega (arith, short)) in
    ap (λ (cs : List Column). cs ++ c ∷ []) same ∙ sym (take_all 1601 (all ++ c ∷ []) (omega (arith, short, length-append all (c ∷ []))))

pub kept_more : (front all : List Column) (c : Column) → length front < 1601 → front ≡ kept all → front ++ c ∷ [] ≡ kept (all ++ c ∷ [])
kept_more front all c h e = more_at (nat_le 1601 (length all)) front all c refl h e

full_at : (b : Bool) (front all : List Column) (c : Column) → nat_le 1601 (length all) ≡ b → 1601 ≤ length front → front ≡ kept all → front ≡ kept (all ++ c ∷ [])
full_at true front all c long h e = e ∙ sym (take-append-le 1601 all (c ∷ []) (leb-true 1601 (length all) long))
full_at false front all c long h e =
    let short : length all < 1601 = leb-false 1601 (length all) long in
    let same : front ≡ all = e ∙ take_all 1601 all (omega (arith, short)) in
    let count : length front ≡ length all = ap length same in
    absurd (omega (arith, h, short, count))

pub kept_full : (front all : List Column) (c : Column) → 1601 ≤ length front → front ≡ kept all → front ≡ kept (all ++ c ∷ [])
kept_full front all c h e = full_at (nat_le 1601 (length all)) front all c refl h e

-- ---- each column stands, since its enum was found

found_any : {A : Type 0} (p q : A → Bool) (xs : List A) (x : A) → find p xs ≡ Some x → q x ≡ true → list_any q xs ≡ true
found_any p q [] x h k = absurd cc
found_any {A = A} p q (y ∷ xs) x h k = more (p y) h (λ e. found_any p q xs x e k)
  where
    more : (b : Bool) → (if b then Some y else find p xs) ≡ Some x → (find p xs ≡ Some x → list_any q xs ≡ true) → (q y || list_any q xs) ≡ true
    more true e rest = let same : y ≡ x = cc in let passes : q y ≡ true = ap q same ∙ k in rw passes refl
    more false e rest = either (q y) (rest e)
      where
        either : (b : Bool) → list_any q xs ≡ true → (b || list_any q xs) ≡ true
        either true h = refl
        either false h = h

found_passes : {A : Type 0} (p : A → Bool) (xs : List A) (x : A) → find p xs ≡ Some x → p x ≡ true
found_passes p [] x h = absurd cc
found_passes {A = A} p (y ∷ xs) x h = more (p y) refl h (found_passes p xs x)
  where
    more : (b : Bool) → p y ≡ b → (if b then Some y else find p xs) ≡ Some x → (find p xs ≡ Some x → p x ≡ true) → p x ≡ true
    more true is e rest = let same : y ≡ x = cc in sym (ap p same) ∙ is
    more false is e rest = rest e

same_oid : (oid : ℕ) → nat_eq oid oid ≡ true
same_oid oid = (Decides-eqb oid oid).1 refl

enum_stands : (enums : List EnumType) (p : EnumType → Bool) (o : Option EnumType) (k : ColumnKind) → find p enums ≡ o → option_map columns.Enum (option_map (λ (kind : EnumType). kind.oid) o) ≡ Some k → kind_stands enums k ≡ true
enum_stands enums p None k is e = absurd cc
enum_stands enums p (Some kind) k is e =
    let made : columns.Enum kind.oid ≡ k = cc in
    subst (λ (x : ColumnKind). kind_stands enums x ≡ true) made (found_any p (enum_has kind.oid) enums kind is (same_oid kind.oid))

kind_found : (d : DatabaseObjects) (kind : NamedKind) (k : ColumnKind) → kind_of d kind ≡ Some k → kind_stands d.enums k ≡ true
kind_found d (named.Base base) k e = let made : columns.Base base ≡ k = cc in subst (λ (x : ColumnKind). kind_stands d.enums x ≡ true) made refl
kind_found d (named.Enum schema name) k e = enum_stands d.enums (enum_is schema name) (find (enum_is schema name) d.enums) k refl e
kind_found d (named.Dropped bytes align) k e = let made : columns.Dropped bytes align ≡ k = cc in subst (λ (x : ColumnKind). kind_stands d.enums x ≡ true) made refl

column_found : (d : DatabaseObjects) (x : ColumnText) (c : Column) (k : Option ColumnKind) → kind_of d x.kind ≡ k → option_map (column_as x) k ≡ Some c → column_stands d.enums c ≡ true
column_found d x c None is e = absurd cc
column_found d x c (Some kind) is e = let made : column_as x kind ≡ c = cc in subst (λ (y : Column). column_stands d.enums y ≡ true) made (kind_found d x.kind kind is)

joined_found : (d : DatabaseObjects) (x : ColumnText) (cs : List Column) (o : Option Column) (more : Option (List Column)) → column_of d x ≡ o → ((ys : List Column) → more ≡ Some ys → list_all (column_stands d.enums) ys ≡ true)
    → joined o more ≡ Some cs → list_all (column_stands d.enums) cs ≡ true
joined_found d x cs None more is on e = absurd cc
joined_found d x cs (Some c) None is on e = absurd cc
joined_found d x cs (Some c) (Some ys) is on e =
    let all : (c ∷ ys) ≡ cs = cc in
    let first : column_stands d.enums c ≡ true = column_found d x c (kind_of d x.kind) refl is in
    let rest : list_all (column_stands d.enums) ys ≡ true = on ys refl in
    subst (λ (zs : List Column). list_all (column_stands d.enums) zs ≡ true) all (rw first rest)

columns_found : (d : DatabaseObjects) (xs : List ColumnText) (cs : List Column) → columns_of d xs ≡ Some cs → list_all (column_stands d.enums) cs ≡ true
columns_found d [] cs e = let none : (let ys : List Column = [] in ys) ≡ cs = cc in subst (λ (zs : List Column). list_all (column_stands d.enums) zs ≡ true) none refl
columns_found d (x ∷ xs) cs e = joined_found d x cs (column_of d x) (columns_of d xs) refl (λ ys made. columns_found d xs ys made) e

-- ---- the forms of the columns that are kept

first_part : (a b : Bool) → (a && b) ≡ true → a ≡ true
first_part true b h = refl
first_part false b h = absurd cc

pub kept_all : (p : Column → Bool) (cs : List Column) → list_all p cs ≡ true → list_all p (kept cs) ≡ true
kept_all p cs h = first_part (list_all p (kept cs)) _ (sym (list_all-append p (kept cs) _) ∙ ap (list_all p) (take-append-drop 1601 cs) ∙ h)

-- ---- the table is refused alike

abbrev with_columns : Table → List Column → Table
with_columns table cs = record table { columns = cs }

-- why a table with too many columns is refused
abbrev many : Bool → Option CatalogError
many true = Some NoSuch
many false = Some TooMany

cause_many : (no_such a b c : Bool) → first_cause no_such true a b c ≡ many no_such
unfolding first_cause
cause_many true a b c = refl
cause_many false a b c = refl

unless_many : (no_such : Bool) (x y : Cluster) → unless (many no_such) x ≡ unless (many no_such) y
unless_many true x y = refl
unless_many false x y = refl

cause_at : (no_such as_before too_many a b c : Bool) → no_such ≡ as_before → too_many ≡ true → first_cause no_such too_many a b c ≡ many as_before
cause_at no_such as_before too_many a b c same e = rw (same, e) (cause_many as_before a b c)

refused : (roles : List Role) (tablespaces : List Tablespace) (d : DatabaseObjects) (table : Table) (cs : List Column) → list_all (column_stands d.enums) cs ≡ true → 1600 < length cs
    → table_refusal roles tablespaces d (with_columns table cs) ≡ many (not (table_stands roles tablespaces d (with_columns table [])))
refused roles tablespaces d table cs stand long =
    cause_at _ _ _ _ _ _
    (ap (λ (all : Bool). not (has_role roles table.owner && has_tablespace tablespaces table.tablespace && has_schema d.schemas table.schema && all)) stand)
    (lt-ltb 1600 (length cs) long)

abbrev made_of : Cluster → ℕ → Table → Cluster
made_of c oid table = record c { databases = change_first (database_has oid) (add_table table) c.databases }

with_found : (c : Cluster) (oid : ℕ) (d : DatabaseObjects) (table : Table) → find (database_has oid) c.databases ≡ Some d → with_table c oid table ≡ unless (table_refusal c.roles c.tablespaces d table) (made_of c oid table)
with_found c oid d table found = ap (λ (o : Option DatabaseObjects). unless (refusal_in (λ d. table_refusal c.roles c.tablespaces d table) o) (made_of c oid table)) found

found_again : (connected : Option ℕ) (c : Cluster) (d : DatabaseObjects) → database_of connected c ≡ Some d → find (database_has d.oid) c.databases ≡ Some d
found_again None c d e = absurd cc
found_again (Some oid) c d e =
    let same : d.oid ≡ oid = (Decides-eqb d.oid oid).0 (found_passes (database_has oid) c.databases d e) in
    subst (λ (n : ℕ). find (database_has n) c.databases ≡ Some d) (sym same) e

kept_at : (b : Bool) (c : Cluster) (d : DatabaseObjects) (table : Table) (cs : List Column) → nat_lt 1600 (length cs) ≡ b → find (database_has d.oid) c.databases ≡ Some d → list_all (column_stands d.enums) cs ≡ true
    → with_table c d.oid (with_columns table (kept cs)) ≡ with_table c d.oid (with_columns table cs)
kept_at false c d table cs short found stand =
    ap (λ (some : List Column). with_table c d.oid (with_columns table some)) (take_all 1601 cs (omega (arith, ltb-false 1600 (length cs) short)))
kept_at true c d table cs long found stand =
    let most : 1600 < length cs = ltb-true 1600 (length cs) long in
    let count : length (kept cs) ≡ 1601 = length-take-le 1601 cs (omega (arith, most)) in
    with_found c d.oid d (with_columns table (kept cs)) found
    ∙ ap (λ (o : Option CatalogError). unless o (made_of c d.oid (with_columns table (kept cs)))) (refused c.roles c.tablespaces d table (kept cs) (kept_all (column_stands d.enums) cs stand) (omega (arith, count)))
    ∙ unless_many _ _ _
    ∙ sym (ap (λ (o : Option CatalogError). unless o (made_of c d.oid (with_columns table cs))) (refused c.roles c.tablespaces d table cs stand most))
    ∙ sym (with_found c d.oid d (with_columns table cs) found)

-- a table is added or refused with its first columns as it is with all
pub with_kept : (c : Cluster) (connected : Option ℕ) (d : DatabaseObjects) (xs : List ColumnText) (cs : List Column) (table : Table) → database_of connected c ≡ Some d → columns_of d xs ≡ Some cs
    → with_table c d.oid (record table { columns = kept cs }) ≡ with_table c d.oid (record table { columns = cs })
with_kept c connected d xs cs table there made = kept_at (nat_lt 1600 (length cs)) c d table cs refl (found_again connected c d there) (columns_found d xs cs made)

-- ---- a table is made of its first columns

all_of : (o : Option (List Column)) (cs : List Column) → option_map kept o ≡ Some cs → (all : List Column) × (o ≡ Some all) × (kept all ≡ cs)
all_of None cs e = absurd cc
all_of (Some all) cs e = (all, refl, cc)

pub forms_kept : (d : DatabaseObjects) (xs : List ColumnText) (cs : List Column) → list_all is_column xs ≡ true → option_map kept (columns_of d xs) ≡ Some cs → list_all column_form cs ≡ true
forms_kept d xs cs h e =
    let all = all_of (columns_of d xs) cs e in
    subst (λ (some : List Column). list_all column_form some ≡ true) all.2 (kept_all column_form all.0 (forms d xs all.0 h all.1))

pub table_kept : (c : Cluster) (connected : Option ℕ) (n : TableNumbers) (schema name owner tablespace : List ℕ) (xs : List ColumnText) (d : DatabaseObjects) (database o t : ℕ) (cs : List Column)
    → database ≡ d.oid → database_of connected c ≡ Some d → role_oid c owner ≡ Some o → tablespace_oid c tablespace ≡ Some t → option_map kept (columns_of d xs) ≡ Some cs
    → table_made c connected n schema name owner tablespace xs ≡ with_table c database (record { oid = n.oid; row_type = n.row_type; schema = schema; name = name; owner = o; tablespace = t; file = n.file; toast = n.toast; columns = cs })
table_kept c connected n schema name owner tablespace xs d database o t cs same there owned spaced e =
    let all = all_of (columns_of d xs) cs e in
    let table : List Column → Table = λ columns. record { oid = n.oid; row_type = n.row_type; schema = schema; name = name; owner = o; tablespace = t; file = n.file; toast = n.toast; columns = columns } in
    rw (there, owned, spaced, all.1, same) (sym (with_kept c connected d xs all.0 (table []) there all.1) ∙ ap (λ (columns : List Column). with_table c d.oid (table columns)) all.2)
