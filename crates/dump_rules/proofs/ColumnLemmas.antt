-- The columns of a table, one after another.
use Rattle.std.proofs.Common.{◌≡◌, List, [], ◌∷◌, ◌++◌, Option, Some, None, ℕ, Bool, true, false, ◌&&◌, bytes_eq, option_map, is_none, refl, sym, ap, subst, ◌∙◌, append_assoc}
use Rattle.std.specs.List.{list_all}
use Rattle.catalog.specs.declared.types.ColumnKind.{ColumnKind}
use Rattle.catalog.specs.declared.types.ColumnKind.TheVariants as columns
use Rattle.catalog.specs.Forms.{is_length, column_form}
use Rattle.dump_lex.specs.Value.{is_name}
use Rattle.dump_grammar.specs.declared.columns.NamedKind.{NamedKind}
use Rattle.dump_grammar.specs.declared.columns.NamedKind.TheVariants as named
use Rattle.dump_grammar.specs.Spelling.{is_column_of, is_column}
use Rattle.catalog.specs.declared.relations.Column.{Column}
use Rattle.dump_grammar.specs.declared.columns.ColumnText.{ColumnText}
use Rattle.catalog.specs.Cluster.{DatabaseObjects}
use Rattle.dump_rules.specs.Rules.{enum_oid, kind_of, column_as, column_of, joined, columns_of}

-- columns, and those behind them
abbrev pub behind : List Column → Option (List Column) → Option (List Column)
behind front None = None
behind front (Some cs) = Some (front ++ cs)

behind_one : (front : List Column) (c : Column) (o : Option (List Column)) → behind front (joined (Some c) o) ≡ behind (front ++ c ∷ []) o
behind_one front c None = refl
behind_one front c (Some cs) = ap (λ (x : List Column). Some x) (sym (append_assoc front (c ∷ []) cs))

pub behind_none : (d : DatabaseObjects) (front : List Column) (x : ColumnText) (xs : List ColumnText) → column_of d x ≡ None → behind front (columns_of d (x ∷ xs)) ≡ None
behind_none d front x xs e = ap (λ (o : Option Column). behind front (joined o (columns_of d xs))) e

pub behind_some : (d : DatabaseObjects) (front : List Column) (x : ColumnText) (xs : List ColumnText) (c : Column) → column_of d x ≡ Some c → behind front (columns_of d (x ∷ xs)) ≡ behind (front ++ c ∷ []) (columns_of d xs)
behind_some d front x xs c e = ap (λ (o : Option Column). behind front (joined o (columns_of d xs))) e ∙ behind_one front c (columns_of d xs)

-- ---- a column as it is said has the form of a column

grouped : (a b c : Bool) → (a && (b && c)) ≡ true → (a && b && c) ≡ true
grouped true b c h = h
grouped false b c h = absurd cc

first_of : (a b : Bool) → (a && b) ≡ true → a ≡ true
first_of true b h = refl
first_of false b h = absurd cc

second_of : (a b : Bool) → (a && b) ≡ true → b ≡ true
second_of true b h = h
second_of false b h = absurd cc

enum_form : (n : List ℕ) (missing : Option (List ℕ)) (k : ColumnKind) (o : Option ℕ) → is_name n ≡ true → option_map columns.Enum o ≡ Some k → column_form (record { name = n; kind = k; missing = missing }) ≡ true
enum_form n missing k None h e = absurd cc
enum_form n missing k (Some oid) h e = let is : columns.Enum oid ≡ k = cc in subst (λ (x : ColumnKind). column_form (record { name = n; kind = x; missing = missing }) ≡ true) is h

form_at : (d : DatabaseObjects) (n : List ℕ) (missing : Option (List ℕ)) (kind : NamedKind) (k : ColumnKind) → is_column_of n missing kind ≡ true → kind_of d kind ≡ Some k
    → column_form (record { name = n; kind = k; missing = missing }) ≡ true
form_at d n missing (named.Base base) k h e = let is : columns.Base base ≡ k = cc in subst (λ (x : ColumnKind). column_form (record { name = n; kind = x; missing = missing }) ≡ true) is h
form_at d n missing (named.Enum schema kind) k h e = enum_form n missing k (enum_oid d schema kind) (first_of (is_name n) _ h) e
form_at d n missing (named.Dropped length align) k h e =
    let is : columns.Dropped length align ≡ k = cc in
    subst (λ (x : ColumnKind). column_form (record { name = n; kind = x; missing = missing }) ≡ true) is (grouped (bytes_eq n []) (is_none missing) (is_length length) h)

form_of : (d : DatabaseObjects) (x : ColumnText) (c : Column) (k : Option ColumnKind) → kind_of d x.kind ≡ k → is_column x ≡ true → option_map (column_as x) k ≡ Some c → column_form c ≡ true
form_of d x c None is h e = absurd cc
form_of d x c (Some kind) is h e = let made : column_as x kind ≡ c = cc in subst (λ (y : Column). column_form y ≡ true) made (form_at d x.name x.missing x.kind kind h is)

forms_joined : (d : DatabaseObjects) (x : ColumnText) (xs : List ColumnText) (cs : List Column) (o : Option Column) (more : Option (List Column)) → is_column x ≡ true → column_of d x ≡ o → ((ys : List Column) → more ≡ Some ys → list_all column_form ys ≡ true)
    → joined o more ≡ Some cs → list_all column_form cs ≡ true
forms_joined d x xs cs None more h is on e = absurd cc
forms_joined d x xs cs (Some c) None h is on e = absurd cc
forms_joined d x xs cs (Some c) (Some ys) h is on e =
    let all : (c ∷ ys) ≡ cs = cc in
    let first : column_form c ≡ true = form_of d x c (kind_of d x.kind) refl h is in
    let rest : list_all column_form ys ≡ true = on ys refl in
    subst (λ (zs : List Column). list_all column_form zs ≡ true) all (rw first rest)

-- the columns of a table as they are said have the form of columns
pub forms : (d : DatabaseObjects) (xs : List ColumnText) (cs : List Column) → list_all is_column xs ≡ true → columns_of d xs ≡ Some cs → list_all column_form cs ≡ true
forms d [] cs h e = let none : (let ys : List Column = [] in ys) ≡ cs = cc in subst (λ (zs : List Column). list_all column_form zs ≡ true) none refl
forms d (x ∷ xs) cs h e = forms_joined d x xs cs (column_of d x) (columns_of d xs) (first_of (is_column x) _ h) refl (λ ys made. forms d xs ys (second_of (is_column x) _ h) made) e
