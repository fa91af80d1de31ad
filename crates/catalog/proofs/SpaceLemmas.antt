-- A test over a space, as tests over the lists that it comes from.
use Rattle.std.proofs.Common.{◌≡◌, ℕ, Bool, List, [], ◌∷◌, ◌++◌, map, refl, ap, ◌∙◌}
use Rattle.std.specs.Prelude.{◌||◌, not, nat_eq, bytes_eq}
use Rattle.std.specs.List.{list_any, flat_map}
use Rattle.std.proofs.lemmas.List.Folds.{list_any-append}
use Rattle.catalog.specs.declared.owners.Schema.{Schema}
use Rattle.catalog.specs.declared.enums.EnumType.{EnumType}
use Rattle.catalog.specs.declared.enums.Label.{Label}
use Rattle.catalog.specs.declared.relations.Table.{Table}
use Rattle.catalog.specs.declared.relations.Index.{Index}
use Rattle.catalog.specs.declared.relations.Sequence.{Sequence}
use Rattle.catalog.specs.Lists.{are_distinct}
use Rattle.catalog.specs.Cluster.{DatabaseObjects}
use Rattle.catalog.specs.Refusals.{oids_taken, is_system_number}
use Rattle.catalog.specs.Spaces.{table_oids, relation_oids, type_oids, enum_label_oids, label_oids, SchemaName, same_name, enum_name, table_name, sequence_name, index_name, relation_names, type_names, schema_names, FilePlace, same_place, table_places, index_place, sequence_place, file_places}

pub any_map : {A B : Type 0} (p : B → Bool) (f : A → B) (xs : List A) → list_any p (map f xs) ≡ list_any (λ x. p (f x)) xs
any_map p f [] = refl
any_map p f (x ∷ xs) = ap (λ b. p (f x) || b) (any_map p f xs)

pub any_flat_map : {A B : Type 0} (p : B → Bool) (f : A → List B) (xs : List A) → list_any p (flat_map f xs) ≡ list_any (λ x. list_any p (f x)) xs
any_flat_map p f [] = refl
any_flat_map p f (x ∷ xs) = list_any-append p (f x) (flat_map f xs) ∙ ap (λ b. list_any p (f x) || b) (any_flat_map p f xs)

any_two : {A B C : Type 0} (p : C → Bool) (f : A → C) (g : B → C) (xs : List A) (ys : List B) → list_any p (map f xs ++ map g ys) ≡ (list_any (λ x. p (f x)) xs || list_any (λ y. p (g y)) ys)
any_two p f g xs ys = list_any-append p (map f xs) (map g ys) ∙ rw (any_map p f xs, any_map p g ys) refl

any_three : {A B C D : Type 0} (p : D → Bool) (f : A → D) (g : B → D) (h : C → D) (xs : List A) (ys : List B) (zs : List C)
    → list_any p (map f xs ++ (map g ys ++ map h zs)) ≡ (list_any (λ x. p (f x)) xs || (list_any (λ y. p (g y)) ys || list_any (λ z. p (h z)) zs))
any_three p f g h xs ys zs = list_any-append p (map f xs) (map g ys ++ map h zs) ∙ rw (any_map p f xs, any_two p g h ys zs) refl

any_groups : {A B C D : Type 0} (p : D → Bool) (f : A → List D) (g : B → D) (h : C → D) (xs : List A) (ys : List B) (zs : List C)
    → list_any p (flat_map f xs ++ (map g ys ++ map h zs)) ≡ (list_any (λ x. list_any p (f x)) xs || (list_any (λ y. p (g y)) ys || list_any (λ z. p (h z)) zs))
any_groups p f g h xs ys zs = list_any-append p (flat_map f xs) (map g ys ++ map h zs) ∙ rw (any_flat_map p f xs, any_two p g h ys zs) refl

pub relation_oid : (d : DatabaseObjects) (oid : ℕ) → list_any (nat_eq oid) (relation_oids d) ≡ (list_any (λ t. list_any (nat_eq oid) (table_oids t)) d.tables || (list_any (λ (i : Index). nat_eq oid i.oid) d.indexes || list_any (λ (s : Sequence). nat_eq oid s.oid) d.sequences))
unfolding relation_oids
relation_oid d oid = any_groups (nat_eq oid) table_oids (λ (i : Index). i.oid) (λ (s : Sequence). s.oid) d.tables d.indexes d.sequences

pub type_oid : (d : DatabaseObjects) (oid : ℕ) → list_any (nat_eq oid) (type_oids d) ≡ (list_any (λ (k : EnumType). nat_eq oid k.oid) d.enums || list_any (λ (t : Table). nat_eq oid t.row_type) d.tables)
unfolding type_oids
type_oid d oid = any_two (nat_eq oid) (λ (k : EnumType). k.oid) (λ (t : Table). t.row_type) d.enums d.tables

pub enum_label : (k : EnumType) (oid : ℕ) → list_any (nat_eq oid) (enum_label_oids k) ≡ list_any (λ (l : Label). nat_eq oid l.oid) k.labels
enum_label k oid = any_map (nat_eq oid) (λ (l : Label). l.oid) k.labels

pub label_oid : (d : DatabaseObjects) (oid : ℕ) → list_any (nat_eq oid) (label_oids d) ≡ list_any (λ k. list_any (nat_eq oid) (enum_label_oids k)) d.enums
unfolding label_oids
label_oid d oid = any_flat_map (nat_eq oid) enum_label_oids d.enums

pub schema_name : (d : DatabaseObjects) (name : List ℕ) → list_any (bytes_eq name) (schema_names d) ≡ list_any (λ (s : Schema). bytes_eq name s.name) d.schemas
schema_name d name = any_map (bytes_eq name) (λ (s : Schema). s.name) d.schemas

pub relation_name : (d : DatabaseObjects) (n : SchemaName) → list_any (same_name n) (relation_names d) ≡ (list_any (λ t. same_name n (table_name t)) d.tables || (list_any (λ i. same_name n (index_name d.tables i)) d.indexes || list_any (λ s. same_name n (sequence_name s)) d.sequences))
unfolding relation_names
relation_name d n = any_three (same_name n) table_name (index_name d.tables) sequence_name d.tables d.indexes d.sequences

pub type_name : (d : DatabaseObjects) (n : SchemaName) → list_any (same_name n) (type_names d) ≡ (list_any (λ k. same_name n (enum_name k)) d.enums || list_any (λ t. same_name n (table_name t)) d.tables)
unfolding type_names
type_name d n = any_two (same_name n) enum_name table_name d.enums d.tables

pub file_place : (d : DatabaseObjects) (place : FilePlace) → list_any (same_place place) (file_places d) ≡ (list_any (λ t. list_any (same_place place) (table_places t)) d.tables || (list_any (λ i. same_place place (index_place i)) d.indexes || list_any (λ s. same_place place (sequence_place s)) d.sequences))
unfolding file_places
file_place d place = any_groups (same_place place) table_places index_place sequence_place d.tables d.indexes d.sequences

distinct_map : {A B : Type 0} (same : B → B → Bool) (f : A → B) (xs : List A) → are_distinct same (map f xs) ≡ are_distinct (λ a b. same (f a) (f b)) xs
distinct_map same f [] = refl
distinct_map same f (x ∷ xs) = rw (any_map (same (f x)) f xs, distinct_map same f xs) refl

pub labels_taken : (labels : List Label) (used : List ℕ)
    → oids_taken (map (λ (l : Label). l.oid) labels) used ≡ (list_any (λ (l : Label). is_system_number l.oid) labels || (not (are_distinct (λ (a b : Label). nat_eq a.oid b.oid) labels) || list_any (λ (l : Label). list_any (nat_eq l.oid) used) labels))
labels_taken labels used =
    rw (any_map is_system_number (λ (l : Label). l.oid) labels, distinct_map nat_eq (λ (l : Label). l.oid) labels, any_map (λ x. list_any (nat_eq x) used) (λ (l : Label). l.oid) labels) refl
