-- What isn't refused shares no key with what stands.
use Rattle.std.proofs.Common.{◌≡◌, ℕ, Bool, true, false, cond, List, [], ◌∷◌, Option, Some, None, refl, sym, ap, subst, ◌∙◌}
use Rattle.std.specs.Prelude.{◌&&◌, ◌||◌, not, nat_eq, bytes_eq}
use Rattle.std.specs.List.{list_any, find}
use Rattle.std.proofs.lemmas.Bool.Decides.{Decides-eqb}
use Rattle.std.proofs.lemmas.Slice.Eq.{bytes_eq-Decides}
use Rattle.catalog.specs.declared.owners.Role.{Role}
use Rattle.catalog.specs.declared.owners.Tablespace.{Tablespace}
use Rattle.catalog.specs.declared.owners.Schema.{Schema}
use Rattle.catalog.specs.declared.enums.Label.{Label}
use Rattle.catalog.specs.declared.enums.EnumType.{EnumType}
use Rattle.catalog.specs.declared.relations.Table.{Table}
use Rattle.catalog.specs.declared.relations.Index.{Index}
use Rattle.catalog.specs.declared.relations.Sequence.{Sequence}
use Rattle.catalog.specs.Lists.{are_distinct}
use Rattle.catalog.specs.Cluster.{DatabaseObjects}
use Rattle.catalog.specs.Spaces.{SchemaName, FilePlace, same_name, same_place, place_in, table_oids, table_name, table_files, table_places, index_name, index_place, sequence_name, sequence_place, enum_name, enum_label_oids, enum_has, table_has, relation_oids, type_oids, label_oids, file_places}
use Rattle.catalog.specs.Forms.{has_tablespace, keys_stand}
use Rattle.catalog.specs.Refusals.{is_system_number, oid_taken, schema_refusal, enum_refusal, label_refusal, label_refusal_in, table_refusal, index_refusal, sequence_refusal}
use Rattle.catalog.specs.Known.{TableIsFree, SequenceIsFree, IndexIsFree, EnumIsFree, LabelIsFree, SchemaIsFree, index_of_name, has_table}
use Rattle.catalog.proofs.ListLemmas.{and_left, and_right, or_left, or_right, not_false}
use Rattle.catalog.proofs.SpaceLemmas
use Rattle.catalog.proofs.CauseLemmas.{no_cause}
use Rattle.catalog.proofs.KnownLemmas.{file_among}

each_unused : (p : ℕ → Bool) (ns : List ℕ) (k : ℕ) → list_any p ns ≡ false → list_any (nat_eq k) ns ≡ true → p k ≡ false
each_unused p [] k h l = cc
each_unused p (n ∷ ns) k h l = more (nat_eq k n) refl l (each_unused p ns k (or_right (p n) (list_any p ns) h))
  where
    more : (b : Bool) → nat_eq k n ≡ b → (b || list_any (nat_eq k) ns) ≡ true → (list_any (nat_eq k) ns ≡ true → p k ≡ false) → p k ≡ false
    more true e m rest = ap p ((Decides-eqb k n).0 e) ∙ or_left _ _ h
    more false e m rest = rest m

same_number : (k n : ℕ) → nat_eq k n ≡ true → k ≡ n
same_number k n h = (Decides-eqb k n).0 h

one_name : (a b : SchemaName) → same_name a b ≡ true → a ≡ b
one_name a b h =
    let schemas = (bytes_eq-Decides a.schema b.schema).0 (and_left _ _ h) in
    let names = (bytes_eq-Decides a.name b.name).0 (and_right _ _ h) in
    λ i. record { schema = schemas i; name = names i }

one_place : (a b : FilePlace) → same_place a b ≡ true → a ≡ b
one_place a b h =
    let tablespaces = same_number a.tablespace b.tablespace (and_left _ _ h) in
    let numbers = same_number a.number b.number (and_right _ _ h) in
    λ i. record { tablespace = tablespaces i; number = numbers i }

any_of_found : {A : Type 0} (p : A → Bool) (xs : List A) (x : A) → find p xs ≡ Some x → list_any p xs ≡ true
any_of_found p [] x h = cc
any_of_found p (y ∷ xs) x h = more (p y) h (any_of_found p xs x)
  where
    more : (b : Bool) → cond b (Some y) (find p xs) ≡ Some x → (find p xs ≡ Some x → list_any p xs ≡ true) → (b || list_any p xs) ≡ true
    more true k rest = refl
    more false k rest = rest k

pub table_free : (roles : List Role) (tablespaces : List Tablespace) (d : DatabaseObjects) (t : Table) → table_refusal roles tablespaces d t ≡ None → TableIsFree d.tables t
table_free roles tablespaces d t free =
    let f = no_cause _ _ _ _ _ free in
    record {
      oids = λ k h. or_left _ _ (sym (SpaceLemmas.relation_oid d k) ∙ each_unused (λ n. list_any (nat_eq n) (relation_oids d)) (table_oids t) k (or_right _ _ (or_right _ _ (or_left _ _ f.oids))) h);
      row_type = λ k h. or_right _ _ (sym (SpaceLemmas.type_oid d k) ∙ ap (λ n. list_any (nat_eq n) (type_oids d)) (same_number k t.row_type h) ∙ or_right _ _ (or_right _ _ f.oids));
      name = λ k h. subst (λ (n : SchemaName). list_any (λ (x : Table). same_name n (table_name x)) d.tables ≡ false) (sym (one_name k (table_name t) h)) (or_left _ _ (sym (SpaceLemmas.relation_name d (table_name t)) ∙ or_left _ _ f.names));
      files = λ k h. table_file_free k (sym (file_among k t.tablespace (table_files t)) ∙ h) (or_right _ _ (or_right _ _ f.files));
    }
  where
    table_file_free : (k : FilePlace) → (nat_eq k.tablespace t.tablespace && list_any (nat_eq k.number) (table_files t)) ≡ true → list_any (λ n. list_any (same_place (place_in t.tablespace n)) (file_places d)) (table_files t) ≡ false
        → list_any (λ (x : Table). list_any (same_place k) (table_places x)) d.tables ≡ false
    table_file_free k h unused =
        let there : k ≡ place_in t.tablespace k.number = λ i. record { tablespace = same_number k.tablespace t.tablespace (and_left (nat_eq k.tablespace t.tablespace) (list_any (nat_eq k.number) (table_files t)) h) i; number = k.number } in
        let none : list_any (same_place (place_in t.tablespace k.number)) (file_places d) ≡ false = each_unused (λ n. list_any (same_place (place_in t.tablespace n)) (file_places d)) (table_files t) k.number unused (and_right (nat_eq k.tablespace t.tablespace) (list_any (nat_eq k.number) (table_files t)) h) in
        or_left (list_any (λ (x : Table). list_any (same_place k) (table_places x)) d.tables) (list_any (λ (i : Index). same_place k (index_place i)) d.indexes || list_any (λ (s : Sequence). same_place k (sequence_place s)) d.sequences)
        (sym (SpaceLemmas.file_place d k) ∙ ap (λ (x : FilePlace). list_any (same_place x) (file_places d)) there ∙ none)

pub index_free : (tablespaces : List Tablespace) (d : DatabaseObjects) (i : Index) → index_refusal tablespaces d i ≡ None → IndexIsFree d.indexes i
index_free tablespaces d i free =
    let f = no_cause _ _ _ _ _ free in
    record {
      oid = λ k h. or_left _ _ (or_right _ _ (sym (SpaceLemmas.relation_oid d k) ∙ ap (λ n. list_any (nat_eq n) (relation_oids d)) (same_number k i.oid h) ∙ or_right _ _ f.oids));
      file = λ k h. or_left _ _ (or_right _ _ (sym (SpaceLemmas.file_place d k) ∙ ap (λ (x : FilePlace). list_any (same_place x) (file_places d)) (one_place k (index_place i) h) ∙ or_right _ _ f.files));
    }

pub index_name_free : (tablespaces : List Tablespace) (d : DatabaseObjects) (i : Index) → index_refusal tablespaces d i ≡ None → (k : SchemaName) → index_of_name d.tables k i ≡ true → list_any (index_of_name d.tables k) d.indexes ≡ false
index_name_free tablespaces d i free k h =
    let f = no_cause _ _ _ _ _ free in
    subst (λ (n : SchemaName). list_any (index_of_name d.tables n) d.indexes ≡ false) (sym (one_name k (index_name d.tables i) h)) (or_left _ _ (or_right _ _ (sym (SpaceLemmas.relation_name d (index_name d.tables i)) ∙ f.names)))

pub index_has_table : (tablespaces : List Tablespace) (d : DatabaseObjects) (i : Index) → index_refusal tablespaces d i ≡ None → has_table d.tables i ≡ true
index_has_table tablespaces d i free =
    let f = no_cause _ _ _ _ _ free in
    more (find (table_has i.table) d.tables) refl (and_right (has_tablespace tablespaces i.tablespace) _ (not_false _ f.stands))
  where
    more : (o : Option Table) → find (table_has i.table) d.tables ≡ o → keys_stand i.keys o ≡ true → has_table d.tables i ≡ true
    more None e h = cc
    more (Some t) e h = any_of_found (table_has i.table) d.tables t e

pub sequence_free : (roles : List Role) (d : DatabaseObjects) (s : Sequence) → sequence_refusal roles d s ≡ None → SequenceIsFree d.sequences s
sequence_free roles d s free =
    let f = no_cause _ _ _ _ _ free in
    record {
      oid = λ k h. or_right _ _ (or_right _ _ (sym (SpaceLemmas.relation_oid d k) ∙ ap (λ n. list_any (nat_eq n) (relation_oids d)) (same_number k s.oid h) ∙ or_right _ _ f.oids));
      name = λ k h. subst (λ (n : SchemaName). list_any (λ (x : Sequence). same_name n (sequence_name x)) d.sequences ≡ false) (sym (one_name k (sequence_name s) h)) (or_right _ _ (or_right _ _ (sym (SpaceLemmas.relation_name d (sequence_name s)) ∙ f.names)));
      file = λ k h. or_right _ _ (or_right _ _ (sym (SpaceLemmas.file_place d k) ∙ ap (λ (x : FilePlace). list_any (same_place x) (file_places d)) (one_place k (sequence_place s) h) ∙ or_right _ _ f.files));
    }

pub enum_free : (roles : List Role) (d : DatabaseObjects) (e : EnumType) → enum_refusal roles d e ≡ None → EnumIsFree d.enums e
enum_free roles d e free =
    let f = no_cause _ _ _ _ _ free in
    record {
      oid = λ k h. or_left _ _ (sym (SpaceLemmas.type_oid d k) ∙ ap (λ n. list_any (nat_eq n) (type_oids d)) (same_number k e.oid h) ∙ or_right _ _ (or_left _ _ f.oids));
      name = λ k h. subst (λ (n : SchemaName). list_any (λ (x : EnumType). same_name n (enum_name x)) d.enums ≡ false) (sym (one_name k (enum_name e) h)) (or_left _ _ (sym (SpaceLemmas.type_name d (enum_name e)) ∙ or_left _ _ f.names));
      labels = λ k h. sym (SpaceLemmas.label_oid d k) ∙ each_unused (λ n. list_any (nat_eq n) (label_oids d)) (enum_label_oids e) k
          (or_right (not (are_distinct nat_eq (enum_label_oids e))) _ (or_right (list_any is_system_number (enum_label_oids e)) _ (or_right (oid_taken e.oid (type_oids d)) _ f.oids))) h;
    }

pub label_free : (d : DatabaseObjects) (kind : ℕ) (label : Label) → label_refusal d kind label ≡ None → LabelIsFree d.enums label
label_free d kind label free k h = more (find (enum_has kind) d.enums) free
  where
    more : (o : Option EnumType) → label_refusal_in d label o ≡ None → list_any (λ (x : EnumType). list_any (nat_eq k) (enum_label_oids x)) d.enums ≡ false
    more None e = cc
    more (Some x) e =
        let f = no_cause _ _ _ _ _ e in
        sym (SpaceLemmas.label_oid d k) ∙ ap (λ n. list_any (nat_eq n) (label_oids d)) (same_number k label.oid h) ∙ or_right _ _ f.oids

pub schema_free : (roles : List Role) (d : DatabaseObjects) (s : Schema) → schema_refusal roles d s ≡ None → SchemaIsFree d.schemas s
schema_free roles d s free k h =
    let f = no_cause _ _ _ _ _ free in
    ap (λ (n : List ℕ). list_any (λ (x : Schema). bytes_eq n x.name) d.schemas) ((bytes_eq-Decides k s.name).0 h) ∙ sym (SpaceLemmas.schema_name d s.name) ∙ f.names
