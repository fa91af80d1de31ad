-- How the look-ups beside the other lists of a database stay right.
use Rattle.std.proofs.Common.{◌≡◌, ℕ, zero, suc, ◌<◌, arith, Bool, true, false, List, [], ◌∷◌, ◌++◌, length, get_or, set, Option, Some, None, refl, sym, ap, subst, ◌∙◌}
use Rattle.std.specs.Prelude.{◌&&◌, ◌||◌, nat_eq, bytes_eq, slice_get}
use Rattle.std.specs.List.{list_any, list_all, find, position}
use Rattle.std.proofs.lemmas.List.Folds.{list_any-append}
use Rattle.object_places.specs.declared.NumberPlaces.{NumberPlaces}
use Rattle.object_places.specs.declared.NamePlaces.{NamePlaces}
use Rattle.object_places.specs.declared.TextPlaces.{TextPlaces}
use Rattle.object_places.specs.Places.{number_place, name_place, file_place, text_place}
use Rattle.object_places.specs.Finds.{object_at, passes, passing}
use Rattle.object_places.proofs.FindsLemmas.{kept, pushed, changed, any_known, find_known, shown}
use Rattle.catalog.specs.declared.owners.Schema.{Schema}
use Rattle.catalog.specs.declared.enums.Label.{Label}
use Rattle.catalog.specs.declared.enums.EnumType.{EnumType}
use Rattle.catalog.specs.declared.relations.Table.{Table}
use Rattle.catalog.specs.declared.relations.Index.{Index}
use Rattle.catalog.specs.declared.relations.Sequence.{Sequence}
use Rattle.catalog.specs.declared.sequence_places.SequencePlaces.{SequencePlaces}
use Rattle.catalog.specs.declared.index_places.IndexPlaces.{IndexPlaces}
use Rattle.catalog.specs.declared.enum_places.EnumPlaces.{EnumPlaces}
use Rattle.catalog.specs.Cluster.{default_tablespace}
use Rattle.catalog.specs.Spaces.{SchemaName, FilePlace, same_name, index_name, table_has, enum_has, schema_in}
use Rattle.catalog.specs.Forms.{schema_is}
use Rattle.catalog.specs.Lookups.{enum_is}
use Rattle.catalog.specs.Changes.{labelled}
use Rattle.catalog.specs.Known.{name_at, file_at, SequencesKnown, SequenceIsFree, IndexesKnown, IndexIsFree, IndexNamesKnown, EnumsKnown, EnumIsFree, LabelIsFree, SchemasKnown, SchemaIsFree, sequence_of_oid, sequence_of_name, sequence_of_file, index_of_oid, index_of_file, index_of_name, has_table, enum_of_oid, enum_of_name, enum_of_label, schema_of_name}
use Rattle.catalog.proofs.ListLemmas.{nat_eq-turned, bytes_eq-turned, any-left, all-mono, all-push, find-left, and_left, and_right, found_at, none_found, no_position}
use Rattle.catalog.proofs.SpaceLemmas.{enum_label}

-- ---- sequences

pub sequences_kept : (xs : List Sequence) (x : Sequence) (p q : SequencePlaces) → SequencesKnown xs p → SequenceIsFree xs x
    → ((k : ℕ) → nat_eq k x.oid ≡ false → number_place q.oids k ≡ number_place p.oids k)
    → ((s k : List ℕ) → (bytes_eq s x.schema && bytes_eq k x.name) ≡ false → name_place q.names s k ≡ name_place p.names s k)
    → ((s k : ℕ) → (nat_eq s default_tablespace && nat_eq k x.file) ≡ false → file_place q.files s k ≡ file_place p.files s k)
    → SequencesKnown xs q
sequences_kept xs x p q known free oids names files =
    record {
      by_oid = kept {place = number_place p.oids} {has = sequence_of_oid} xs (λ k. sequence_of_oid k x) (number_place q.oids) known.by_oid oids free.oid;
      by_name = kept {place = name_at p.names} {has = sequence_of_name} xs (λ k. sequence_of_name k x) (name_at q.names) known.by_name (λ k. names k.schema k.name) free.name;
      by_file = kept {place = file_at p.files} {has = sequence_of_file} xs (λ k. sequence_of_file k x) (file_at q.files) known.by_file (λ k. files k.tablespace k.number) free.file;
    }

pub sequences_pushed : (xs : List Sequence) (x : Sequence) (p : SequencePlaces) → SequencesKnown xs p
    → ((k : ℕ) → nat_eq k x.oid ≡ true → number_place p.oids k ≡ Some (length xs))
    → ((s k : List ℕ) → (bytes_eq s x.schema && bytes_eq k x.name) ≡ true → name_place p.names s k ≡ Some (length xs))
    → ((s k : ℕ) → (nat_eq s default_tablespace && nat_eq k x.file) ≡ true → file_place p.files s k ≡ Some (length xs))
    → SequencesKnown (xs ++ x ∷ []) p
sequences_pushed xs x p known oids names files =
    record {
      by_oid = pushed {place = number_place p.oids} {has = sequence_of_oid} xs x known.by_oid oids;
      by_name = pushed {place = name_at p.names} {has = sequence_of_name} xs x known.by_name (λ k. names k.schema k.name);
      by_file = pushed {place = file_at p.files} {has = sequence_of_file} xs x known.by_file (λ k. files k.tablespace k.number);
    }

module _ (xs : List Sequence) (p : SequencePlaces) (known : SequencesKnown xs p) where
  pub any_sequence_of_oid : (oid : ℕ) → list_any (sequence_of_oid oid) xs ≡ passes (sequence_of_oid oid) (object_at xs (number_place p.oids oid))
  any_sequence_of_oid oid = any_known {place = number_place p.oids} {has = sequence_of_oid} xs known.by_oid (sequence_of_oid oid) oid (λ x h. h)

  pub any_sequence_of_name : (key : SchemaName) → list_any (sequence_of_name key) xs ≡ passes (sequence_of_name key) (object_at xs (name_at p.names key))
  any_sequence_of_name key = any_known {place = name_at p.names} {has = sequence_of_name} xs known.by_name (sequence_of_name key) key (λ x h. h)

  pub any_sequence_of_file : (key : FilePlace) → list_any (sequence_of_file key) xs ≡ passes (sequence_of_file key) (object_at xs (file_at p.files key))
  any_sequence_of_file key = any_known {place = file_at p.files} {has = sequence_of_file} xs known.by_file (sequence_of_file key) key (λ x h. h)

-- ---- indexes

pub indexes_kept : (xs : List Index) (x : Index) (p q : IndexPlaces) → IndexesKnown xs p → IndexIsFree xs x
    → ((k : ℕ) → nat_eq k x.oid ≡ false → number_place q.oids k ≡ number_place p.oids k)
    → ((s k : ℕ) → (nat_eq s x.tablespace && nat_eq k x.file) ≡ false → file_place q.files s k ≡ file_place p.files s k)
    → IndexesKnown xs q
indexes_kept xs x p q known free oids files =
    record {
      by_oid = kept {place = number_place p.oids} {has = index_of_oid} xs (λ k. index_of_oid k x) (number_place q.oids) known.by_oid oids free.oid;
      by_file = kept {place = file_at p.files} {has = index_of_file} xs (λ k. index_of_file k x) (file_at q.files) known.by_file (λ k. files k.tablespace k.number) free.file;
    }

pub indexes_pushed : (xs : List Index) (x : Index) (p : IndexPlaces) → IndexesKnown xs p
    → ((k : ℕ) → nat_eq k x.oid ≡ true → number_place p.oids k ≡ Some (length xs))
    → ((s k : ℕ) → (nat_eq s x.tablespace && nat_eq k x.file) ≡ true → file_place p.files s k ≡ Some (length xs))
    → IndexesKnown (xs ++ x ∷ []) p
indexes_pushed xs x p known oids files =
    record {
      by_oid = pushed {place = number_place p.oids} {has = index_of_oid} xs x known.by_oid oids;
      by_file = pushed {place = file_at p.files} {has = index_of_file} xs x known.by_file (λ k. files k.tablespace k.number);
    }

module _ (xs : List Index) (p : IndexPlaces) (known : IndexesKnown xs p) where
  pub any_index_of_oid : (oid : ℕ) → list_any (index_of_oid oid) xs ≡ passes (index_of_oid oid) (object_at xs (number_place p.oids oid))
  any_index_of_oid oid = any_known {place = number_place p.oids} {has = index_of_oid} xs known.by_oid (index_of_oid oid) oid (λ x h. h)

  pub any_index_of_file : (key : FilePlace) → list_any (index_of_file key) xs ≡ passes (index_of_file key) (object_at xs (file_at p.files key))
  any_index_of_file key = any_known {place = file_at p.files} {has = index_of_file} xs known.by_file (index_of_file key) key (λ x h. h)

-- ---- the names of indexes

all_at : {A : Type 0} (p : A → Bool) (xs : List A) (i : ℕ) (x : A) → list_all p xs ≡ true → slice_get xs i ≡ Some x → p x ≡ true
all_at p [] i x h k = cc
all_at p (y ∷ xs) zero x h k = let same : y ≡ x = cc in ap p (sym same) ∙ and_left _ _ h
all_at p (y ∷ xs) (suc i) x h k = all_at p xs i x (and_right _ _ h) k

pub found_of_any : {A : Type 0} (p : A → Bool) (xs : List A) → list_any p xs ≡ true → (x : A) × (find p xs ≡ Some x)
found_of_any p [] h = cc
found_of_any {A = A} p (y ∷ xs) h = more (p y) refl h (found_of_any p xs)
  where
    more : (b : Bool) → p y ≡ b → (b || list_any p xs) ≡ true → (list_any p xs ≡ true → (x : A) × (find p xs ≡ Some x)) → (x : A) × (find p (y ∷ xs) ≡ Some x)
    more true e k rest = (y, rw e refl)
    more false e k rest = let r = rest k in (r.0, rw e r.1)

index_name_grows : (ts : List Table) (t : Table) (i : Index) → has_table ts i ≡ true → index_name (ts ++ t ∷ []) i ≡ index_name ts i
index_name_grows ts t i h =
    let f = found_of_any (table_has i.table) ts h in
    ap (λ (o : Option Table). let n : SchemaName = record { schema = schema_in o; name = i.name } in n) (find-left (table_has i.table) ts (t ∷ []) f.0 f.1 ∙ sym f.1)

pub index_names_none : (names : NamePlaces) → IndexNamesKnown [] [] names
index_names_none names = record { tables_stand = refl; by_name = λ i x k at h. cc }

-- one table more
pub index_names_grow : (ts : List Table) (t : Table) (xs : List Index) (names : NamePlaces) → IndexNamesKnown ts xs names → IndexNamesKnown (ts ++ t ∷ []) xs names
index_names_grow ts t xs names known =
    record {
      tables_stand = all-mono (has_table ts) (has_table (ts ++ t ∷ [])) (λ i h. any-left (table_has i.table) ts (t ∷ []) h) xs known.tables_stand;
      by_name = λ n i k at h. known.by_name n i k at (subst (λ (other : SchemaName). same_name k other ≡ true) (index_name_grows ts t i (all_at (has_table ts) xs n i known.tables_stand at)) h);
    }

pub index_names_kept : (ts : List Table) (xs : List Index) (x : Index) (p q : NamePlaces) → IndexNamesKnown ts xs p → ((k : SchemaName) → index_of_name ts k x ≡ true → list_any (index_of_name ts k) xs ≡ false)
    → ((k : SchemaName) → index_of_name ts k x ≡ false → name_at q k ≡ name_at p k) → IndexNamesKnown ts xs q
index_names_kept ts xs x p q known free names =
    record {
      tables_stand = known.tables_stand;
      by_name = kept {place = name_at p} {has = index_of_name ts} xs (λ k. index_of_name ts k x) (name_at q) known.by_name names free;
    }

pub index_names_pushed : (ts : List Table) (xs : List Index) (x : Index) (p : NamePlaces) → IndexNamesKnown ts xs p → has_table ts x ≡ true
    → ((k : SchemaName) → index_of_name ts k x ≡ true → name_at p k ≡ Some (length xs)) → IndexNamesKnown ts (xs ++ x ∷ []) p
index_names_pushed ts xs x p known stands names =
    record {
      tables_stand = all-push (has_table ts) xs x known.tables_stand stands;
      by_name = pushed {place = name_at p} {has = index_of_name ts} xs x known.by_name names;
    }

pub any_index_of_name : (ts : List Table) (xs : List Index) (p : NamePlaces) → IndexNamesKnown ts xs p → (key : SchemaName) → list_any (index_of_name ts key) xs ≡ passes (index_of_name ts key) (object_at xs (name_at p key))
any_index_of_name ts xs p known key = any_known {place = name_at p} {has = index_of_name ts} xs known.by_name (index_of_name ts key) key (λ x h. h)

-- ---- enums

pub enums_kept : (xs : List EnumType) (x : EnumType) (p q : EnumPlaces) → EnumsKnown xs p → EnumIsFree xs x
    → ((k : ℕ) → nat_eq k x.oid ≡ false → number_place q.oids k ≡ number_place p.oids k)
    → ((s k : List ℕ) → (bytes_eq s x.schema && bytes_eq k x.name) ≡ false → name_place q.names s k ≡ name_place p.names s k)
    → ((k : ℕ) → list_any (λ (l : Label). nat_eq k l.oid) x.labels ≡ false → number_place q.labels k ≡ number_place p.labels k)
    → EnumsKnown xs q
enums_kept xs x p q known free oids names labels =
    record {
      by_oid = kept {place = number_place p.oids} {has = enum_of_oid} xs (λ k. enum_of_oid k x) (number_place q.oids) known.by_oid oids free.oid;
      by_name = kept {place = name_at p.names} {has = enum_of_name} xs (λ k. enum_of_name k x) (name_at q.names) known.by_name (λ k. names k.schema k.name) free.name;
      by_label = kept {place = number_place p.labels} {has = enum_of_label} xs (λ k. enum_of_label k x) (number_place q.labels) known.by_label (λ k h. labels k (sym (enum_label x k) ∙ h)) free.labels;
    }

pub enums_pushed : (xs : List EnumType) (x : EnumType) (p : EnumPlaces) → EnumsKnown xs p
    → ((k : ℕ) → nat_eq k x.oid ≡ true → number_place p.oids k ≡ Some (length xs))
    → ((s k : List ℕ) → (bytes_eq s x.schema && bytes_eq k x.name) ≡ true → name_place p.names s k ≡ Some (length xs))
    → ((k : ℕ) → list_any (λ (l : Label). nat_eq k l.oid) x.labels ≡ true → number_place p.labels k ≡ Some (length xs))
    → EnumsKnown (xs ++ x ∷ []) p
enums_pushed xs x p known oids names labels =
    record {
      by_oid = pushed {place = number_place p.oids} {has = enum_of_oid} xs x known.by_oid oids;
      by_name = pushed {place = name_at p.names} {has = enum_of_name} xs x known.by_name (λ k. names k.schema k.name);
      by_label = pushed {place = number_place p.labels} {has = enum_of_label} xs x known.by_label (λ k h. labels k (sym (enum_label x k) ∙ h));
    }

-- the place of a new label's OID is noted
pub label_kept : (xs : List EnumType) (label : Label) (p : EnumPlaces) (q : NumberPlaces) → EnumsKnown xs p → LabelIsFree xs label
    → ((k : ℕ) → nat_eq k label.oid ≡ false → number_place q k ≡ number_place p.labels k) → EnumsKnown xs (record p { labels = q })
label_kept xs label p q known free others =
    record {
      by_oid = known.by_oid;
      by_name = known.by_name;
      by_label = kept {place = number_place p.labels} {has = enum_of_label} xs (λ k. nat_eq k label.oid) (number_place q) known.by_label others free;
    }

slice_get-get_or : {A : Type 0} (xs : List A) (i : ℕ) (d : A) → i < length xs → slice_get xs i ≡ Some (get_or xs i d)
slice_get-get_or [] i d h = absurd (omega (arith, h))
slice_get-get_or (x ∷ xs) zero d h = refl
slice_get-get_or (x ∷ xs) (suc i) d h = let lt : i < length xs = omega (arith, h) in slice_get-get_or xs i d lt

label_or_before : (k : ℕ) (x : EnumType) (label : Label) (b : Bool) → enum_of_label k x ≡ b → enum_of_label k (labelled label x) ≡ true → b ≡ false → nat_eq k label.oid ≡ true
label_or_before k x label b e h false_is =
    let whole : (list_any (λ (l : Label). nat_eq k l.oid) x.labels || (nat_eq k label.oid || false)) ≡ true =
    sym (list_any-append (λ (l : Label). nat_eq k l.oid) x.labels (label ∷ [])) ∙ sym (enum_label (labelled label x) k) ∙ h in
    let none : list_any (λ (l : Label). nat_eq k l.oid) x.labels ≡ false = sym (enum_label x k) ∙ e ∙ false_is in
    last (nat_eq k label.oid) (subst (λ c. (c || (nat_eq k label.oid || false)) ≡ true) none whole)
  where
    last : (a : Bool) → (false || (a || false)) ≡ true → a ≡ true
    last true l = refl
    last false l = l

-- an enum with one label more at its place
pub enum_labelled : (xs : List EnumType) (i : ℕ) (x : EnumType) (label : Label) (p : EnumPlaces) → EnumsKnown xs p → slice_get xs i ≡ Some x → ((k : ℕ) → nat_eq k label.oid ≡ true → number_place p.labels k ≡ Some i) → EnumsKnown (set xs i (labelled label x)) p
enum_labelled xs i x label p known at placed =
    record {
      by_oid = changed {place = number_place p.oids} {has = enum_of_oid} xs i (labelled label x) known.by_oid (λ k h. known.by_oid i x k at h);
      by_name = changed {place = name_at p.names} {has = enum_of_name} xs i (labelled label x) known.by_name (λ k h. known.by_name i x k at h);
      by_label = changed {place = number_place p.labels} {has = enum_of_label} xs i (labelled label x) known.by_label (λ k h. more k h (enum_of_label k x) refl);
    }
  where
    more : (k : ℕ) → enum_of_label k (labelled label x) ≡ true → (b : Bool) → enum_of_label k x ≡ b → number_place p.labels k ≡ Some i
    more k h true e = known.by_label i x k at e
    more k h false e = placed k (label_or_before k x label false e h refl)

pub enum_at_position : (xs : List EnumType) (oid i : ℕ) (d : EnumType) → position (enum_has oid) xs ≡ Some i → slice_get xs i ≡ Some (get_or xs i d)
enum_at_position xs oid i d h = slice_get-get_or xs i d (found_at (enum_has oid) xs i d h).within

module _ (xs : List EnumType) (p : EnumPlaces) (known : EnumsKnown xs p) where
  pub enum_found : (oid : ℕ) → find (enum_has oid) xs ≡ passing (enum_has oid) (object_at xs (number_place p.oids oid))
  enum_found oid = find_known {place = number_place p.oids} {has = enum_of_oid} xs known.by_oid (enum_has oid) oid (λ x h. nat_eq-turned oid x.oid ∙ h)

  pub enum_found_named : (schema name : List ℕ) → find (enum_is schema name) xs ≡ passing (enum_is schema name) (object_at xs (name_place p.names schema name))
  enum_found_named schema name = find_known {place = name_at p.names} {has = enum_of_name} xs known.by_name (enum_is schema name) (record { schema = schema; name = name }) (λ x h. h)

  pub any_enum_of_oid : (oid : ℕ) → list_any (enum_of_oid oid) xs ≡ passes (enum_of_oid oid) (object_at xs (number_place p.oids oid))
  any_enum_of_oid oid = any_known {place = number_place p.oids} {has = enum_of_oid} xs known.by_oid (enum_of_oid oid) oid (λ x h. h)

  pub any_enum : (oid : ℕ) → list_any (enum_has oid) xs ≡ passes (enum_has oid) (object_at xs (number_place p.oids oid))
  any_enum oid = any_known {place = number_place p.oids} {has = enum_of_oid} xs known.by_oid (enum_has oid) oid (λ x h. nat_eq-turned oid x.oid ∙ h)

  pub enum_place : (oid : ℕ) (x : EnumType) → Some x ≡ object_at xs (number_place p.oids oid) → enum_has oid x ≡ true → number_place p.oids oid ≡ position (enum_has oid) xs
  enum_place oid x at h = more (position (enum_has oid) xs) refl
    where
      here : Some x ≡ find (enum_has oid) xs
      here = shown (enum_has oid) xs (number_place p.oids oid) x (enum_found oid) at h

      more : (o : Option ℕ) → position (enum_has oid) xs ≡ o → number_place p.oids oid ≡ o
      more None e = let gone : Some x ≡ None = here ∙ none_found (enum_has oid) xs e in cc
      more (Some j) e =
          let f = found_at (enum_has oid) xs j x e in
          let other : Some x ≡ Some (get_or xs j x) = here ∙ f.entry in
          let same : x ≡ get_or xs j x = cc in
          known.by_oid j (get_or xs j x) oid (slice_get-get_or xs j x f.within) (nat_eq-turned oid (get_or xs j x).oid ∙ ap (enum_has oid) (sym same) ∙ h)

  pub no_enum_place : (oid : ℕ) → passes (enum_has oid) (object_at xs (number_place p.oids oid)) ≡ false → None ≡ position (enum_has oid) xs
  no_enum_place oid h = sym (no_position (enum_has oid) xs (any_enum oid ∙ h))

  pub any_enum_of_name : (key : SchemaName) → list_any (enum_of_name key) xs ≡ passes (enum_of_name key) (object_at xs (name_at p.names key))
  any_enum_of_name key = any_known {place = name_at p.names} {has = enum_of_name} xs known.by_name (enum_of_name key) key (λ x h. h)

  pub any_enum_of_label : (oid : ℕ) → list_any (enum_of_label oid) xs ≡ passes (enum_of_label oid) (object_at xs (number_place p.labels oid))
  any_enum_of_label oid = any_known {place = number_place p.labels} {has = enum_of_label} xs known.by_label (enum_of_label oid) oid (λ x h. h)

-- ---- schemas

pub schemas_kept : (xs : List Schema) (x : Schema) (p q : TextPlaces) → SchemasKnown xs p → SchemaIsFree xs x → ((k : List ℕ) → bytes_eq k x.name ≡ false → text_place q k ≡ text_place p k) → SchemasKnown xs q
schemas_kept xs x p q known free names = kept {place = text_place p} {has = schema_of_name} xs (λ k. schema_of_name k x) (text_place q) known names free

pub schemas_pushed : (xs : List Schema) (x : Schema) (p : TextPlaces) → SchemasKnown xs p → ((k : List ℕ) → bytes_eq k x.name ≡ true → text_place p k ≡ Some (length xs)) → SchemasKnown (xs ++ x ∷ []) p
schemas_pushed xs x p known names = pushed {place = text_place p} {has = schema_of_name} xs x known names

module _ (xs : List Schema) (p : TextPlaces) (known : SchemasKnown xs p) where
  pub any_schema_of_name : (name : List ℕ) → list_any (schema_of_name name) xs ≡ passes (schema_of_name name) (object_at xs (text_place p name))
  any_schema_of_name name = any_known {place = text_place p} {has = schema_of_name} xs known (schema_of_name name) name (λ x h. h)

  pub any_schema : (name : List ℕ) → list_any (schema_is name) xs ≡ passes (schema_is name) (object_at xs (text_place p name))
  any_schema name = any_known {place = text_place p} {has = schema_of_name} xs known (schema_is name) name (λ x h. bytes_eq-turned name x.name ∙ h)
