-- No object of a valid catalog is refused against those before it.
use Rattle.std.proofs.Common.{◌≡◌, ℕ, Bool, true, false, List, [], ◌∷◌, ◌++◌, map, length, Some, None, rules, refl, sym, ap, subst, ◌∙◌}
use Rattle.std.specs.Prelude.{not, ◌&&◌, ◌||◌, nat_lt, nat_le, nat_eq, bytes_eq}
use Rattle.std.specs.List.{list_any, list_all, find, flat_map}
use Rattle.std.proofs.lemmas.List.{append-nil}
use Rattle.std.proofs.lemmas.List.Folds.{list_all-map, list_any-append}
use Rattle.std.proofs.lemmas.Grind.{flat_map-append}
use Rattle.catalog.proofs.SpaceLemmas.{any_map}
use Rattle.catalog.specs.Forms.{is_long, same_text}
use Rattle.std.proofs.Common.{arith}
use Rattle.std.proofs.lemmas.Bool.Decides.{nat_tests}
use Rattle.catalog.specs.declared.owners.Role.{Role}
use Rattle.catalog.specs.declared.owners.Tablespace.{Tablespace}
use Rattle.catalog.specs.declared.owners.Schema.{Schema}
use Rattle.catalog.specs.declared.enums.EnumType.{EnumType}
use Rattle.catalog.specs.declared.enums.Label.{Label}
use Rattle.catalog.specs.declared.relations.Table.{Table}
use Rattle.catalog.specs.declared.relations.Index.{Index}
use Rattle.catalog.specs.declared.relations.Sequence.{Sequence}
use Rattle.catalog.specs.Lists.{are_distinct}
use Rattle.catalog.specs.Cluster.{DatabaseObjects}
use Rattle.catalog.specs.Spaces.{table_oids, relation_oids, type_oids, enum_label_oids, label_oids, SchemaName, same_name, enum_name, table_name, sequence_name, index_name, relation_names, type_names, FilePlace, same_place, place_in, table_places, table_files, index_place, sequence_place, file_places, enum_has}
use Rattle.catalog.specs.Refusals.{schema_refusal, enum_refusal, label_refusal, label_refusal_in, table_refusal, index_refusal, sequence_refusal}
use Rattle.catalog.specs.Valid.{is_user_number, is_user_place, schema_is_valid, enum_is_valid, table_is_valid, index_is_valid, sequence_is_valid, IsValidDatabase}
use Rattle.catalog.proofs.ListLemmas.{and_left, and_right, or_left, or_right, or_both, not_true, nat_eq-turned, bytes_eq-turned}
use Rattle.catalog.proofs.DatabaseLemmas.{same_name-turned, same_place-turned}
use Rattle.catalog_laws.specs.Unrefused.{EachBehind, with_enums, with_tables, with_indexes, IsUnrefusedDatabase}
use Rattle.catalog_laws.proofs.Behind

pub stands : (a : Bool) → a ≡ true → not a ≡ false
stands a h = ap not h

not_over : (limit n : ℕ) → nat_le n limit ≡ true → nat_lt limit n ≡ false
not_over limit n h = grind (arith, nat_tests)

schema_free : (roles : List Role) (tablespaces : List Tablespace) (d : DatabaseObjects) → IsValidDatabase roles tablespaces d → EachBehind (λ before schema. schema_refusal roles (record d { schemas = before }) schema ≡ None) d.schemas
schema_free roles tablespaces d v before s after e =
    let valid : schema_is_valid roles s ≡ true = Behind.all_at (schema_is_valid roles) before s after (subst (λ (l : List Schema). list_all (schema_is_valid roles) l ≡ true) e v.schemas) in
    let differ : are_distinct bytes_eq ([] ++ (map (λ (x : Schema). x.name) (before ++ s ∷ after) ++ [])) ≡ true =
    ap (are_distinct bytes_eq) (append-nil (map (λ (x : Schema). x.name) (before ++ s ∷ after))) ∙ subst (λ (l : List Schema). are_distinct bytes_eq (map (λ (x : Schema). x.name) l) ≡ true) e v.schema_names_differ in
    Behind.uncaused (stands _ (and_right _ _ valid)) refl refl (Behind.one_free bytes_eq bytes_eq-turned (λ (x : Schema). x.name) [] before s after [] differ) refl

enum_free : (roles : List Role) (tablespaces : List Tablespace) (d : DatabaseObjects) → IsValidDatabase roles tablespaces d → EachBehind (λ before kind. enum_refusal roles (with_enums d before) kind ≡ None) d.enums
unfolding type_oids label_oids type_names
enum_free roles tablespaces d v before k after e =
    let valid : enum_is_valid roles d k ≡ true = Behind.all_at (enum_is_valid roles d) before k after (subst (λ (l : List EnumType). list_all (enum_is_valid roles d) l ≡ true) e v.enums) in
    let types : List ℕ = map (λ (t : Table). t.row_type) d.tables in
    let oids = subst (λ (l : List EnumType). (list_all is_user_number (map (λ (x : EnumType). x.oid) l ++ types) && are_distinct nat_eq (map (λ (x : EnumType). x.oid) l ++ types)) ≡ true) e v.type_oids_differ in
    let labels = subst (λ (l : List EnumType). (list_all is_user_number (flat_map enum_label_oids l) && are_distinct nat_eq (flat_map enum_label_oids l)) ≡ true) e v.label_oids_differ in
    let group : List ℕ = flat_map enum_label_oids (before ++ k ∷ after) in
    let labels_user : list_all is_user_number (group ++ []) ≡ true = ap (list_all is_user_number) (append-nil group) ∙ and_left _ _ labels in
    let labels_apart : are_distinct nat_eq (group ++ []) ≡ true = ap (are_distinct nat_eq) (append-nil group) ∙ and_right _ _ labels in
    let names = subst (λ (l : List EnumType). are_distinct same_name (map enum_name l ++ map table_name d.tables) ≡ true) e v.type_names_differ in
    let oid_free = or_both _ _ (Behind.not_system k.oid (Behind.one_holds is_user_number (λ (x : EnumType). x.oid) [] before k after types (and_left _ _ oids)))
    (Behind.any_nil (nat_eq k.oid) (map (λ (x : EnumType). x.oid) before) (Behind.one_free nat_eq nat_eq-turned (λ (x : EnumType). x.oid) [] before k after types (and_right _ _ oids))) in
    let labels_free = or_both _ _ (Behind.none_system (enum_label_oids k) (Behind.group_holds is_user_number enum_label_oids before k after [] labels_user))
    (Behind.group_free nat_eq nat_eq-turned enum_label_oids before k after [] labels_apart) in
    let name_free = Behind.any_nil (same_name (enum_name k)) (map enum_name before) (Behind.one_free same_name same_name-turned enum_name [] before k after (map table_name d.tables) names) in
    Behind.uncaused (stands _ (and_right _ _ (and_left _ _ (and_left _ _ valid)))) (not_true _ (and_right _ _ (and_left _ _ valid))) (or_both _ _ oid_free labels_free) (or_both _ _ name_free (stands _ (and_right _ _ valid))) refl

-- ---- labels

find_last : {A : Type 0} (passes : A → Bool) (xs : List A) (x : A) → list_any passes xs ≡ false → passes x ≡ true → find passes (xs ++ x ∷ []) ≡ Some x
find_last passes [] x h k = rw k refl
find_last passes (y ∷ ys) x h k = let other : passes y ≡ false = or_left _ _ h in rw other (find_last passes ys x (or_right _ _ h) k)

oid_turned : (oid : ℕ) (ks : List EnumType) → list_any (enum_has oid) ks ≡ list_any (λ (x : EnumType). nat_eq oid x.oid) ks
oid_turned oid [] = refl
oid_turned oid (k ∷ ks) = rw (nat_eq-turned k.oid oid, oid_turned oid ks) refl

nat_eq-itself : (n : ℕ) → nat_eq n n ≡ true
nat_eq-itself n = search rules

same_text-turned : (a b : Label) → same_text a b ≡ same_text b a
same_text-turned a b = bytes_eq-turned a.text b.text

label_free : (roles : List Role) (tablespaces : List Tablespace) (d : DatabaseObjects) → IsValidDatabase roles tablespaces d
    → EachBehind (λ before kind. EachBehind (λ labels label. label_refusal (with_enums d (before ++ record kind { labels = labels } ∷ [])) kind.oid label ≡ None) kind.labels) d.enums
unfolding type_oids label_oids
label_free roles tablespaces d v before k after e labels l more el =
    let cut : EnumType = record k { labels = labels } in
    let valid : enum_is_valid roles d k ≡ true = Behind.all_at (enum_is_valid roles d) before k after (subst (λ (x : List EnumType). list_all (enum_is_valid roles d) x ≡ true) e v.enums) in
    let long : list_any is_long (labels ++ l ∷ more) ≡ false = subst (λ (x : List Label). list_any is_long x ≡ false) el (not_true _ (and_right _ _ (and_left _ _ valid))) in
    let long_parts : (list_any is_long labels || list_any is_long (l ∷ more)) ≡ false = sym (list_any-append is_long labels (l ∷ more)) ∙ long in
    let texts : are_distinct same_text (labels ++ l ∷ more) ≡ true = subst (λ (x : List Label). are_distinct same_text x ≡ true) el (and_right _ _ valid) in
    let oids = subst (λ (x : List EnumType). are_distinct nat_eq (map (λ (y : EnumType). y.oid) x ++ map (λ (t : Table). t.row_type) d.tables) ≡ true) e (and_right _ _ v.type_oids_differ) in
    let others : list_any (nat_eq k.oid) (map (λ (y : EnumType). y.oid) before) ≡ false = Behind.one_free nat_eq nat_eq-turned (λ (y : EnumType). y.oid) [] before k after (map (λ (t : Table). t.row_type) d.tables) oids in
    let unlike : list_any (enum_has k.oid) before ≡ false = oid_turned k.oid before ∙ sym (any_map (nat_eq k.oid) (λ (y : EnumType). y.oid) before) ∙ others in
    let found : find (enum_has k.oid) (before ++ cut ∷ []) ≡ Some cut = find_last (enum_has k.oid) before cut unlike (nat_eq-itself k.oid) in
    let front : List ℕ = flat_map enum_label_oids before in
    let rest : List ℕ = flat_map enum_label_oids after in
    let whole : flat_map enum_label_oids d.enums ≡ front ++ (map (λ (x : Label). x.oid) (labels ++ l ∷ more) ++ rest) =
    ap (flat_map enum_label_oids) e ∙ flat_map-append enum_label_oids before (k ∷ after) ∙ ap (λ (x : List Label). front ++ (map (λ (y : Label). y.oid) x ++ rest)) el in
    let used : flat_map enum_label_oids (before ++ cut ∷ []) ≡ front ++ (map (λ (x : Label). x.oid) labels ++ []) = flat_map-append enum_label_oids before (cut ∷ []) in
    let user = subst (λ (x : List ℕ). list_all is_user_number x ≡ true) whole (and_left _ _ v.label_oids_differ) in
    let apart = subst (λ (x : List ℕ). are_distinct nat_eq x ≡ true) whole (and_right _ _ v.label_oids_differ) in
    let free : list_any (nat_eq l.oid) (flat_map enum_label_oids (before ++ cut ∷ [])) ≡ false = ap (list_any (nat_eq l.oid)) used ∙ Behind.middle_free nat_eq nat_eq-turned (λ (x : Label). x.oid) front labels l more rest apart in
    ap (label_refusal_in (with_enums d (before ++ cut ∷ [])) l) found
    ∙ Behind.uncaused refl (or_left _ _ (or_right _ _ long_parts)) (or_both _ _ (Behind.not_system l.oid (Behind.one_holds is_user_number (λ (x : Label). x.oid) front labels l more rest user)) free)
    (Behind.distinct_at same_text same_text-turned labels l more texts) refl

sequence_free : (roles : List Role) (tablespaces : List Tablespace) (d : DatabaseObjects) → IsValidDatabase roles tablespaces d → EachBehind (λ before sequence. sequence_refusal roles (record d { sequences = before }) sequence ≡ None) d.sequences
unfolding relation_oids relation_names file_places
sequence_free roles tablespaces d v before s after e =
    let valid : sequence_is_valid roles d s ≡ true = Behind.all_at (sequence_is_valid roles d) before s after (subst (λ (l : List Sequence). list_all (sequence_is_valid roles d) l ≡ true) e v.sequences) in
    let T : List ℕ = flat_map table_oids d.tables in
    let I : List ℕ = map (λ (i : Index). i.oid) d.indexes in
    let N : List SchemaName = map table_name d.tables in
    let J : List SchemaName = map (index_name d.tables) d.indexes in
    let F : List FilePlace = flat_map table_places d.tables in
    let G : List FilePlace = map index_place d.indexes in
    let oids = subst (λ (l : List Sequence). (list_all is_user_number (T ++ (I ++ map (λ (x : Sequence). x.oid) l)) && are_distinct nat_eq (T ++ (I ++ map (λ (x : Sequence). x.oid) l))) ≡ true) e v.relation_oids_differ in
    let names = subst (λ (l : List Sequence). are_distinct same_name (N ++ (J ++ map sequence_name l)) ≡ true) e v.relation_names_differ in
    let numbers = subst (λ (l : List Sequence). list_all is_user_place (F ++ (G ++ map sequence_place l)) ≡ true) e v.file_numbers in
    let places = subst (λ (l : List Sequence). are_distinct same_place (F ++ (G ++ map sequence_place l)) ≡ true) e v.file_places_differ in
    Behind.uncaused (stands _ (and_right _ _ valid)) refl
    (or_both _ _ (Behind.not_system s.oid (Behind.last_holds is_user_number (λ (x : Sequence). x.oid) T I before s after (and_left _ _ oids))) (Behind.last_free nat_eq nat_eq-turned (λ (x : Sequence). x.oid) T I before s after (and_right _ _ oids)))
    (Behind.last_free same_name same_name-turned sequence_name N J before s after names)
    (or_both _ _ (Behind.not_system s.file (Behind.last_holds is_user_place sequence_place F G before s after numbers)) (Behind.last_free same_place same_place-turned sequence_place F G before s after places))

index_free : (roles : List Role) (tablespaces : List Tablespace) (d : DatabaseObjects) → IsValidDatabase roles tablespaces d → EachBehind (λ before index. index_refusal tablespaces (with_indexes d before) index ≡ None) d.indexes
unfolding relation_oids relation_names file_places
index_free roles tablespaces d v before i after e =
    let valid : index_is_valid tablespaces d.tables i ≡ true = Behind.all_at (index_is_valid tablespaces d.tables) before i after (subst (λ (l : List Index). list_all (index_is_valid tablespaces d.tables) l ≡ true) e v.indexes) in
    let T : List ℕ = flat_map table_oids d.tables in
    let S : List ℕ = map (λ (s : Sequence). s.oid) d.sequences in
    let N : List SchemaName = map table_name d.tables in
    let Q : List SchemaName = map sequence_name d.sequences in
    let F : List FilePlace = flat_map table_places d.tables in
    let H : List FilePlace = map sequence_place d.sequences in
    let oids = subst (λ (l : List Index). (list_all is_user_number (T ++ (map (λ (x : Index). x.oid) l ++ S)) && are_distinct nat_eq (T ++ (map (λ (x : Index). x.oid) l ++ S))) ≡ true) e v.relation_oids_differ in
    let names = subst (λ (l : List Index). are_distinct same_name (N ++ (map (index_name d.tables) l ++ Q)) ≡ true) e v.relation_names_differ in
    let numbers = subst (λ (l : List Index). list_all is_user_place (F ++ (map index_place l ++ H)) ≡ true) e v.file_numbers in
    let places = subst (λ (l : List Index). are_distinct same_place (F ++ (map index_place l ++ H)) ≡ true) e v.file_places_differ in
    Behind.uncaused (stands _ (and_right _ _ (and_left _ _ valid))) (not_over 32 (length i.keys) (and_right _ _ valid))
    (or_both _ _ (Behind.not_system i.oid (Behind.one_holds is_user_number (λ (x : Index). x.oid) T before i after S (and_left _ _ oids))) (Behind.middle_free nat_eq nat_eq-turned (λ (x : Index). x.oid) T before i after S (and_right _ _ oids)))
    (Behind.middle_free same_name same_name-turned (index_name d.tables) N before i after Q names)
    (or_both _ _ (Behind.not_system i.file (Behind.one_holds is_user_place index_place F before i after H numbers)) (Behind.middle_free same_place same_place-turned index_place F before i after H places))

table_free : (roles : List Role) (tablespaces : List Tablespace) (d : DatabaseObjects) → IsValidDatabase roles tablespaces d → EachBehind (λ before table. table_refusal roles tablespaces (with_tables d before) table ≡ None) d.tables
unfolding relation_oids type_oids relation_names type_names file_places
table_free roles tablespaces d v before t after e =
    let valid : table_is_valid roles tablespaces d t ≡ true = Behind.all_at (table_is_valid roles tablespaces d) before t after (subst (λ (l : List Table). list_all (table_is_valid roles tablespaces d) l ≡ true) e v.tables) in
    let rest : List ℕ = map (λ (i : Index). i.oid) d.indexes ++ map (λ (s : Sequence). s.oid) d.sequences in
    let enums : List ℕ = map (λ (k : EnumType). k.oid) d.enums in
    let rest_names : List SchemaName = map (index_name d.tables) d.indexes ++ map sequence_name d.sequences in
    let rest_places : List FilePlace = map index_place d.indexes ++ map sequence_place d.sequences in
    let oids = subst (λ (l : List Table). (list_all is_user_number (flat_map table_oids l ++ rest) && are_distinct nat_eq (flat_map table_oids l ++ rest)) ≡ true) e v.relation_oids_differ in
    let types = subst (λ (l : List Table). (list_all is_user_number (enums ++ map (λ (x : Table). x.row_type) l) && are_distinct nat_eq (enums ++ map (λ (x : Table). x.row_type) l)) ≡ true) e v.type_oids_differ in
    let names = subst (λ (l : List Table). are_distinct same_name (map table_name l ++ rest_names) ≡ true) e v.relation_names_differ in
    let kinds = subst (λ (l : List Table). are_distinct same_name (map enum_name d.enums ++ map table_name l) ≡ true) e v.type_names_differ in
    let numbers = subst (λ (l : List Table). list_all is_user_place (flat_map table_places l ++ rest_places) ≡ true) e v.file_numbers in
    let places = subst (λ (l : List Table). are_distinct same_place (flat_map table_places l ++ rest_places) ≡ true) e v.file_places_differ in
    let oids_free = or_both _ _ (Behind.none_system (table_oids t) (Behind.group_holds is_user_number table_oids before t after rest (and_left _ _ oids)))
    (Behind.clash_nil nat_eq (table_oids t) (flat_map table_oids before) (Behind.group_free nat_eq nat_eq-turned table_oids before t after rest (and_right _ _ oids))) in
    let type_free = or_both _ _ (Behind.not_system t.row_type (Behind.end_holds is_user_number (λ (x : Table). x.row_type) enums before t after (and_left _ _ types)))
    (Behind.end_free nat_eq nat_eq-turned (λ (x : Table). x.row_type) enums before t after (and_right _ _ types)) in
    let name_free = Behind.middle_free same_name same_name-turned table_name [] before t after rest_names names in
    let kind_free = Behind.end_free same_name same_name-turned table_name (map enum_name d.enums) before t after kinds in
    let user : list_all is_user_number (table_files t) ≡ true = sym (list_all-map is_user_place (place_in t.tablespace) (table_files t)) ∙ Behind.group_holds is_user_place table_places before t after rest_places numbers in
    let files_free = or_both _ _ (Behind.none_system (table_files t) user)
    (Behind.numbers_free t.tablespace (table_files t) (flat_map table_places before ++ []) (Behind.clash_nil same_place (table_places t) (flat_map table_places before) (Behind.group_free same_place same_place-turned table_places before t after rest_places places))) in
    Behind.uncaused (stands _ (and_right _ _ (and_left _ _ (and_left _ _ valid)))) (not_over 1600 (length t.columns) (and_right _ _ (and_left _ _ valid)))
    (or_both _ _ oids_free type_free) (or_both _ _ name_free (or_both _ _ kind_free (stands _ (and_right _ _ valid)))) files_free

pub database_unrefused : (roles : List Role) (tablespaces : List Tablespace) (d : DatabaseObjects) → IsValidDatabase roles tablespaces d → IsUnrefusedDatabase roles tablespaces d
database_unrefused roles tablespaces d v =
    record {
      schemas = schema_free roles tablespaces d v;
      enums = enum_free roles tablespaces d v;
      labels = label_free roles tablespaces d v;
      tables = table_free roles tablespaces d v;
      indexes = index_free roles tablespaces d v;
      sequences = sequence_free roles tablespaces d v;
    }
