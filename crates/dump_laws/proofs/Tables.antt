-- The statements of a database's tables lead to them.
use Rattle.std.proofs.Common.{◌≡◌, true, List, [], ◌∷◌, map, Option, Some, None, Ok, refl, ap, ◌∙◌}
use Rattle.std.specs.Prelude.{option_map}
use Rattle.std.specs.List.{list_all, flat_map}
use Rattle.catalog.specs.declared.types.ColumnKind.{ColumnKind}
use Rattle.catalog.specs.declared.types.ColumnKind.TheVariants as columns
use Rattle.catalog.specs.declared.relations.Column.{Column}
use Rattle.catalog.specs.declared.relations.Toast.{Toast}
use Rattle.catalog.specs.declared.relations.Table.{Table}
use Rattle.catalog.specs.Lists.{are_distinct}
use Rattle.catalog.specs.Cluster.{DatabaseObjects, Cluster}
use Rattle.catalog.specs.Spaces.{same_name, enum_name}
use Rattle.catalog.specs.Forms.{has_role, has_tablespace, kind_stands, column_stands}
use Rattle.catalog.specs.Refusals.{table_refusal}
use Rattle.catalog.specs.Changes.{with_table, add_table}
use Rattle.catalog.proofs.ListLemmas.{and_left, and_right, not_false}
use Rattle.catalog.proofs.CauseLemmas.{no_cause}
use Rattle.catalog_laws.specs.Unrefused.{EachBehind, with_tables}
use Rattle.dump_grammar.specs.declared.columns.ColumnText.{ColumnText}
use Rattle.dump_grammar.specs.declared.statement.NextKind.TheVariants as kinds
use Rattle.dump_grammar.specs.declared.statement.Statement.{Statement}
use Rattle.dump_grammar.specs.Canonical.{role_name, tablespace_name, kind_text, column_text, toast_statements, create_table, table_statements}
use Rattle.dump_rules.specs.declared.numbers.Numbers.{Numbers}
use Rattle.dump_rules.specs.Rules.{State, no_numbers, found, taken, role_oid, tablespace_oid, kind_of, column_as, column_of, joined, columns_of, TableNumbers, table_numbers, numbered, without_table, connected_database, step, Replays}
use Rattle.dump_laws.proofs.Lookups.{enum_again}
use Rattle.dump_laws.proofs.Replaying.{Replays-append, each_replays}
use Rattle.dump_laws.proofs.Databases.{with_one, numbered_within, within, IsPlace, step_number, found_connected, found_role, found_tablespace, changed_within}

-- ---- columns

kind_again : (d : DatabaseObjects) (kind : ColumnKind) → are_distinct same_name (map enum_name d.enums) ≡ true → kind_stands d.enums kind ≡ true → kind_of d (kind_text d.enums kind) ≡ Some kind
kind_again d (columns.Base base) differ stands = refl
kind_again d (columns.Enum oid) differ stands = ap (option_map columns.Enum) (enum_again d oid differ stands)
kind_again d (columns.Dropped length align) differ stands = refl

column_again : (d : DatabaseObjects) (x : Column) → are_distinct same_name (map enum_name d.enums) ≡ true → column_stands d.enums x ≡ true → column_of d (column_text d.enums x) ≡ Some x
column_again d x differ stands = ap (option_map (column_as (column_text d.enums x))) (kind_again d x.kind differ stands)

columns_again : (d : DatabaseObjects) (xs : List Column) → are_distinct same_name (map enum_name d.enums) ≡ true → list_all (column_stands d.enums) xs ≡ true → columns_of d (map (column_text d.enums) xs) ≡ Some xs
columns_again d [] differ stand = refl
columns_again d (x ∷ xs) differ stand = λ i. joined (column_again d x differ (and_left _ _ stand) i) (columns_again d xs differ (and_right _ _ stand) i)

-- ---- the numbers of a table

abbrev first_numbers : Table → Numbers
first_numbers t = record no_numbers { type_oid = Some t.row_type; table = Some t.oid; table_file = Some t.file }

abbrev all_numbers : Table → Option Toast → Numbers
all_numbers t None = first_numbers t
all_numbers t (Some toast) =
    record (first_numbers t) { toast = Some toast.oid; toast_file = Some toast.file; toast_index = Some toast.index_oid; toast_index_file = Some toast.index_file }

numbers_are : (t : Table) (toast : Option Toast) → table_numbers (all_numbers t toast) ≡ Some (record { row_type = t.row_type; oid = t.oid; file = t.file; toast = toast })
numbers_are t None = refl
numbers_are t (Some toast) = refl

numbers_taken : (c : Cluster) (before after : List DatabaseObjects) (d : DatabaseObjects) (t : Table) (toast : Option Toast)
    → without_table toast (numbered_within c before after d (all_numbers t toast)).session ≡ (within c before after d).session
numbers_taken c before after d t None = refl
numbers_taken c before after d t (Some toast) = refl

toast_replays : (c : Cluster) (before after : List DatabaseObjects) (d : DatabaseObjects) (t : Table) (toast : Option Toast)
    → Replays (numbered_within c before after d (first_numbers t)) (toast_statements toast) (numbered_within c before after d (all_numbers t toast))
toast_replays c before after d t None = refl
toast_replays c before after d t (Some toast) =
    let one : Numbers = record (first_numbers t) { toast = Some toast.oid } in
    let two : Numbers = record one { toast_file = Some toast.file } in
    let three : Numbers = record two { toast_index = Some toast.index_oid } in (
      numbered_within c before after d one,
      step_number c before after d (first_numbers t) kinds.Toast toast.oid,
      (
        numbered_within c before after d two,
        step_number c before after d one kinds.ToastFile toast.file,
        (
          numbered_within c before after d three,
          step_number c before after d two kinds.ToastIndex toast.index_oid,
          (numbered_within c before after d (all_numbers t (Some toast)), step_number c before after d three kinds.ToastIndexFile toast.index_file, refl),
        ),
      ),
    )

-- ---- a table

-- what the statement makes of the database once its numbers are known
table_made : (c : Cluster) (before after : List DatabaseObjects) (d : DatabaseObjects) (t : Table) (numbers : Numbers) → IsPlace c before d.oid → are_distinct same_name (map enum_name d.enums) ≡ true → table_refusal c.roles c.tablespaces d t ≡ None
    → found (connected_database (numbered_within c before after d numbers)) (λ x. found (role_oid c (role_name c.roles t.owner)) (λ o. found (tablespace_oid c (tablespace_name c.tablespaces t.tablespace)) (λ s. found (columns_of x (map (column_text d.enums) t.columns)) (λ columns.
    with_table (with_one c before after d) x.oid (record t { owner = o; tablespace = s; columns = columns })))))
    ≡ Ok (with_one c before after (add_table t d))
table_made c before after d t numbers place differ free =
    let here : Cluster = with_one c before after d in
    let stands = not_false _ (no_cause _ _ _ _ _ free).stands in
    let owned : has_role c.roles t.owner ≡ true = and_left _ _ (and_left _ _ (and_left _ _ stands)) in
    let placed : has_tablespace c.tablespaces t.tablespace ≡ true = and_right _ _ (and_left _ _ (and_left _ _ stands)) in
    let texts : List ColumnText = map (column_text d.enums) t.columns in
    found_connected c before after d numbers (λ (x : DatabaseObjects). found (role_oid c (role_name c.roles t.owner)) (λ o. found (tablespace_oid c (tablespace_name c.tablespaces t.tablespace)) (λ s. found (columns_of x texts) (λ columns.
    with_table here x.oid (record t { owner = o; tablespace = s; columns = columns }))))) place.alone
    ∙ found_role c t.owner (λ o. found (tablespace_oid c (tablespace_name c.tablespaces t.tablespace)) (λ s. found (columns_of d texts) (λ columns. with_table here d.oid (record t { owner = o; tablespace = s; columns = columns })))) place.roles_differ owned
    ∙ found_tablespace c t.tablespace (λ s. found (columns_of d texts) (λ columns. with_table here d.oid (record t { tablespace = s; columns = columns }))) place.tablespaces_differ placed
    ∙ ap (λ (o : Option (List Column)). found o (λ columns. with_table here d.oid (record t { columns = columns }))) (columns_again d t.columns differ (and_right _ _ stands))
    ∙ changed_within c before after d (λ (x : DatabaseObjects). table_refusal c.roles c.tablespaces x t) (add_table t) place.alone free

step_table : (c : Cluster) (before after : List DatabaseObjects) (d : DatabaseObjects) (t : Table) → IsPlace c before d.oid → are_distinct same_name (map enum_name d.enums) ≡ true → table_refusal c.roles c.tablespaces d t ≡ None
    → step (numbered_within c before after d (all_numbers t t.toast)) (create_table c.roles c.tablespaces d.enums t) ≡ Ok (within c before after (add_table t d))
unfolding step
step_table c before after d t place differ free =
    let start : State = numbered_within c before after d (all_numbers t t.toast) in
    ap (λ (o : Option TableNumbers). numbered o (λ n. taken (without_table n.toast start.session)
    (found (connected_database start) (λ x. found (role_oid c (role_name c.roles t.owner)) (λ o. found (tablespace_oid c (tablespace_name c.tablespaces t.tablespace)) (λ s. found (columns_of x (map (column_text d.enums) t.columns)) (λ columns.
    with_table (with_one c before after d) x.oid (record { oid = n.oid; row_type = n.row_type; schema = t.schema; name = t.name; owner = o; tablespace = s; file = n.file; toast = n.toast; columns = columns })))))))) (numbers_are t t.toast)
    ∙ ap (taken (without_table t.toast start.session)) (table_made c before after d t (all_numbers t t.toast) place differ free)
    ∙ ap (λ session. taken session (Ok (with_one c before after (add_table t d)))) (numbers_taken c before after d t t.toast)

table_replays : (c : Cluster) (before after : List DatabaseObjects) (d : DatabaseObjects) (t : Table) → IsPlace c before d.oid → are_distinct same_name (map enum_name d.enums) ≡ true → table_refusal c.roles c.tablespaces d t ≡ None
    → Replays (within c before after d) (table_statements c.roles c.tablespaces d.enums t) (within c before after (add_table t d))
table_replays c before after d t place differ free =
    let one : Numbers = record no_numbers { type_oid = Some t.row_type } in
    let two : Numbers = record one { table = Some t.oid } in
    let last : List Statement = create_table c.roles c.tablespaces d.enums t ∷ [] in (
      numbered_within c before after d one,
      step_number c before after d no_numbers kinds.TypeOid t.row_type,
      (
        numbered_within c before after d two,
        step_number c before after d one kinds.Table t.oid,
        (
          numbered_within c before after d (first_numbers t),
          step_number c before after d two kinds.TableFile t.file,
          Replays-append (numbered_within c before after d (first_numbers t)) (numbered_within c before after d (all_numbers t t.toast)) (within c before after (add_table t d)) (toast_statements t.toast) last
              (toast_replays c before after d t t.toast) (within c before after (add_table t d), step_table c before after d t place differ free, refl),
        ),
      ),
    )

pub tables_replay : (c : Cluster) (before after : List DatabaseObjects) (d : DatabaseObjects) → IsPlace c before d.oid → are_distinct same_name (map enum_name d.enums) ≡ true
    → EachBehind (λ ts table. table_refusal c.roles c.tablespaces (with_tables d ts) table ≡ None) d.tables
    → Replays (within c before after (with_tables d [])) (flat_map (table_statements c.roles c.tablespaces d.enums) d.tables) (within c before after (with_tables d d.tables))
tables_replay c before after d place differ free =
    each_replays (λ ts. within c before after (with_tables d ts)) (table_statements c.roles c.tablespaces d.enums) [] d.tables
    (λ ts t more e. table_replays c before after (with_tables d ts) t place differ (free ts t more e))
