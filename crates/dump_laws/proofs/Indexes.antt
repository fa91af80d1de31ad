-- The statements of a database's indexes lead to them.
use Rattle.std.proofs.Common.{◌≡◌, ℕ, Bool, true, false, cond, List, [], ◌∷◌, map, Option, Some, None, Ok, refl, ap, ◌∙◌}
use Rattle.std.specs.Prelude.{◌||◌}
use Rattle.std.specs.List.{list_any, find, flat_map}
use Rattle.catalog.specs.declared.relations.Table.{Table}
use Rattle.catalog.specs.declared.relations.Index.{Index}
use Rattle.catalog.specs.Lists.{are_distinct}
use Rattle.catalog.specs.Cluster.{DatabaseObjects, Cluster}
use Rattle.catalog.specs.Spaces.{table_has, same_name, table_name}
use Rattle.catalog.specs.Forms.{has_tablespace, keys_stand}
use Rattle.catalog.specs.Refusals.{index_refusal}
use Rattle.catalog.specs.Changes.{with_index, add_index}
use Rattle.catalog.proofs.ListLemmas.{and_left, and_right, not_false}
use Rattle.catalog.proofs.CauseLemmas.{no_cause}
use Rattle.catalog_laws.specs.Unrefused.{EachBehind, with_indexes}
use Rattle.dump_grammar.specs.declared.statement.NextKind.TheVariants as kinds
use Rattle.dump_grammar.specs.Canonical.{Place, table_place, tablespace_name, create_index, index_statements}
use Rattle.dump_rules.specs.declared.numbers.Numbers.{Numbers}
use Rattle.dump_rules.specs.Rules.{State, no_numbers, found, taken, tablespace_oid, table_oid, step, Replays}
use Rattle.dump_laws.proofs.Lookups.{table_again}
use Rattle.dump_laws.proofs.Replaying.{each_replays}
use Rattle.dump_laws.proofs.Databases.{numbered_within, within, IsPlace, step_number, found_connected, found_tablespace, changed_within}

-- keys that stand are those of a table that is there
table_there : (keys : List ℕ) (p : Table → Bool) (ts : List Table) → keys_stand keys (find p ts) ≡ true → list_any p ts ≡ true
table_there keys p [] h = h
table_there keys p (t ∷ ts) h =
    let P : Bool → Type 0 = λ b. keys_stand keys (cond b (Some t) (find p ts)) ≡ true → (b || list_any p ts) ≡ true in
    elim (p t) as P [ true ↦ λ _. refl | false ↦ λ more. table_there keys p ts more ] h

abbrev index_numbers : Index → Numbers
index_numbers x = record no_numbers { index = Some x.oid; index_file = Some x.file }

step_index : (c : Cluster) (before after : List DatabaseObjects) (d : DatabaseObjects) (x : Index) → IsPlace c before d.oid → are_distinct same_name (map table_name d.tables) ≡ true → index_refusal c.tablespaces d x ≡ None
    → step (numbered_within c before after d (index_numbers x)) (create_index c.tablespaces (table_place d.tables x.table) x) ≡ Ok (within c before after (add_index x d))
unfolding step
step_index c before after d x place differ free =
    let here : State = within c before after d in
    let at : Place = table_place d.tables x.table in
    let stands = not_false _ (no_cause _ _ _ _ _ free).stands in
    let placed : has_tablespace c.tablespaces x.tablespace ≡ true = and_left _ _ stands in
    let over : list_any (table_has x.table) d.tables ≡ true = table_there x.keys (table_has x.table) d.tables (and_right _ _ stands) in
    ap (taken here.session)
    (found_connected c before after d (index_numbers x) (λ (y : DatabaseObjects). found (table_oid y at.schema at.name) (λ t. found (tablespace_oid here.catalog (tablespace_name c.tablespaces x.tablespace)) (λ s. with_index here.catalog y.oid (record x { table = t; tablespace = s })))) place.alone
    ∙ ap (λ (o : Option ℕ). found o (λ t. found (tablespace_oid here.catalog (tablespace_name c.tablespaces x.tablespace)) (λ s. with_index here.catalog d.oid (record x { table = t; tablespace = s })))) (table_again d x.table differ over)
    ∙ found_tablespace here.catalog x.tablespace (λ s. with_index here.catalog d.oid (record x { tablespace = s })) place.tablespaces_differ placed
    ∙ changed_within c before after d (λ (y : DatabaseObjects). index_refusal c.tablespaces y x) (add_index x) place.alone free)

index_replays : (c : Cluster) (before after : List DatabaseObjects) (d : DatabaseObjects) (x : Index) → IsPlace c before d.oid → are_distinct same_name (map table_name d.tables) ≡ true → index_refusal c.tablespaces d x ≡ None
    → Replays (within c before after d) (index_statements c.tablespaces d.tables x) (within c before after (add_index x d))
index_replays c before after d x place differ free = (
  numbered_within c before after d (record no_numbers { index = Some x.oid }),
  step_number c before after d no_numbers kinds.Index x.oid,
  (
    numbered_within c before after d (index_numbers x),
    step_number c before after d (record no_numbers { index = Some x.oid }) kinds.IndexFile x.file,
    (within c before after (add_index x d), step_index c before after d x place differ free, refl),
  ),
)

pub indexes_replay : (c : Cluster) (before after : List DatabaseObjects) (d : DatabaseObjects) → IsPlace c before d.oid → are_distinct same_name (map table_name d.tables) ≡ true
    → EachBehind (λ xs index. index_refusal c.tablespaces (with_indexes d xs) index ≡ None) d.indexes
    → Replays (within c before after (with_indexes d [])) (flat_map (index_statements c.tablespaces d.tables) d.indexes) (within c before after (with_indexes d d.indexes))
indexes_replay c before after d place differ free =
    each_replays (λ xs. within c before after (with_indexes d xs)) (index_statements c.tablespaces d.tables) [] d.indexes
    (λ xs x more e. index_replays c before after (with_indexes d xs) x place differ (free xs x more e))
