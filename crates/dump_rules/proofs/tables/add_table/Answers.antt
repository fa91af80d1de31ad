use Rattle.std.proofs.Common.{refl, sym, ap, ◌∙◌}
use Rattle.std.specs.Option.{option_copied}
use Rattle.catalog.specs.Cluster.{DatabaseObjects}
use Rattle.dump_rules.proofs.KeptColumns.{forms_kept, table_kept}
use Rattle.dump_rules.proofs.tables.add_table.Goals as goal

pub add_table-requires : goal.add_table-requires
add_table-requires c =
    let made = sym c.in_ok-first_columns-in-Some-Some-Some.ensures ∙ c.in-Some.is in
    rw (c.requires.name, forms_kept c.in-Some-Some-Some.database.now c.args.columns.now c.in-Some.columns c.requires.columns made) refl

pub returns-in-Some-clause-ok : goal.returns-in-Some-clause-ok
returns-in-Some-clause-ok c =
    let there = sym c.connected_database-found.ensures ∙ ap option_copied c.in-Some-Some-Some.is-0 in
    let owned = sym c.role_oid-owned.ensures ∙ c.in-Some-Some-Some.is-1 in
    let spaced = sym c.tablespace_oid-spaced.ensures ∙ c.in-Some-Some-Some.is-2 in
    let made = sym c.in_ok-first_columns-in-Some-Some-Some.ensures ∙ c.in-Some.is in
    let same = ap (λ (d : DatabaseObjects). d.oid) c.database.view_is in
    rw (table_kept c.args.catalog.now c.args.connected _ c.args.schema c.args.name c.args.owner.now c.args.tablespace.now c.args.columns.now c.in-Some-Some-Some.database.now _ _ _ _ same there owned spaced made) c.add_table.ensures.ok

pub returns-in-Some-clause-refused : goal.returns-in-Some-clause-refused
returns-in-Some-clause-refused c =
    let there = sym c.connected_database-found.ensures ∙ ap option_copied c.in-Some-Some-Some.is-0 in
    let owned = sym c.role_oid-owned.ensures ∙ c.in-Some-Some-Some.is-1 in
    let spaced = sym c.tablespace_oid-spaced.ensures ∙ c.in-Some-Some-Some.is-2 in
    let made = sym c.in_ok-first_columns-in-Some-Some-Some.ensures ∙ c.in-Some.is in
    let same = ap (λ (d : DatabaseObjects). d.oid) c.database.view_is in
    rw (table_kept c.args.catalog.now c.args.connected _ c.args.schema c.args.name c.args.owner.now c.args.tablespace.now c.args.columns.now c.in-Some-Some-Some.database.now _ _ _ _ same there owned spaced made) c.add_table.ensures.refused
