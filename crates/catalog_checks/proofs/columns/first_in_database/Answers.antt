use Rattle.std.proofs.Common.{◌≡◌, ◌∙◌, ℕ, ap, sym}
use Rattle.catalog.specs.declared.relations.Table.{Table}
use Rattle.catalog_checks.specs.declared.columns.TypeTest.{TypeTest}
use Rattle.catalog.specs.Cluster.{DatabaseObjects}
use Rattle.catalog_checks.specs.Columns.{has_few_columns, table_columns, first_place}
use Rattle.catalog_checks.proofs.Searching.{all_at}
use Rattle.catalog_checks.proofs.Placing.{place_here, place_more}
use Rattle.catalog_checks.proofs.columns.first_in_database.Goals as goal

-- the database's own OID
own : (a b : ℕ) → a ≡ b → (test : TypeTest) (table : Table) → first_place test (table_columns a table) ≡ first_place test (table_columns b table)
own a b same test table = ap (λ n. first_place test (table_columns n table)) same

pub first_in_table-requires : goal.first_in_table-requires
first_in_table-requires c = all_at has_few_columns c.args.database.now.tables c.loop-i.i c.in-Some.table.now c.requires (sym c.in-Some.ensures)

pub returns-in-Some-first_in_table : goal.returns-in-Some-first_in_table
returns-in-Some-first_in_table c =
    place_here c.args.test (table_columns c.args.database.now.oid) c.args.database.now.tables c.loop-i.i c.in-Some.table.now c.in-Some-first_in_table.place _ (sym c.in-Some.ensures) (c.in-Some-first_in_table.ensures ∙ own c.database.inside.oid c.args.database.now.oid (ap (λ (d : DatabaseObjects). d.oid) c.database.view_is) c.args.test c.in-Some.table.now) c.loop-i.invariant

pub loop-i-preserved : goal.loop-i-preserved
loop-i-preserved c =
    place_more c.args.test (table_columns c.args.database.now.oid) c.args.database.now.tables c.loop-i.i c.in-Some.table.now _ (sym c.in-Some.ensures) (c.in_default.ensures ∙ own c.database.inside.oid c.args.database.now.oid (ap (λ (d : DatabaseObjects). d.oid) c.database.view_is) c.args.test c.in-Some.table.now) c.loop-i.invariant
