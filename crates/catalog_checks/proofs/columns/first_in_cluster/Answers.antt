use Rattle.std.proofs.Common.{◌∙◌, sym}
use Rattle.catalog_checks.specs.Columns.{have_few_columns, database_columns}
use Rattle.catalog_checks.proofs.Searching.{all_at}
use Rattle.catalog_checks.proofs.Placing.{place_here, place_more}
use Rattle.catalog_checks.proofs.columns.first_in_cluster.Goals as goal

pub first_in_database-requires : goal.first_in_database-requires
first_in_database-requires c = all_at have_few_columns c.args.catalog.now.databases c.loop-i.i c.in-Some.database.now c.requires (sym c.in-Some.ensures)

pub returns-in-Some-first_in_database : goal.returns-in-Some-first_in_database
returns-in-Some-first_in_database c =
    place_here c.args.test database_columns c.args.catalog.now.databases c.loop-i.i c.in-Some.database.now c.in-Some-first_in_database.place _ (sym c.in-Some.ensures) c.in-Some-first_in_database.ensures c.loop-i.invariant

pub loop-i-preserved : goal.loop-i-preserved
loop-i-preserved c =
    place_more c.args.test database_columns c.args.catalog.now.databases c.loop-i.i c.in-Some.database.now _ (sym c.in-Some.ensures) c.in_default.ensures c.loop-i.invariant
