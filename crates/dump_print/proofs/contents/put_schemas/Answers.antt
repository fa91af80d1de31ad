use Rattle.std.proofs.Common.{sym}
use Rattle.dump_grammar.specs.Canonical.{schema_statements}
use Rattle.dump_print.proofs.Appends.{going}
use Rattle.dump_print.proofs.contents.put_schemas.Goals as goal

pub loop-i-preserved : goal.loop-i-preserved
loop-i-preserved c =
    going (schema_statements c.args.catalog.now.roles) c.args.database.now.schemas c.loop-i.i c.in-Some.schema.now c.loop-i.out.items c.put_schema.new.out.items _ (sym c.in-Some.ensures) c.in_ok-put_schema-in-Some.ensures c.loop-i.invariant
