use Rattle.std.proofs.Common.{sym}
use Rattle.dump_grammar.specs.Canonical.{sequence_statements}
use Rattle.dump_print.proofs.Appends.{going}
use Rattle.dump_print.proofs.contents.put_sequences.Goals as goal

pub loop-i-preserved : goal.loop-i-preserved
loop-i-preserved c =
    going (sequence_statements c.args.catalog.now.roles) c.args.database.now.sequences c.loop-i.i c.in-Some.sequence.now c.loop-i.out.items c.put_sequence.new.out.items _ (sym c.in-Some.ensures) c.in_ok-put_sequence-in-Some.ensures c.loop-i.invariant
