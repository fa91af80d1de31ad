use Rattle.std.proofs.Common.{sym}
use Rattle.catalog_server.specs.ReplayNames.{sequence_relation}
use Rattle.server_profile.proofs.Adding.{adding_one}
use Rattle.server_profile.proofs.relations.add_sequences.Goals as goal

pub loop-i-preserved : goal.loop-i-preserved
loop-i-preserved c =
    adding_one sequence_relation c.args.database.now.sequences c.loop-i.i c.in-Some.sequence.now c.loop-i.relations.items c.push.new.self.items _ (sym c.in-Some.ensures) c.in_ok-push-in-Some.ensures.items c.loop-i.invariant
