use Rattle.std.proofs.Common.{sym}
use Rattle.catalog_server.specs.ReplayNames.{index_relation}
use Rattle.server_profile.proofs.Adding.{adding_one}
use Rattle.server_profile.proofs.relations.add_indexes.Goals as goal

pub loop-i-preserved : goal.loop-i-preserved
loop-i-preserved c =
    adding_one index_relation c.args.database.now.indexes c.loop-i.i c.in-Some.index.now c.loop-i.relations.items c.push.new.self.items _ (sym c.in-Some.ensures) c.in_ok-push-in-Some.ensures.items c.loop-i.invariant
