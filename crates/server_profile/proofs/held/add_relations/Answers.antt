use Rattle.std.proofs.Common.{sym}
use Rattle.server_profile.specs.Directories.{relation_in}
use Rattle.server_profile.proofs.Adding.{adding}
use Rattle.server_profile.proofs.held.add_relations.Goals as goal

pub loop-i-preserved : goal.loop-i-preserved
loop-i-preserved c =
    adding (relation_in c.args.directories.now c.args.database c.args.earlier.now) c.args.relations.now c.loop-i.i c.in-Some.relation.now c.loop-i.names.items c.add_relation.new.names.items _ (sym c.in-Some.ensures) c.in_ok-add_relation-in-Some.ensures c.loop-i.invariant
