use Rattle.std.proofs.Common.{sym}
use Rattle.catalog_server.specs.ReplayNames.{holding_names}
use Rattle.server_profile.proofs.Adding.{adding}
use Rattle.server_profile.proofs.held.add_holdings.Goals as goal

pub loop-i-preserved : goal.loop-i-preserved
loop-i-preserved c =
    adding (holding_names c.args.root.now c.args.release c.args.database c.args.earlier.now c.args.relations.now) c.args.after.now.tablespaces c.loop-i.i c.in-Some.tablespace.now c.loop-i.names.items c.add_holding.new.names.items _ (sym c.in-Some.ensures) c.in_ok-add_holding-in-Some.ensures c.loop-i.invariant
