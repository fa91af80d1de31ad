use Rattle.std.proofs.Common.{sym}
use Rattle.catalog_server.specs.ReplayNames.{held_names}
use Rattle.server_profile.proofs.Adding.{adding}
use Rattle.server_profile.proofs.held.add_held.Goals as goal

pub loop-i-preserved : goal.loop-i-preserved
loop-i-preserved c =
    adding (held_names c.args.root.now c.args.release c.args.before.now c.args.after.now) c.args.after.now.databases c.loop-i.i c.in-Some.database.now c.loop-i.names.items c.add_database.new.names.items _ (sym c.in-Some.ensures) c.in_ok-add_database-in-Some.ensures c.loop-i.invariant
