use Rattle.std.proofs.Common.{sym}
use Rattle.catalog_server.specs.ReplayNames.{tablespace_names}
use Rattle.server_profile.proofs.Adding.{adding}
use Rattle.server_profile.proofs.names.add_tablespaces.Goals as goal

pub loop-i-preserved : goal.loop-i-preserved
loop-i-preserved c =
    adding (tablespace_names c.args.root.now c.args.release c.args.before.now) c.args.after.now.tablespaces c.loop-i.i c.in-Some.tablespace.now c.loop-i.names.items c.add_tablespace.new.names.items _ (sym c.in-Some.ensures) c.in_ok-add_tablespace-in-Some.ensures c.loop-i.invariant
