use Rattle.std.proofs.Common.{◌≡◌, ◌++◌, OnOk, sym, subst}
use Rattle.catalog_server.specs.ReplayNames.{tablespace_names}
use Rattle.server_profile.proofs.Adding.{old_tablespace, new_tablespace, adds_nothing}
use Rattle.server_profile.proofs.names.add_tablespace.Goals as goal

pub returns-in-Some : goal.returns-in-Some
returns-in-Some c =
    adds_nothing c.args.names.now.items (tablespace_names c.args.root.now c.args.release c.args.before.now c.args.tablespace.now)
    (old_tablespace c.args.root.now c.args.release c.args.before.now c.args.tablespace.now c.in-Some.field-0.now (sym c.in-Some.ensures))

pub returns-in-None : goal.returns-in-None
returns-in-None c =
    subst (λ more. OnOk c.add_location.result (c.add_location.new.names.items ≡ c.args.names.now.items ++ more))
    (new_tablespace c.args.root.now c.args.release c.args.before.now c.args.tablespace.now (sym c.in-None.ensures)) c.add_location.ensures
