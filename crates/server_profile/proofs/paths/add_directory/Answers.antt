use Rattle.std.proofs.Common.{sym}
use Rattle.catalog_server.specs.ReplayNames.{databases_path}
use Rattle.server_profile.proofs.Directories.{kept, ok_added}
use Rattle.server_profile.proofs.paths.add_directory.Goals as goal

pub returns-in-Some : goal.returns-in-Some
returns-in-Some c =
    λ oid. kept (databases_path c.args.root.now c.args.release c.args.tablespace.now) c.args.tablespace.now.oid oid c.args.directories.now c.in-Some.field-0.now (sym c.in-Some.ensures)

pub returns-in_ok-databases_path-in-None : goal.returns-in_ok-databases_path-in-None
returns-in_ok-databases_path-in-None c =
    ok_added c.insert.result (databases_path c.args.root.now c.args.release c.args.tablespace.now) c.args.tablespace.now.oid c.args.directories.now c.insert.new.self (sym c.in-None.ensures) c.in_ok-databases_path-in-None.ensures c.insert.ensures
