use Rattle.std.proofs.Common.{sym}
use Rattle.server_profile.proofs.Directories.{directory_first, directory_next}
use Rattle.std.specs.Option.{option_map}
use Rattle.std.specs.List.{find}
use Rattle.catalog.specs.Spaces.{tablespace_has}
use Rattle.catalog_server.specs.ReplayNames.{databases_path}
use Rattle.server_profile.proofs.paths.directories.Goals as goal

pub loop-i-init : goal.loop-i-init
loop-i-init c =
    λ oid. directory_first c.new-directories.result oid (option_map (databases_path c.args.root.now c.args.release) (find (tablespace_has oid) c.args.catalog.now.tablespaces)) c.new-directories.ensures

pub loop-i-preserved : goal.loop-i-preserved
loop-i-preserved c =
    λ oid. directory_next c.args.root.now c.args.release c.args.catalog.now.tablespaces oid c.loop-i.directories c.add_directory.new.directories c.loop-i.i c.in-Some.tablespace.now (sym c.in-Some.ensures) (c.in_ok-add_directory-in-Some.ensures oid) (c.loop-i.invariant oid)
