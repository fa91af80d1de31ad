use Rattle.std.proofs.Common.{rules, append_assoc}
use Rattle.catalog_server.specs.ReplayNames.{relations_of}
use Rattle.server_profile.proofs.relations.relations_of.Goals as goal

pub returns : goal.returns
unfolding relations_of
returns c = search (rules, append_assoc)
