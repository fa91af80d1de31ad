use Rattle.std.proofs.Common.{rules, append_assoc}
use Rattle.relation_map.specs.Named.{relations_named}
use Rattle.relation_map.proofs.named.relations_named.Goals as goal

pub returns : goal.returns
unfolding relations_named
returns c = search (rules, append_assoc)
