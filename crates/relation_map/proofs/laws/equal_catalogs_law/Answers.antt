use Rattle.relation_map.proofs.Alike.{same_carriages}
use Rattle.relation_map.proofs.laws.equal_catalogs_law.Goals as goal

pub returns : goal.returns
returns c job catalog valid = same_carriages job catalog valid
