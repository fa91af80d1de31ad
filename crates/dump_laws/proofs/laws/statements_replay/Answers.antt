use Rattle.dump_laws.proofs.Cluster as cluster
use Rattle.dump_laws.proofs.laws.statements_replay.Goals as goal

pub returns : goal.returns
returns c = cluster.statements_replay
