use Rattle.dump_replay.proofs.LoadLemmas as loads
use Rattle.dump_replay.proofs.laws.sequence_is_loaded.Goals as goal

pub returns : goal.returns
returns c = loads.sequence_is_loaded
