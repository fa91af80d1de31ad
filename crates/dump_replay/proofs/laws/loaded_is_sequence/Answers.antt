use Rattle.dump_replay.proofs.LoadLemmas as loads
use Rattle.dump_replay.proofs.laws.loaded_is_sequence.Goals as goal

pub returns : goal.returns
returns c = loads.loaded_is_sequence
