use Rattle.dump_replay.proofs.SequenceLemmas as sequences
use Rattle.dump_replay.proofs.laws.allowed_is_replayed.Goals as goal

pub returns : goal.returns
returns c = sequences.allowed_is_replayed
