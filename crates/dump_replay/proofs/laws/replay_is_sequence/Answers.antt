use Rattle.dump_replay.proofs.SequenceLemmas as sequences
use Rattle.dump_replay.proofs.laws.replay_is_sequence.Goals as goal

pub returns : goal.returns
returns c = sequences.replay_is_sequence
