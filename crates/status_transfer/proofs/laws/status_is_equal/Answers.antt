use Rattle.status_transfer.specs.Status.{commit_log_dir, offsets_dir, members_dir}
use Rattle.status_transfer.proofs.Staying.{dir_equal}
use Rattle.status_transfer.proofs.laws.status_is_equal.Goals as goal

pub returns : goal.returns
returns c = record {
  commit_log = λ s t old new carried name. dir_equal (commit_log_dir old) (commit_log_dir new) s t carried.commit_log name;
  offsets = λ s t old new carried name. dir_equal (offsets_dir old) (offsets_dir new) s t carried.multixacts.offsets name;
  members = λ s t old new carried name. dir_equal (members_dir old) (members_dir new) s t carried.multixacts.members name;
}
