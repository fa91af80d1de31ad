use Rattle.new_names.proofs.Runs.{listed_within}
use Rattle.catalog_server.specs.ReplayNames.{listed_names}
use Rattle.catalog_server.specs.Within.{replay_tops}
use Rattle.catalog_server.proofs.Inside.{listed_inside}
use Rattle.catalog_server.proofs.laws.replay_stays_within.Goals as goal

pub returns : goal.returns
returns c root release before after start s call makes =
    listed_within (listed_names root release before after) (replay_tops root release after) (listed_inside root release before after) start s call makes
