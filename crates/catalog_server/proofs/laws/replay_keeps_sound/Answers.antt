use Rattle.fs_model.proofs.Going.{goes_weaker}
use Rattle.crash_safety.specs.Calling.{MakesWithin}
use Rattle.crash_safety.proofs.Going.{goes_sound}
use Rattle.new_names.specs.Frame.{MakesListed}
use Rattle.new_names.proofs.Runs.{listed_within}
use Rattle.catalog_server.specs.ReplayNames.{listed_names}
use Rattle.catalog_server.specs.Within.{replay_tops}
use Rattle.catalog_server.proofs.Inside.{listed_inside}
use Rattle.catalog_server.proofs.laws.replay_keeps_sound.Goals as goal

pub returns : goal.returns
returns c u ready stage still root release before after inside a b sound goes =
    let listed = listed_names root release before after in
    let tops = replay_tops root release after in
    goes_sound u ready stage tops inside still a b sound
    (goes_weaker (MakesListed listed a.present) (MakesWithin tops a.present) (λ s call makes. listed_within listed tops (listed_inside root release before after) a.present s call makes) goes)
