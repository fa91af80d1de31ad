use Rattle.fs_state.proofs.Kept.{kept}
use Rattle.fs_state.proofs.laws.calls_keep_well_formed.Goals as goal

pub returns : goal.returns
returns c = λ s call answer effect w may. kept s w call answer effect may
