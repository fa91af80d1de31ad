use Rattle.std.proofs.Common.{refl}
use Rattle.fs_model.specs.Names.{parent}
use Rattle.crash_safety.proofs.Settling.{mark_settled, mark_stands}
use Rattle.crash_safety.proofs.mark_laws.mark_is_made.Goals as goal

pub returns : goal.returns
returns c = record {
  settled = λ mark a b t d creates keeps syncs settled well_formed. mark_settled mark (parent mark) refl a b t d creates keeps syncs settled well_formed;
  stands = λ mark a b t d creates keeps syncs. mark_stands mark (parent mark) refl a b t d creates keeps syncs;
}
