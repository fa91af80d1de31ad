use Rattle.fs_model.proofs.Going.{goes_weaker}
use Rattle.crash_safety.specs.Frame.{StaysWithin}
use Rattle.crash_safety.specs.Calling.{MakesWithin}
use Rattle.crash_safety.proofs.Going.{goes_lacks}
use Rattle.status_transfer.specs.Carried.{CarriesInto}
use Rattle.status_transfer.proofs.Framing.{carries_within, carries_since, in_inside}
use Rattle.status_transfer.proofs.Sharing.{carries_share_none}
use Rattle.status_transfer.proofs.laws.carrying_stays_within.Goals as goal

pub returns : goal.returns
returns c = record {
  makes = λ dirs a b goes. goes_weaker (CarriesInto dirs a.present) (MakesWithin dirs a.present) (carries_within dirs a.present) goes;
  frame = λ dirs a b goes. carries_since dirs a b goes;
  shares_none = λ dirs a b goes. carries_share_none dirs a b goes;
  lacks = λ dirs path outside a b lacks goes.
      goes_lacks dirs path outside a b lacks (goes_weaker (CarriesInto dirs a.present) (StaysWithin dirs a.present) (λ s call allowed. (carries_within dirs a.present s call allowed).0) goes);
  inside = λ dirs path within. in_inside dirs path within;
}
