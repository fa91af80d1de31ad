use Rattle.link_transfer.proofs.Joining.{share_only, same_file}
use Rattle.link_transfer.proofs.laws.only_carried_are_shared.Goals as goal

pub returns : goal.returns
returns c = record {
  others = λ items old new s t apart inside none keeps. share_only items old new s t apart inside keeps none;
  carried = λ items old new s t apart inside item in_old keeps linked. same_file items old new s t apart inside keeps item in_old linked;
}
