use Rattle.upgraded.proofs.Marking.{own_states, own_crashes, same_states}
use Rattle.upgraded.proofs.laws.mark_is_own.Goals as goal

pub returns : goal.returns
returns c = record {
  states = λ mark a m b lacks syncs marks. own_states mark a m b lacks syncs marks;
  crashes = λ mark a m b lacks syncs marks. own_crashes mark a m b lacks syncs marks;
  rest = λ mark a m b lacks syncs marks well. same_states mark a m b lacks syncs marks well;
}
