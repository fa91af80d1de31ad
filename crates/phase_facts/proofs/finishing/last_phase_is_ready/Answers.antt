use Rattle.phase_facts.proofs.Finishable.{can_finish, regions_stand}
use Rattle.phase_facts.proofs.finishing.last_phase_is_ready.Goals as goal

pub returns-clause-ready : goal.returns-clause-ready
returns-clause-ready c job catalog head stage opening now can places ends held well regions = can_finish job catalog head stage opening now can places ends held well regions

pub returns-clause-replay : goal.returns-clause-replay
returns-clause-replay c job catalog s stand = regions_stand job catalog s stand
