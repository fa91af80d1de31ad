use Rattle.phase_facts.proofs.Spared.{still_carried, still_devices}
use Rattle.phase_facts.proofs.plans.disabling_spares_plans.Goals as goal

pub returns-clause-carried : goal.returns-clause-carried
returns-clause-carried c job opening a b items begins plan dir goes can = still_carried job opening.present begins items plan dir a b goes can

pub returns-clause-devices : goal.returns-clause-devices
returns-clause-devices c job opening a b items begins plan dir goes have = still_devices job opening.present begins items plan dir a b goes have
