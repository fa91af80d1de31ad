use Rattle.phase_facts.proofs.Disabled.{rename_free}
use Rattle.phase_facts.proofs.disabling.rename_stays_free.Goals as goal

pub returns : goal.returns
returns c job opening a disabling held = rename_free job opening a disabling held
