use Rattle.upgrade_checks.proofs.Firsts.{first_found, nothing_found, nothing_passes}
use Rattle.upgrade_checks.proofs.laws.first_found_is_first.Goals as goal

pub returns-clause-first : goal.returns-clause-first
returns-clause-first c s job readings refusal found = first_found s job readings refusal found

pub returns-clause-nothing : goal.returns-clause-nothing
returns-clause-nothing c s job readings none = nothing_found s job readings none

pub returns-clause-passes : goal.returns-clause-passes
returns-clause-passes c s job readings nothing = nothing_passes s job readings nothing
