use Rattle.phase_facts.proofs.Statusing.{carried_held, counted_held}
use Rattle.phase_facts.proofs.status.status_keeps_held.Goals as goal

pub returns-clause-carries : goal.returns-clause-carries
returns-clause-carries c job opening a b held goes = carried_held job opening a b held goes

pub returns-clause-counts : goal.returns-clause-counts
returns-clause-counts c job opening a b held goes keeps = counted_held job opening a b held goes keeps
