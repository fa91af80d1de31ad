use Rattle.phase_facts.proofs.Disabled.{disabling_safe, disabled_held}
use Rattle.phase_facts.proofs.disabling.disabling_keeps_held.Goals as goal

pub returns-clause-safe : goal.returns-clause-safe
returns-clause-safe c job opening a b disabling held dir sound lasts goes = disabling_safe job opening a b disabling held dir sound lasts goes

pub returns-clause-held : goal.returns-clause-held
returns-clause-held c job opening a b disabling held dir sound lasts goes moved done = disabled_held job opening a b disabling held dir sound lasts goes moved done
