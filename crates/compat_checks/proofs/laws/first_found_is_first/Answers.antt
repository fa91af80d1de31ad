use Rattle.compat_checks.proofs.Firsts.{none_passes, found_first, passes_none, one_first, first_found}
use Rattle.compat_checks.proofs.laws.first_found_is_first.Goals as goal

pub returns-clause-first : goal.returns-clause-first
returns-clause-first c found own refusal = (found_first found own refusal, first_found found own refusal)

pub returns-clause-one : goal.returns-clause-one
returns-clause-one c found a b first other = one_first found a b first other

pub returns-clause-none : goal.returns-clause-none
returns-clause-none c found own = (none_passes found, passes_none found own)
