use Rattle.compat_checks.proofs.Places.{at_place, place_at, one_at_place}
use Rattle.compat_checks.proofs.laws.conditions_are_ordered.Goals as goal

pub returns-clause-stands : goal.returns-clause-stands
returns-clause-stands c condition = at_place condition

pub returns-clause-once : goal.returns-clause-once
returns-clause-once c n condition at = place_at n condition at

pub returns-clause-one : goal.returns-clause-one
returns-clause-one c a b same = one_at_place a b same
