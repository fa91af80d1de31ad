use Rattle.passed_checks.proofs.Located.{locations_ready, places_apart}
use Rattle.passed_checks.proofs.tablespaces.tablespaces_law.Goals as goal

pub returns : goal.returns
returns c = record {
  ready = λ s old new c none. locations_ready s old new c none;
  apart = λ s old new c none old_apart new_apart path in_old. places_apart s old new c none old_apart new_apart path in_old;
}
