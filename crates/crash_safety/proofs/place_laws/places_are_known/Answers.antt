use Rattle.crash_safety.proofs.Placing.{inside_region, region_inside}
use Rattle.crash_safety.proofs.place_laws.places_are_known.Goals as goal

pub returns : goal.returns
returns c = record {
  inside = λ names old top release path inside. inside_region names old release path top inside;
  all = λ names old top release path known. region_inside names old release path top known;
}
