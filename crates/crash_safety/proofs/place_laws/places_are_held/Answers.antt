use Rattle.crash_safety.proofs.Needing.{below_stands}
use Rattle.crash_safety.proofs.Placing.{place_held}
use Rattle.crash_safety.proofs.place_laws.places_are_held.Goals as goal

pub returns : goal.returns
returns c = record {
  below = λ top path name rest is. below_stands top path name rest is;
  regions = λ locations release top path inside. place_held locations release top path inside;
}
