use Rattle.crash_safety.proofs.Placing.{apart_outside}
use Rattle.crash_safety.proofs.place_laws.places_stand_apart.Goals as goal

pub returns : goal.returns
returns c tops others apart path inside = apart_outside tops others apart path inside
