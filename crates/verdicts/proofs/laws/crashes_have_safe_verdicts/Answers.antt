use Rattle.crash_safety.proofs.Crashed.{image_safe}
use Rattle.verdicts.specs.Crashed.{upgrade_to_16}
use Rattle.verdicts.proofs.Crashing.{safe_verdict, known_links}
use Rattle.verdicts.proofs.laws.crashes_have_safe_verdicts.Goals as goal

pub returns : goal.returns
returns c = record {
  safe = λ start old new disables ready stood x safe known verdict is. safe_verdict start old new disables ready x safe stood known verdict is;
  crashes = λ start old new disables ready stood stage s x sound makes image verdict is.
      safe_verdict start old new disables ready x (image_safe (upgrade_to_16 start old new disables) ready stage s x sound image) stood (known_links start.names old new s x makes image) verdict is;
}
