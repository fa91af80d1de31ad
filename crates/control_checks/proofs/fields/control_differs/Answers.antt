use Rattle.std.proofs.Common.{◌∙◌, Some, ap}
use Rattle.std.specs.Option.{option_map}
use Rattle.std.specs.List.{find}
use Rattle.control_checks.specs.Findings.{differs, told_pair}
use Rattle.control_checks.proofs.fields.control_differs.Goals as goal

pub returns-in-Some : goal.returns-in-Some
returns-in-Some c = ap (λ r. Some r) c.told_pair.ensures ∙ ap (option_map told_pair) c.in-Some.ensures ∙ ap (λ l. option_map told_pair (find differs l)) c.field_pairs-pairs.ensures
