use Rattle.std.proofs.Common.{◌∙◌}
use Rattle.std.proofs.lemmas.List.Sorted.{searched}
use Rattle.visibility.proofs.Listed.{rises_to, listed}
use Rattle.visibility.proofs.snapshot.is_listed.Goals as goal

pub returns : goal.returns
returns c = c.is_ok.ensures.value ∙ listed c.args.numbers.now c.args.number c.binary_search.result (searched c.args.numbers.now c.args.number c.binary_search.result c.binary_search.ensures.position (rises_to c.args.numbers.now c.requires))
