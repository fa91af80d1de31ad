use Rattle.heap_tuple.proofs.ExtentLemmas.{stored_lies, stored_apart}
use Rattle.heap_tuple.proofs.laws.fields_law.Goals as goal

pub returns-clause-within : goal.returns-clause-within
returns-clause-within c = stored_lies

pub returns-clause-apart : goal.returns-clause-apart
returns-clause-apart c = stored_apart
