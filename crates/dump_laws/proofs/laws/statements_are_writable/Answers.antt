use Rattle.dump_laws.proofs.WritableObjects as objects
use Rattle.dump_laws.proofs.laws.statements_are_writable.Goals as goal

pub returns : goal.returns
returns c = objects.statements_writable
