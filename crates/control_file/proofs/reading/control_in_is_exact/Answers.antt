use Rattle.control_file.proofs.RecordCauses.{control_in-Err, control_in-Ok}
use Rattle.control_file.proofs.reading.control_in_is_exact.Goals as goal

pub returns-clause-accepted : goal.returns-clause-accepted
returns-clause-accepted c bytes release = control_in-Ok bytes release

pub returns-clause-refused : goal.returns-clause-refused
returns-clause-refused c bytes release cause = control_in-Err bytes release cause
