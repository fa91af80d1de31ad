use Rattle.control_file.proofs.RecordFields.{control_in-take, control_of-take}
use Rattle.control_file.proofs.reading.control_in_rests_on_its_record.Goals as goal

pub returns-clause-fields : goal.returns-clause-fields
returns-clause-fields c bytes = control_of-take bytes

pub returns-clause-answer : goal.returns-clause-answer
returns-clause-answer c bytes release = control_in-take bytes release
