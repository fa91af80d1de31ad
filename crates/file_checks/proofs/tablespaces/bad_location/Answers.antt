use Rattle.std.proofs.Common.{None}
use Rattle.fs_model.specs.Trail.{error_of, unless_lack}
use Rattle.fs_model.proofs.Observing.{reads_then}
use Rattle.file_checks.proofs.tablespaces.bad_location.Goals as goal

pub returns-in-Ok-None-clause-reads : goal.returns-in-Ok-None-clause-reads
returns-in-Ok-None-clause-reads g c = reads_then _ _ _ None (unless_lack (error_of c.bad_place.result)) tt c.in-Ok-None.ensures.reads c.bad_place.ensures.reads
