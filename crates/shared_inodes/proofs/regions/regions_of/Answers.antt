use Rattle.std.proofs.Common.{Some, None, Err}
use Rattle.fs_model.specs.Trail.{unless_lack}
use Rattle.fs_model.proofs.Observing.{reads_then}
use Rattle.fs_tools.proofs.Answering.{reads_on_lack, lacked_if}
use Rattle.shared_inodes.proofs.regions.regions_of.Goals as goal

pub returns-in-Err-add_locations-clause-reads : goal.returns-in-Err-add_locations-clause-reads
returns-in-Err-add_locations-clause-reads g c = reads_then _ _ _ None (unless_lack (Some c.in-Err-add_locations.error)) tt c.in_default.ensures.reads c.in-Err-add_locations.ensures.reads

pub returns-in_err-new-clause-reads : goal.returns-in_err-new-clause-reads
returns-in_err-new-clause-reads g c =
    reads_on_lack _ _ c.from_residual-in_err-new.result c.in_err-new.field-0.0 c.from_residual-in_err-new.ensures.1
    (lacked_if {T = Unit {0}} _ _ (Err c.in_err-new.field-0.0) c.in_err-new.ensures.lack (reads_then _ _ _ None None tt c.in_default.ensures.reads c.in_default-add_locations.ensures.reads))

pub returns-clause-reads : goal.returns-clause-reads
returns-clause-reads g c = reads_then _ _ _ None None tt c.in_default.ensures.reads c.in_default-add_locations.ensures.reads
