use Rattle.std.proofs.Common.{None, Some}
use Rattle.fs_model.specs.Trail.{unless_lack}
use Rattle.fs_model.proofs.Observing.{reads_then}
use Rattle.plan_build.proofs.plans.add_segment.Goals as goal

pub returns-in-Ok-clause-reads : goal.returns-in-Ok-clause-reads
returns-in-Ok-clause-reads g c = reads_then _ _ _ None None tt c.in-Ok-true.ensures.reads c.in-Ok.ensures.reads

pub returns-in-Err-add_item-clause-reads : goal.returns-in-Err-add_item-clause-reads
returns-in-Err-add_item-clause-reads g c = reads_then _ _ _ None (unless_lack (Some c.in-Err-add_item.error)) tt c.in-Ok-true.ensures.reads c.in-Err-add_item.ensures.reads
