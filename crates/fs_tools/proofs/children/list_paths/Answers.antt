use Rattle.std.proofs.Common.{Some, None}
use Rattle.fs_model.specs.Calls.{Lists}
use Rattle.fs_model.specs.Trail.{error_of}
use Rattle.fs_model.proofs.Observing.{one_reads, reads_unless_lack}
use Rattle.fs_tools.proofs.Answering.{reads_on, lacked_if}
use Rattle.fs_tools.proofs.children.list_paths.Goals as goal

pub returns-in_err-names-clause-reads : goal.returns-in_err-names-clause-reads
returns-in_err-names-clause-reads g c =
    reads_unless_lack _ _ (error_of c.from_residual.result) (reads_on _ _ c.from_residual.result c.in_err-names.field-0.0 c.from_residual.ensures.1
    (one_reads _ _ (Lists c.args.at.now) (Some c.in_err-names.field-0.0) tt c.list.ensures.told c.list.ensures.firm c.list.ensures.depth c.in_err-names.ensures.steps c.in_err-names.ensures.cause))

pub returns-clause-reads : goal.returns-clause-reads
returns-clause-reads g c =
    lacked_if _ _ c.child_paths.result c.child_paths.ensures.lack
    (one_reads _ _ (Lists c.args.at.now) None tt c.list.ensures.told c.list.ensures.firm c.list.ensures.depth c.in_ok-names.ensures.steps c.in_ok-names.ensures.cause)
