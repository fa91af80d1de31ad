use Rattle.std.proofs.Common.{Some, None}
use Rattle.fs_model.specs.Calls.{Stats}
use Rattle.fs_model.specs.Trail.{error_of}
use Rattle.fs_model.proofs.Observing.{one_reads, reads_unless_lack}
use Rattle.fs_tools.proofs.Answering.{reads_on, lacked}
use Rattle.fs_tools.proofs.walks.look_at.Goals as goal

pub returns-in_err-stat-clause-reads : goal.returns-in_err-stat-clause-reads
returns-in_err-stat-clause-reads g c =
    reads_unless_lack _ _ (error_of c.from_residual.result) (reads_on _ _ c.from_residual.result c.in_err-stat.field-0.0 c.from_residual.ensures.1
    (one_reads _ _ (Stats c.args.at.now) (Some c.in_err-stat.field-0.0) tt c.stat.ensures.told c.stat.ensures.firm c.stat.ensures.depth c.in_err-stat.ensures.steps c.in_err-stat.ensures.cause))

pub returns-in_err-look-clause-reads : goal.returns-in_err-look-clause-reads
returns-in_err-look-clause-reads g c =
    lacked _ _ c.from_residual-in_err-look.result c.from_residual-in_err-look.ensures.1
    (one_reads _ _ (Stats c.args.at.now) None tt c.stat.ensures.told c.stat.ensures.firm c.stat.ensures.depth c.in_ok-stat.ensures.steps c.in_ok-stat.ensures.cause)

pub returns-clause-reads : goal.returns-clause-reads
returns-clause-reads g c =
    one_reads _ _ (Stats c.args.at.now) None tt c.stat.ensures.told c.stat.ensures.firm c.stat.ensures.depth c.in_ok-stat.ensures.steps c.in_ok-stat.ensures.cause
