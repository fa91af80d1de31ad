use Rattle.std.proofs.Common.{Some, None}
use Rattle.fs_model.specs.Calls.{Stats}
use Rattle.fs_model.proofs.Observing.{one_reads, reads_then, reads_unless_lack}
use Rattle.fs_model.specs.Trail.{error_of}
use Rattle.fs_tools.proofs.Answering.{reads_on, lacked}
use Rattle.fs_tools.proofs.reads.read_all.Goals as goal

pub returns-in_err-size-clause-reads : goal.returns-in_err-size-clause-reads
returns-in_err-size-clause-reads g c =
    reads_unless_lack _ _ (error_of c.from_residual.result) (reads_on _ _ c.from_residual.result c.in_err-size.field-0.0 c.from_residual.ensures.1
    (one_reads _ _ (Stats c.args.at.now) (Some c.in_err-size.field-0.0) tt c.stat.ensures.told c.stat.ensures.firm c.stat.ensures.depth c.in_err-size.ensures.steps c.in_err-size.ensures.cause))

pub returns-in_err-bytes-clause-reads : goal.returns-in_err-bytes-clause-reads
returns-in_err-bytes-clause-reads g c =
    lacked _ _ c.from_residual-in_err-bytes.result c.from_residual-in_err-bytes.ensures.1
    (one_reads _ _ (Stats c.args.at.now) None tt c.stat.ensures.told c.stat.ensures.firm c.stat.ensures.depth c.in_ok-size.ensures.steps c.in_ok-size.ensures.cause)

pub returns-in_err-count-clause-reads : goal.returns-in_err-count-clause-reads
returns-in_err-count-clause-reads g c =
    reads_unless_lack _ _ (error_of c.from_residual-in_err-count.result) (reads_on _ _ c.from_residual-in_err-count.result c.in_err-count.field-0.0 c.from_residual-in_err-count.ensures.1
    (reads_then _ _ _ None (Some c.in_err-count.field-0.0) tt
    (one_reads _ _ (Stats c.args.at.now) None tt c.stat.ensures.told c.stat.ensures.firm c.stat.ensures.depth c.in_ok-size.ensures.steps c.in_ok-size.ensures.cause)
    c.in_err-count.ensures.reads))

pub returns-clause-reads : goal.returns-clause-reads
returns-clause-reads g c =
    reads_then _ _ _ None None tt
    (one_reads _ _ (Stats c.args.at.now) None tt c.stat.ensures.told c.stat.ensures.firm c.stat.ensures.depth c.in_ok-size.ensures.steps c.in_ok-size.ensures.cause)
    c.in_ok-count.ensures.reads
