use Rattle.std.proofs.Common.{Some, None}
use Rattle.fs_model.specs.Calls.{Stats}
use Rattle.fs_model.proofs.Observing.{one_reads, reads_then}
use Rattle.fs_tools.proofs.Answering.{reads_on}
use Rattle.fs_tools.proofs.identities.same_inode.Goals as goal

pub returns-in_err-first-clause-reads : goal.returns-in_err-first-clause-reads
returns-in_err-first-clause-reads g c =
    reads_on _ _ c.from_residual.result c.in_err-first.field-0.0 c.from_residual.ensures.1
    (one_reads _ _ (Stats c.args.a.now) (Some c.in_err-first.field-0.0) tt c.stat.ensures.told c.stat.ensures.firm c.stat.ensures.depth c.in_err-first.ensures.steps c.in_err-first.ensures.cause)

pub returns-in_err-second-clause-reads : goal.returns-in_err-second-clause-reads
returns-in_err-second-clause-reads g c =
    reads_on _ _ c.from_residual-in_err-second.result c.in_err-second.field-0.0 c.from_residual-in_err-second.ensures.1
    (reads_then _ _ _ None (Some c.in_err-second.field-0.0) tt
    (one_reads _ _ (Stats c.args.a.now) None tt c.stat.ensures.told c.stat.ensures.firm c.stat.ensures.depth c.in_ok-first.ensures.steps c.in_ok-first.ensures.cause)
    (one_reads _ _ (Stats c.args.b.now) (Some c.in_err-second.field-0.0) tt c.stat-2.ensures.told c.stat-2.ensures.firm c.stat-2.ensures.depth c.in_err-second.ensures.steps c.in_err-second.ensures.cause))

pub returns-clause-reads : goal.returns-clause-reads
returns-clause-reads g c =
    reads_then _ _ _ None None tt
    (one_reads _ _ (Stats c.args.a.now) None tt c.stat.ensures.told c.stat.ensures.firm c.stat.ensures.depth c.in_ok-first.ensures.steps c.in_ok-first.ensures.cause)
    (one_reads _ _ (Stats c.args.b.now) None tt c.stat-2.ensures.told c.stat-2.ensures.firm c.stat-2.ensures.depth c.in_ok-second.ensures.steps c.in_ok-second.ensures.cause)
