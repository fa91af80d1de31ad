use Rattle.std.proofs.Common.{Ok, Err}
use Rattle.fs_model.specs.Calls.{Stats}
use Rattle.fs_model.specs.Trail.{error_of}
use Rattle.fs_model.proofs.Observing.{one_reads, reads_unless_lack}
use Rattle.control_checks.proofs.Telling.{reads_on, seen_at, seen_plain}
use Rattle.control_checks.proofs.looks.kind_at.Goals as goal

pub returns-in_err-stat-clause-reads : goal.returns-in_err-stat-clause-reads
returns-in_err-stat-clause-reads g c =
    reads_on _ _ c.from_residual.result c.in_err-stat.field-0.0 c.from_residual.ensures.1
    (seen_at _ _ c.args.side c.stat-answer.result (Err c.in_err-stat.field-0.0) c.in_err-stat.ensures
    (reads_unless_lack _ _ (error_of c.stat-answer.result) (one_reads _ _ (Stats c.args.at.now) (error_of c.stat-answer.result) tt c.stat-answer.ensures.told c.stat-answer.ensures.firm c.stat-answer.ensures.depth c.stat-answer.ensures.steps c.stat-answer.ensures.cause)))

pub returns-in_err-stat-clause-plain : goal.returns-in_err-stat-clause-plain
returns-in_err-stat-clause-plain g c found = seen_plain found c.args.side c.stat-answer.result c.from_residual.result c.in_err-stat.field-0.0 c.from_residual.ensures.1 c.in_err-stat.ensures

pub returns-clause-reads : goal.returns-clause-reads
returns-clause-reads g c =
    seen_at _ _ c.args.side c.stat-answer.result (Ok _) c.in_ok-stat.ensures
    (reads_unless_lack _ _ (error_of c.stat-answer.result) (one_reads _ _ (Stats c.args.at.now) (error_of c.stat-answer.result) tt c.stat-answer.ensures.told c.stat-answer.ensures.firm c.stat-answer.ensures.depth c.stat-answer.ensures.steps c.stat-answer.ensures.cause))
