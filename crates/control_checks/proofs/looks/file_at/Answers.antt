use Rattle.std.proofs.Common.{Ok, Err}
use Rattle.control_checks.proofs.Telling.{reads_on, seen_at, seen_plain}
use Rattle.control_checks.proofs.looks.file_at.Goals as goal

pub returns-in_err-bytes-clause-reads : goal.returns-in_err-bytes-clause-reads
returns-in_err-bytes-clause-reads g c =
    reads_on _ _ c.from_residual.result c.in_err-bytes.field-0.0 c.from_residual.ensures.1
    (seen_at _ _ c.args.side c.read_all-answer.result (Err c.in_err-bytes.field-0.0) c.in_err-bytes.ensures c.read_all-answer.ensures.reads)

pub returns-in_err-bytes-clause-plain : goal.returns-in_err-bytes-clause-plain
returns-in_err-bytes-clause-plain g c found = seen_plain found c.args.side c.read_all-answer.result c.from_residual.result c.in_err-bytes.field-0.0 c.from_residual.ensures.1 c.in_err-bytes.ensures

pub returns-clause-reads : goal.returns-clause-reads
returns-clause-reads g c = seen_at _ _ c.args.side c.read_all-answer.result (Ok _) c.in_ok-bytes.ensures c.read_all-answer.ensures.reads
