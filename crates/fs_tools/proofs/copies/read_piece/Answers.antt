use Rattle.fs_model.specs.Calls.{ReadsAt}
use Rattle.fs_model.specs.Trail.{error_of}
use Rattle.fs_model.proofs.Observing.{one_reads}
use Rattle.fs_tools.proofs.copies.read_piece.Goals as goal

pub returns-clause-reads : goal.returns-clause-reads
returns-clause-reads g c =
    one_reads _ _ (ReadsAt c.args.from.now) (error_of c.read_at.result) tt c.read_at.ensures.told c.read_at.ensures.firm c.read_at.ensures.depth c.read_at.ensures.steps c.read_at.ensures.cause
