use Rattle.std.proofs.Common.{refl}
use Rattle.fs_model.specs.Calls.{ReadsAt}
use Rattle.fs_model.specs.Trail.{error_of}
use Rattle.fs_model.proofs.Observing.{one_reads}
use Rattle.fs_tools.proofs.Filling.{filled_ok}
use Rattle.fs_tools.proofs.reads.read_more.Goals as goal

pub returns-clause-reads : goal.returns-clause-reads
returns-clause-reads g c =
    one_reads _ _ (ReadsAt c.args.at.now) (error_of c.read_at.result) tt c.read_at.ensures.told c.read_at.ensures.firm c.read_at.ensures.depth c.read_at.ensures.steps c.read_at.ensures.cause

pub returns-clause-filled : goal.returns-clause-filled
returns-clause-filled g c told front =
    filled_ok (g.F.Fs.trail c.args.fs.now).present c.args.at.now c.args.into.now c.read_at.new.into _ _ c.args.filled c.read_at.result refl c.requires.within front (c.read_at.ensures.gives told)
