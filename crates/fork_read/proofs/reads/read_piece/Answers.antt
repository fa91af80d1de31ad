use Rattle.std.proofs.Common.{◌≡◌, ◌∙◌, ℕ, List, subst, length}
use Rattle.fs_model.specs.Calls.{ReadsAt}
use Rattle.fs_model.specs.Trail.{DecidedBy, error_of}
use Rattle.fs_model.proofs.Runs.{steps_decided}
use Rattle.fs_model.specs.State.{FsState}
use Rattle.fs_model.specs.Observed.{Observed}
use Rattle.fs_model.proofs.Observing.{one_reads}
use Rattle.fork_read.proofs.PieceReads.{piece_read_ok, has_block}
use Rattle.fork_read.proofs.reads.read_piece.Goals as goal

pub returns-clause-reads : goal.returns-clause-reads
returns-clause-reads g c =
    let before : Observed = record { told = g.F.Fs.told c.args.fs.now; firm = g.F.Fs.firm c.args.fs.now; depth = g.F.Fs.depth c.args.fs.now; trail = g.F.Fs.trail c.args.fs.now; counts = g.F.Fs.counts c.args.fs.now } in
    let fs = c.read_at.new.self in
    let after : Observed = record { told = g.F.Fs.told fs; firm = g.F.Fs.firm fs; depth = g.F.Fs.depth fs; trail = g.F.Fs.trail fs; counts = g.F.Fs.counts fs } in
    let call = c.read_at.ensures in
    one_reads before after (ReadsAt c.args.at.now) (error_of c.read_at.result) tt call.told call.firm call.depth call.steps call.cause

pub returns-clause-blocks : goal.returns-clause-blocks
returns-clause-blocks g c told =
    let s : FsState = (g.F.Fs.trail c.args.fs.now).present in
    let into : List ℕ = c.read_at.new.into in
    let whole : length into ≡ 1048576 = c.read_at.auto.into ∙ c.requires in
    piece_read_ok s c.args.at.now c.args.n into c.read_at.result whole (c.read_at.ensures.gives told)

pub returns-clause-decided : goal.returns-clause-decided
returns-clause-decided g c told =
    steps_decided (ReadsAt c.args.at.now) c.read_at.result (g.F.Fs.trail c.args.fs.now) (g.F.Fs.trail c.read_at.new.self) (c.read_at.ensures.steps told)

pub returns-clause-unrefused : goal.returns-clause-unrefused
returns-clause-unrefused g c told formed lt =
    subst (λ refused. DecidedBy refused c.read_at.result) (has_block (g.F.Fs.trail c.args.fs.now).present c.args.at.now c.args.n formed lt)
    (steps_decided (ReadsAt c.args.at.now) c.read_at.result (g.F.Fs.trail c.args.fs.now) (g.F.Fs.trail c.read_at.new.self) (c.read_at.ensures.steps told))
