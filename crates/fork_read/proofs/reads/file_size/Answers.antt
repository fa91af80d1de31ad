use Rattle.std.proofs.Common.{◌≡◌, ◌∙◌, Option, None, Result, Ok, Err, refl, sym, ap, subst}
use Rattle.fs_model.specs.declared.error.FsError.{FsError}
use Rattle.fs_model.specs.declared.node.Stat.{Stat}
use Rattle.fs_model.specs.Calls.{Stats}
use Rattle.fs_model.specs.Trail.{DecidedBy, error_of}
use Rattle.fs_model.specs.Observed.{Observed, OnlyReads}
use Rattle.fork_read.specs.Extents.{sized}
use Rattle.fork_read.proofs.Found.{found_reads, found_free}
use Rattle.fork_read.proofs.reads.file_size.Goals as goal

sized_error : (found : Result (Option Stat) FsError) → error_of (sized found) ≡ error_of found
sized_error (Ok stat) = refl
sized_error (Err error) = refl

pub returns-clause-reads : goal.returns-clause-reads
returns-clause-reads g c =
    let before : Observed = record { told = g.F.Fs.told c.args.fs.now; firm = g.F.Fs.firm c.args.fs.now; depth = g.F.Fs.depth c.args.fs.now; trail = g.F.Fs.trail c.args.fs.now; counts = g.F.Fs.counts c.args.fs.now } in
    let fs = c.stat-answer.new.self in
    let after : Observed = record { told = g.F.Fs.told fs; firm = g.F.Fs.firm fs; depth = g.F.Fs.depth fs; trail = g.F.Fs.trail fs; counts = g.F.Fs.counts fs } in
    let call = c.stat-answer.ensures in
    subst (λ answer. OnlyReads before after answer) (sym (ap error_of c.sized.ensures ∙ sized_error c.found_as-found.result))
    (found_reads before after (Stats c.args.at.now) c.stat-answer.result c.found_as-found.result tt c.found_as-found.ensures call.told call.firm call.depth call.steps call.cause)

pub returns-clause-unrefused : goal.returns-clause-unrefused
returns-clause-unrefused g c =
    subst (DecidedBy None) (sym (c.sized.ensures ∙ ap sized c.found_as-found.ensures)) (found_free c.stat-answer.result)
