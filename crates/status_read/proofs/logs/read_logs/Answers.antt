use Rattle.std.proofs.Common.{◌≡◌, ◌∙◌, ℕ, List, true, None, Some, Result, Ok, Err, refl, sym, ap, subst}
use Rattle.fs_model.specs.State.{FsState}
use Rattle.fs_model.specs.Calls.{or_else}
use Rattle.fs_model.specs.Trail.{DecidedBy}
use Rattle.fs_model.specs.Observed.{Observed, OnlyReads}
use Rattle.cluster_meaning.specs.Status.{commit_log_dir, offsets_dir, members_dir}
use Rattle.status_read.specs.Segments.{segments_refusal}
use Rattle.status_read.proofs.Deciding.{decided_first, decided_later, decided_as, reads_more, reads_on}
use Rattle.status_read.proofs.logs.read_logs.Goals as goal

pub returns-in-Err-segments_below-clause-reads : goal.returns-in-Err-segments_below-clause-reads
returns-in-Err-segments_below-clause-reads g c =
    let before : Observed = record { told = g.F.Fs.told c.args.fs.now; firm = g.F.Fs.firm c.args.fs.now; depth = g.F.Fs.depth c.args.fs.now; trail = g.F.Fs.trail c.args.fs.now; counts = g.F.Fs.counts c.args.fs.now } in
    let here : Observed = record { told = g.F.Fs.told c.segments_below.new.fs; firm = g.F.Fs.firm c.segments_below.new.fs; depth = g.F.Fs.depth c.segments_below.new.fs; trail = g.F.Fs.trail c.segments_below.new.fs; counts = g.F.Fs.counts c.segments_below.new.fs } in
    let later : Observed = record { told = g.F.Fs.told c.segments_below-2.new.fs; firm = g.F.Fs.firm c.segments_below-2.new.fs; depth = g.F.Fs.depth c.segments_below-2.new.fs; trail = g.F.Fs.trail c.segments_below-2.new.fs; counts = g.F.Fs.counts c.segments_below-2.new.fs } in
    reads_on before here later c.in-Err-segments_below.error c.segments_below-2.result c.in-Err-segments_below.is c.in-Ok.ensures.reads c.segments_below-2.ensures.reads

pub returns-in-Err-segments_below-clause-decided : goal.returns-in-Err-segments_below-clause-decided
returns-in-Err-segments_below-clause-decided g c told =
    let s : FsState = (g.F.Fs.trail c.args.fs.now).present in
    let root = c.args.root.now in
    let same : (g.F.Fs.trail c.segments_below.new.fs).present ≡ s = (c.in-Ok.ensures.reads.unchanged told).present in
    let none : segments_refusal s (commit_log_dir root) ≡ None = c.in-Ok.ensures.decided told in
    let offsets = subst (λ st. DecidedBy {T = Unit {0}} (segments_refusal st (offsets_dir root)) (Err c.in-Err-segments_below.error)) same (c.in-Err-segments_below.ensures.decided (c.in-Ok.ensures.reads.told ∙ told)) in
    decided_later {T = Unit {0}} (segments_refusal s (commit_log_dir root)) (or_else (segments_refusal s (offsets_dir root)) (segments_refusal s (members_dir root))) (Err c.in-Err-segments_below.error) none
    (decided_first (Unit {0}) (Unit {0}) (segments_refusal s (offsets_dir root)) (segments_refusal s (members_dir root)) c.in-Err-segments_below.error offsets)

pub returns-in-Err-segments_below-2-clause-reads : goal.returns-in-Err-segments_below-2-clause-reads
returns-in-Err-segments_below-2-clause-reads g c =
    let before : Observed = record { told = g.F.Fs.told c.args.fs.now; firm = g.F.Fs.firm c.args.fs.now; depth = g.F.Fs.depth c.args.fs.now; trail = g.F.Fs.trail c.args.fs.now; counts = g.F.Fs.counts c.args.fs.now } in
    let here : Observed = record { told = g.F.Fs.told c.segments_below.new.fs; firm = g.F.Fs.firm c.segments_below.new.fs; depth = g.F.Fs.depth c.segments_below.new.fs; trail = g.F.Fs.trail c.segments_below.new.fs; counts = g.F.Fs.counts c.segments_below.new.fs } in
    let later : Observed = record { told = g.F.Fs.told c.segments_below-2.new.fs; firm = g.F.Fs.firm c.segments_below-2.new.fs; depth = g.F.Fs.depth c.segments_below-2.new.fs; trail = g.F.Fs.trail c.segments_below-2.new.fs; counts = g.F.Fs.counts c.segments_below-2.new.fs } in
    let after : Observed = record { told = g.F.Fs.told c.segments_below-3.new.fs; firm = g.F.Fs.firm c.segments_below-3.new.fs; depth = g.F.Fs.depth c.segments_below-3.new.fs; trail = g.F.Fs.trail c.segments_below-3.new.fs; counts = g.F.Fs.counts c.segments_below-3.new.fs } in
    let front : OnlyReads before later None = reads_more before here later _ c.segments_below-2.result c.in-Ok-segments_below.is c.in-Ok.ensures.reads c.segments_below-2.ensures.reads in
    reads_on before later after c.in-Err-segments_below-2.error c.segments_below-3.result c.in-Err-segments_below-2.is front c.segments_below-3.ensures.reads

pub returns-in-Err-segments_below-2-clause-decided : goal.returns-in-Err-segments_below-2-clause-decided
returns-in-Err-segments_below-2-clause-decided g c told =
    let s : FsState = (g.F.Fs.trail c.args.fs.now).present in
    let before : Observed = record { told = g.F.Fs.told c.args.fs.now; firm = g.F.Fs.firm c.args.fs.now; depth = g.F.Fs.depth c.args.fs.now; trail = g.F.Fs.trail c.args.fs.now; counts = g.F.Fs.counts c.args.fs.now } in
    let here : Observed = record { told = g.F.Fs.told c.segments_below.new.fs; firm = g.F.Fs.firm c.segments_below.new.fs; depth = g.F.Fs.depth c.segments_below.new.fs; trail = g.F.Fs.trail c.segments_below.new.fs; counts = g.F.Fs.counts c.segments_below.new.fs } in
    let later : Observed = record { told = g.F.Fs.told c.segments_below-2.new.fs; firm = g.F.Fs.firm c.segments_below-2.new.fs; depth = g.F.Fs.depth c.segments_below-2.new.fs; trail = g.F.Fs.trail c.segments_below-2.new.fs; counts = g.F.Fs.counts c.segments_below-2.new.fs } in
    let front : OnlyReads before later None = reads_more before here later _ c.segments_below-2.result c.in-Ok-segments_below.is c.in-Ok.ensures.reads c.segments_below-2.ensures.reads in
    let root = c.args.root.now in
    let first : here.trail.present ≡ s = (c.in-Ok.ensures.reads.unchanged told).present in
    let same : later.trail.present ≡ s = (front.unchanged told).present in
    let none : segments_refusal s (commit_log_dir root) ≡ None = c.in-Ok.ensures.decided told in
    let none_too : segments_refusal s (offsets_dir root) ≡ None = subst (λ st. segments_refusal st (offsets_dir root) ≡ None) first (c.in-Ok-segments_below.ensures.decided (c.in-Ok.ensures.reads.told ∙ told)) in
    let members = subst (λ st. DecidedBy {T = Unit {0}} (segments_refusal st (members_dir root)) (Err c.in-Err-segments_below-2.error)) same (c.in-Err-segments_below-2.ensures.decided (front.told ∙ told)) in
    decided_later {T = Unit {0}} (segments_refusal s (commit_log_dir root)) (or_else (segments_refusal s (offsets_dir root)) (segments_refusal s (members_dir root))) (Err c.in-Err-segments_below-2.error) none
    (decided_later {T = Unit {0}} (segments_refusal s (offsets_dir root)) (segments_refusal s (members_dir root)) (Err c.in-Err-segments_below-2.error) none_too
    (decided_as (Unit {0}) (Unit {0}) (segments_refusal s (members_dir root)) c.in-Err-segments_below-2.error members))

pub returns-clause-reads : goal.returns-clause-reads
returns-clause-reads g c =
    let before : Observed = record { told = g.F.Fs.told c.args.fs.now; firm = g.F.Fs.firm c.args.fs.now; depth = g.F.Fs.depth c.args.fs.now; trail = g.F.Fs.trail c.args.fs.now; counts = g.F.Fs.counts c.args.fs.now } in
    let here : Observed = record { told = g.F.Fs.told c.segments_below.new.fs; firm = g.F.Fs.firm c.segments_below.new.fs; depth = g.F.Fs.depth c.segments_below.new.fs; trail = g.F.Fs.trail c.segments_below.new.fs; counts = g.F.Fs.counts c.segments_below.new.fs } in
    let later : Observed = record { told = g.F.Fs.told c.segments_below-2.new.fs; firm = g.F.Fs.firm c.segments_below-2.new.fs; depth = g.F.Fs.depth c.segments_below-2.new.fs; trail = g.F.Fs.trail c.segments_below-2.new.fs; counts = g.F.Fs.counts c.segments_below-2.new.fs } in
    let after : Observed = record { told = g.F.Fs.told c.segments_below-3.new.fs; firm = g.F.Fs.firm c.segments_below-3.new.fs; depth = g.F.Fs.depth c.segments_below-3.new.fs; trail = g.F.Fs.trail c.segments_below-3.new.fs; counts = g.F.Fs.counts c.segments_below-3.new.fs } in
    let front : OnlyReads before later None = reads_more before here later _ c.segments_below-2.result c.in-Ok-segments_below.is c.in-Ok.ensures.reads c.segments_below-2.ensures.reads in
    reads_more before later after _ c.segments_below-3.result c.in-Ok-segments_below-2.is front c.segments_below-3.ensures.reads
