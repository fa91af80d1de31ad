use Rattle.std.proofs.Common.{◌≡◌, ◌∙◌, ℕ, List, true, None, Some, Result, Ok, Err, refl, sym, ap, subst}
use Rattle.fs_model.specs.State.{FsState}
use Rattle.fs_model.specs.Calls.{Lists, refusal, children}
use Rattle.fs_model.specs.Trail.{DecidedBy, error_of, unless_lack}
use Rattle.fs_model.specs.Observed.{Observed, OnlyReads}
use Rattle.fs_model.proofs.Observing.{one_reads, reads_unless_lack}
use Rattle.fs_model.proofs.Runs.{steps_decided}
use Rattle.status_read.specs.Segments.{first_refusal, segments_refusal, Gathers}
use Rattle.status_read.proofs.Gathered.{gathered_all}
use Rattle.status_read.proofs.Deciding.{decided_first, decided_later, decided_as, reads_more, reads_on}
use Rattle.status_read.proofs.segments.segments_in.Goals as goal

pub returns-in-Err-clause-decided : goal.returns-in-Err-clause-decided
returns-in-Err-clause-decided g c told =
    let s : FsState = (g.F.Fs.trail c.args.fs.now).present in
    let dir = c.args.dir.now in
    decided_first (Unit {0}) (Unit {0}) (refusal s (Lists dir)) (first_refusal s dir (children s.names dir)) c.in-Err.error
    (subst (DecidedBy (refusal s (Lists dir))) c.in-Err.is (steps_decided (Lists dir) c.list.result (g.F.Fs.trail c.args.fs.now) (g.F.Fs.trail c.list.new.self) (c.list.ensures.steps told)))

pub returns-in-Err-add_segments-clause-reads : goal.returns-in-Err-add_segments-clause-reads
returns-in-Err-add_segments-clause-reads g c =
    let before : Observed = record { told = g.F.Fs.told c.args.fs.now; firm = g.F.Fs.firm c.args.fs.now; depth = g.F.Fs.depth c.args.fs.now; trail = g.F.Fs.trail c.args.fs.now; counts = g.F.Fs.counts c.args.fs.now } in
    let here : Observed = record { told = g.F.Fs.told c.list.new.self; firm = g.F.Fs.firm c.list.new.self; depth = g.F.Fs.depth c.list.new.self; trail = g.F.Fs.trail c.list.new.self; counts = g.F.Fs.counts c.list.new.self } in
    let after : Observed = record { told = g.F.Fs.told c.add_segments.new.fs; firm = g.F.Fs.firm c.add_segments.new.fs; depth = g.F.Fs.depth c.add_segments.new.fs; trail = g.F.Fs.trail c.add_segments.new.fs; counts = g.F.Fs.counts c.add_segments.new.fs } in
    let one : OnlyReads before here None = one_reads before here (Lists c.args.dir.now) None tt c.list.ensures.told c.list.ensures.firm c.list.ensures.depth c.in-Ok.ensures.steps c.in-Ok.ensures.cause in
    reads_on before here after c.in-Err-add_segments.error c.add_segments.result c.in-Err-add_segments.is one c.add_segments.ensures.reads

pub returns-in-Err-add_segments-clause-decided : goal.returns-in-Err-add_segments-clause-decided
returns-in-Err-add_segments-clause-decided g c told =
    let s : FsState = (g.F.Fs.trail c.args.fs.now).present in
    let dir = c.args.dir.now in
    let before : Observed = record { told = g.F.Fs.told c.args.fs.now; firm = g.F.Fs.firm c.args.fs.now; depth = g.F.Fs.depth c.args.fs.now; trail = g.F.Fs.trail c.args.fs.now; counts = g.F.Fs.counts c.args.fs.now } in
    let here : Observed = record { told = g.F.Fs.told c.list.new.self; firm = g.F.Fs.firm c.list.new.self; depth = g.F.Fs.depth c.list.new.self; trail = g.F.Fs.trail c.list.new.self; counts = g.F.Fs.counts c.list.new.self } in
    let one : OnlyReads before here None = one_reads before here (Lists dir) None tt c.list.ensures.told c.list.ensures.firm c.list.ensures.depth c.in-Ok.ensures.steps c.in-Ok.ensures.cause in
    let same : here.trail.present ≡ s = (one.unchanged told).present in
    let names : c.deref.result.now ≡ children s.names dir = c.deref.ensures.value ∙ c.in-Ok.ensures.gives told in
    let none : refusal s (Lists dir) ≡ None = subst (DecidedBy (refusal s (Lists dir))) c.in-Ok.is (steps_decided (Lists dir) c.list.result (g.F.Fs.trail c.args.fs.now) (g.F.Fs.trail c.list.new.self) (c.list.ensures.steps told)) in
    let later : DecidedBy {T = Unit {0}} (first_refusal s dir (children s.names dir)) (Err c.in-Err-add_segments.error) =
    subst (λ l. DecidedBy {T = Unit {0}} (first_refusal s dir l) (Err c.in-Err-add_segments.error)) names
    (subst (λ st. DecidedBy {T = Unit {0}} (first_refusal st dir c.deref.result.now) (Err c.in-Err-add_segments.error)) same (c.in-Err-add_segments.ensures.decided (c.list.ensures.told ∙ told))) in
    decided_later {T = Unit {0}} (refusal s (Lists dir)) (first_refusal s dir (children s.names dir)) (Err c.in-Err-add_segments.error) none (decided_as (Unit {0}) (Unit {0}) (first_refusal s dir (children s.names dir)) c.in-Err-add_segments.error later)

pub returns-in-Err-clause-reads : goal.returns-in-Err-clause-reads
returns-in-Err-clause-reads g c =
    let before : Observed = record { told = g.F.Fs.told c.args.fs.now; firm = g.F.Fs.firm c.args.fs.now; depth = g.F.Fs.depth c.args.fs.now; trail = g.F.Fs.trail c.args.fs.now; counts = g.F.Fs.counts c.args.fs.now } in
    let after : Observed = record { told = g.F.Fs.told c.list.new.self; firm = g.F.Fs.firm c.list.new.self; depth = g.F.Fs.depth c.list.new.self; trail = g.F.Fs.trail c.list.new.self; counts = g.F.Fs.counts c.list.new.self } in
    reads_unless_lack before after (Some c.in-Err.error)
    (one_reads before after (Lists c.args.dir.now) (Some c.in-Err.error) tt c.list.ensures.told c.list.ensures.firm c.list.ensures.depth c.in-Err.ensures.steps c.in-Err.ensures.cause)

pub returns-in-Ok-new-clause-reads : goal.returns-in-Ok-new-clause-reads
returns-in-Ok-new-clause-reads g c =
    let before : Observed = record { told = g.F.Fs.told c.args.fs.now; firm = g.F.Fs.firm c.args.fs.now; depth = g.F.Fs.depth c.args.fs.now; trail = g.F.Fs.trail c.args.fs.now; counts = g.F.Fs.counts c.args.fs.now } in
    let here : Observed = record { told = g.F.Fs.told c.list.new.self; firm = g.F.Fs.firm c.list.new.self; depth = g.F.Fs.depth c.list.new.self; trail = g.F.Fs.trail c.list.new.self; counts = g.F.Fs.counts c.list.new.self } in
    let after : Observed = record { told = g.F.Fs.told c.add_segments.new.fs; firm = g.F.Fs.firm c.add_segments.new.fs; depth = g.F.Fs.depth c.add_segments.new.fs; trail = g.F.Fs.trail c.add_segments.new.fs; counts = g.F.Fs.counts c.add_segments.new.fs } in
    let one : OnlyReads before here None = one_reads before here (Lists c.args.dir.now) None tt c.list.ensures.told c.list.ensures.firm c.list.ensures.depth c.in-Ok.ensures.steps c.in-Ok.ensures.cause in
    reads_more before here after _ c.add_segments.result c.in-Ok-add_segments.is one c.add_segments.ensures.reads

pub returns-clause-reads : goal.returns-clause-reads
returns-clause-reads g c =
    let before : Observed = record { told = g.F.Fs.told c.args.fs.now; firm = g.F.Fs.firm c.args.fs.now; depth = g.F.Fs.depth c.args.fs.now; trail = g.F.Fs.trail c.args.fs.now; counts = g.F.Fs.counts c.args.fs.now } in
    let here : Observed = record { told = g.F.Fs.told c.list.new.self; firm = g.F.Fs.firm c.list.new.self; depth = g.F.Fs.depth c.list.new.self; trail = g.F.Fs.trail c.list.new.self; counts = g.F.Fs.counts c.list.new.self } in
    let after : Observed = record { told = g.F.Fs.told c.add_segments.new.fs; firm = g.F.Fs.firm c.add_segments.new.fs; depth = g.F.Fs.depth c.add_segments.new.fs; trail = g.F.Fs.trail c.add_segments.new.fs; counts = g.F.Fs.counts c.add_segments.new.fs } in
    let one : OnlyReads before here None = one_reads before here (Lists c.args.dir.now) None tt c.list.ensures.told c.list.ensures.firm c.list.ensures.depth c.in-Ok.ensures.steps c.in-Ok.ensures.cause in
    reads_more before here after _ c.add_segments.result c.in-Ok-add_segments.is one c.add_segments.ensures.reads

pub returns-in-Ok-new-clause-segments : goal.returns-in-Ok-new-clause-segments
returns-in-Ok-new-clause-segments g c told =
    let s : FsState = (g.F.Fs.trail c.args.fs.now).present in
    let before : Observed = record { told = g.F.Fs.told c.args.fs.now; firm = g.F.Fs.firm c.args.fs.now; depth = g.F.Fs.depth c.args.fs.now; trail = g.F.Fs.trail c.args.fs.now; counts = g.F.Fs.counts c.args.fs.now } in
    let here : Observed = record { told = g.F.Fs.told c.list.new.self; firm = g.F.Fs.firm c.list.new.self; depth = g.F.Fs.depth c.list.new.self; trail = g.F.Fs.trail c.list.new.self; counts = g.F.Fs.counts c.list.new.self } in
    let one : OnlyReads before here None = one_reads before here (Lists c.args.dir.now) None tt c.list.ensures.told c.list.ensures.firm c.list.ensures.depth c.in-Ok.ensures.steps c.in-Ok.ensures.cause in
    let dir = c.args.dir.now in
    let same : here.trail.present ≡ s = (one.unchanged told).present in
    let names : c.deref.result.now ≡ children s.names dir = c.deref.ensures.value ∙ c.in-Ok.ensures.gives told in
    let parts : List (ℕ × List ℕ) = c.add_segments.new.parts.items in
    let all : Gathers here.trail.present dir c.deref.result.now parts = c.in-Ok-add_segments.ensures.gathers (c.list.ensures.told ∙ told) in
    gathered_all s dir parts c.in-Ok-new.segments c.in-Ok-new.ensures.ok
    (subst (λ l. Gathers s dir l parts) names (subst (λ st. Gathers st dir c.deref.result.now parts) same all))
