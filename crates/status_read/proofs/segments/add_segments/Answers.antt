use Rattle.std.proofs.Common.{◌≡◌, ◌∙◌, ◌+◌, ◌++◌, ◌∷◌, [], ℕ, List, true, None, Some, Result, Ok, Err, OnOk, refl, sym, ap, subst, take, drop, get_or}
use Rattle.std.proofs.lemmas.List.{take_more, take_all, drop_all}
use Rattle.fs_model.specs.State.{FsState}
use Rattle.fs_model.specs.Calls.{or_else}
use Rattle.fs_model.specs.Trail.{DecidedBy}
use Rattle.fs_model.specs.Observed.{Observed}
use Rattle.fs_model.proofs.Observing.{no_reads}
use Rattle.status_read.specs.Segments.{segment_number, segment_refusal, first_refusal, AddsNumbered, Gathers}
use Rattle.status_read.proofs.Gathered.{gathers_none, gathers_more, drop_one}
use Rattle.status_read.proofs.Deciding.{decided_first, reads_more, reads_on}
use Rattle.status_read.proofs.segments.add_segments.Goals as goal

pub loop-name-init : goal.loop-name-init
loop-name-init g c =
    let before : Observed = record { told = g.F.Fs.told c.args.fs.now; firm = g.F.Fs.firm c.args.fs.now; depth = g.F.Fs.depth c.args.fs.now; trail = g.F.Fs.trail c.args.fs.now; counts = g.F.Fs.counts c.args.fs.now } in
    record {
      reads = no_reads before;
      rest = λ told. refl;
      gathers = λ told. gathers_none (g.F.Fs.trail c.args.fs.now).present c.args.dir.now c.args.parts.now.items c.requires;
    }

pub returns-in-Err-clause-reads : goal.returns-in-Err-clause-reads
returns-in-Err-clause-reads g c =
    let before : Observed = record { told = g.F.Fs.told c.args.fs.now; firm = g.F.Fs.firm c.args.fs.now; depth = g.F.Fs.depth c.args.fs.now; trail = g.F.Fs.trail c.args.fs.now; counts = g.F.Fs.counts c.args.fs.now } in
    let here : Observed = record { told = g.F.Fs.told c.loop-name.fs; firm = g.F.Fs.firm c.loop-name.fs; depth = g.F.Fs.depth c.loop-name.fs; trail = g.F.Fs.trail c.loop-name.fs; counts = g.F.Fs.counts c.loop-name.fs } in
    let after : Observed = record { told = g.F.Fs.told c.add_segment.new.fs; firm = g.F.Fs.firm c.add_segment.new.fs; depth = g.F.Fs.depth c.add_segment.new.fs; trail = g.F.Fs.trail c.add_segment.new.fs; counts = g.F.Fs.counts c.add_segment.new.fs } in
    reads_on before here after c.in-Err.error c.add_segment.result c.in-Err.is c.loop-name.invariant.reads c.add_segment.ensures.reads

pub returns-in-Err-clause-decided : goal.returns-in-Err-clause-decided
returns-in-Err-clause-decided g c told =
    let s : FsState = (g.F.Fs.trail c.args.fs.now).present in
    let dir = c.args.dir.now in
    let names : List (List ℕ) = c.args.names.now in
    let i : ℕ = c.loop-name.name-index in
    let x : List ℕ = c.name-item.result in
    let same : (g.F.Fs.trail c.loop-name.fs).present ≡ s = (c.loop-name.invariant.reads.unchanged told).present in
    let step : drop i names ≡ x ∷ drop (i + 1) names = drop_one names i x c.loop-name-test.true c.name-item.is in
    let all : first_refusal s dir names ≡ or_else (segment_refusal s dir x) (first_refusal s dir (drop (i + 1) names)) = c.loop-name.invariant.rest told ∙ ap (first_refusal s dir) step in
    let here : DecidedBy {T = Unit {0}} (segment_refusal s dir x) (Err c.in-Err.error) = subst (λ st. DecidedBy {T = Unit {0}} (segment_refusal st dir x) (Err c.in-Err.error)) same (c.in-Err.ensures.decided (c.loop-name.invariant.reads.told ∙ told)) in
    subst (λ r. DecidedBy {T = Unit {0}} r (Err c.in-Err.error)) (sym all) (decided_first (Unit {0}) (Unit {0}) (segment_refusal s dir x) (first_refusal s dir (drop (i + 1) names)) c.in-Err.error here)

pub loop-name-preserved : goal.loop-name-preserved
loop-name-preserved g c =
    let before : Observed = record { told = g.F.Fs.told c.args.fs.now; firm = g.F.Fs.firm c.args.fs.now; depth = g.F.Fs.depth c.args.fs.now; trail = g.F.Fs.trail c.args.fs.now; counts = g.F.Fs.counts c.args.fs.now } in
    let here : Observed = record { told = g.F.Fs.told c.loop-name.fs; firm = g.F.Fs.firm c.loop-name.fs; depth = g.F.Fs.depth c.loop-name.fs; trail = g.F.Fs.trail c.loop-name.fs; counts = g.F.Fs.counts c.loop-name.fs } in
    let after : Observed = record { told = g.F.Fs.told c.add_segment.new.fs; firm = g.F.Fs.firm c.add_segment.new.fs; depth = g.F.Fs.depth c.add_segment.new.fs; trail = g.F.Fs.trail c.add_segment.new.fs; counts = g.F.Fs.counts c.add_segment.new.fs } in
    let s : FsState = (g.F.Fs.trail c.args.fs.now).present in
    let dir = c.args.dir.now in
    let names : List (List ℕ) = c.args.names.now in
    let i : ℕ = c.loop-name.name-index in
    let x : List ℕ = c.name-item.result in
    record {
      reads = reads_more before here after _ c.add_segment.result c.in-Ok.is c.loop-name.invariant.reads c.add_segment.ensures.reads;
      rest = λ told.
          (let same : (g.F.Fs.trail c.loop-name.fs).present ≡ s = (c.loop-name.invariant.reads.unchanged told).present in
          let step : drop i names ≡ x ∷ drop (i + 1) names = drop_one names i x c.loop-name-test.true c.name-item.is in
          let none : segment_refusal s dir x ≡ None = subst (λ st. segment_refusal st dir x ≡ None) same (c.in-Ok.ensures.decided (c.loop-name.invariant.reads.told ∙ told)) in
          c.loop-name.invariant.rest told ∙ ap (first_refusal s dir) step ∙ ap (λ r. or_else r (first_refusal s dir (drop (i + 1) names))) none);
      gathers = λ told.
          (let same : (g.F.Fs.trail c.loop-name.fs).present ≡ s = (c.loop-name.invariant.reads.unchanged told).present in
          let more : take (i + 1) names ≡ take i names ++ x ∷ [] = take_more names i x c.loop-name-test.true ∙ ap (λ y. take i names ++ y ∷ []) (sym c.name-item.is) in
          let added : AddsNumbered s dir x (segment_number x) c.loop-name.parts.items c.add_segment.new.parts.items = subst (λ st. AddsNumbered st dir x (segment_number x) c.loop-name.parts.items c.add_segment.new.parts.items) same (c.in-Ok.ensures.added (c.loop-name.invariant.reads.told ∙ told)) in
          subst (λ l. Gathers s dir l c.add_segment.new.parts.items) (sym more)
          (gathers_more s dir (take i names) x c.loop-name.parts.items c.add_segment.new.parts.items (c.loop-name.invariant.gathers told) added));
    }

pub returns-clause-decided : goal.returns-clause-decided
returns-clause-decided g c told =
    let s : FsState = (g.F.Fs.trail c.args.fs.now).present in
    c.loop-name.invariant.rest told ∙ ap (first_refusal s c.args.dir.now) (drop_all c.loop-name.name-index c.args.names.now c.loop-name-test.false)

pub returns-clause-gathers : goal.returns-clause-gathers
returns-clause-gathers g c told =
    let s : FsState = (g.F.Fs.trail c.args.fs.now).present in
    subst (λ l. Gathers s c.args.dir.now l c.loop-name.parts.items) (take_all c.loop-name.name-index c.args.names.now c.loop-name-test.false) (c.loop-name.invariant.gathers told)
