use Rattle.std.proofs.Common.{◌≡◌, ◌∙◌, ◌+◌, ◌-◌, ◌++◌, ℕ, Bool, List, [], Option, None, Result, Ok, IfOk, OnOk, if◌then◌else◌, take, flat_map, refl, sym, ap, subst, arith}
use Rattle.fs_model.specs.State.{FsState}
use Rattle.fs_model.specs.WellFormed.{WellFormed}
use Rattle.xact_status.specs.Files.{SegmentFiles}
use Rattle.std.specs.List.{AllByRecursion}
use Rattle.fs_model.specs.declared.error.FsError.{FsError}
use Rattle.fs_model.specs.Trail.{error_of, unless_lack}
use Rattle.fs_model.specs.Observed.{Observed, OnlyReads}
use Rattle.fs_model.proofs.Observing.{no_reads, reads_then}
use Rattle.relation_files.specs.Places.{fork_files}
use Rattle.relation_files.specs.Sites.{site_at}
use Rattle.cluster_meaning.specs.Blocks.{blocks_of, blocks_from, blocks_then, most_segments, numbered}
use Rattle.fork_read.specs.declared.extents.Extent.{Extent}
use Rattle.fork_read.specs.Extents.{IsBacked, extents_told, extent_blocks}
use Rattle.fork_read.proofs.SegmentSteps.{at_start, at_segment, at_end, none_behind}
use Rattle.fork_read.proofs.Found.{decided_as}
use Rattle.fork_read.proofs.extents.extents_of.Goals as goal

pub loop-segment-init : goal.loop-segment-init
loop-segment-init g c =
    let before : Observed = record { told = g.F.Fs.told c.args.fs.now; firm = g.F.Fs.firm c.args.fs.now; depth = g.F.Fs.depth c.args.fs.now; trail = g.F.Fs.trail c.args.fs.now; counts = g.F.Fs.counts c.args.fs.now } in
    record {
      reads = no_reads before;
      blocks = λ told formed.
          (let s : FsState = (g.F.Fs.trail c.args.fs.now).present in
          let files : SegmentFiles = fork_files s (site_at c.args.site.now) c.args.relation c.args.fork in
          let relseg_size : ℕ = c.args.relseg_size in
          ap (λ (l : List Extent). flat_map (extent_blocks s) l ++ numbered 0 (take 4294967295 (blocks_from relseg_size files 0 (most_segments - 0)))) c.new.ensures.items ∙ ap (numbered 0) (at_start relseg_size files 4294967295 refl));
      backed = λ told formed. subst (λ l. AllByRecursion (IsBacked (g.F.Fs.trail c.args.fs.now).present) l) (sym c.new.ensures.items) tt;
    }

pub returns-in-Ok-false-clause-reads : goal.returns-in-Ok-false-clause-reads
returns-in-Ok-false-clause-reads g c =
    let before : Observed = record { told = g.F.Fs.told c.args.fs.now; firm = g.F.Fs.firm c.args.fs.now; depth = g.F.Fs.depth c.args.fs.now; trail = g.F.Fs.trail c.args.fs.now; counts = g.F.Fs.counts c.args.fs.now } in
    let here : Observed = record { told = g.F.Fs.told c.loop-segment.fs; firm = g.F.Fs.firm c.loop-segment.fs; depth = g.F.Fs.depth c.loop-segment.fs; trail = g.F.Fs.trail c.loop-segment.fs; counts = g.F.Fs.counts c.loop-segment.fs } in
    let after : Observed = record { told = g.F.Fs.told c.find_segment.new.fs; firm = g.F.Fs.firm c.find_segment.new.fs; depth = g.F.Fs.depth c.find_segment.new.fs; trail = g.F.Fs.trail c.find_segment.new.fs; counts = g.F.Fs.counts c.find_segment.new.fs } in
    reads_then before here after None None tt c.loop-segment.invariant.reads (subst (λ r. OnlyReads here after (unless_lack (error_of r))) c.in-Ok-false.is c.find_segment.ensures.reads)

pub returns-in-Ok-false-clause-blocks : goal.returns-in-Ok-false-clause-blocks
returns-in-Ok-false-clause-blocks g c told formed =
    let s : FsState = (g.F.Fs.trail c.args.fs.now).present in
    let files : SegmentFiles = fork_files s (site_at c.args.site.now) c.args.relation c.args.fork in
    let relseg_size : ℕ = c.args.relseg_size in
    let segment : ℕ = c.loop-segment.segment in
    let same : (g.F.Fs.trail c.loop-segment.fs).present ≡ s = (c.loop-segment.invariant.reads.unchanged told).present in
    let behind : List (List ℕ) = blocks_from relseg_size files (segment + 1) (most_segments - (segment + 1)) in
    let Found : FsState → Result Bool FsError → Type 0 = λ st r. IfOk r (λ more. extents_told st c.find_segment.new.extents (if more then behind else []) ≡ extents_told st c.loop-segment.extents (blocks_then relseg_size (fork_files st (site_at c.args.site.now) c.args.relation c.args.fork segment) behind)) in
    let found : Found s c.find_segment.result = subst (λ st. Found st c.find_segment.result) same (c.find_segment.ensures.found (c.loop-segment.invariant.reads.told ∙ told) (subst WellFormed (sym same) formed) behind) in
    let step : extents_told s c.find_segment.new.extents [] ≡ numbered 0 (blocks_of relseg_size files) = subst (Found s) (c.in-Ok-false.is ∙ ap (λ (b : Bool). Ok b) c.in-Ok-false.field-0-test) found ∙ ap (extents_told s c.loop-segment.extents) (sym (at_segment relseg_size files segment c.loop-segment-test.true)) ∙ c.loop-segment.invariant.blocks told formed in
    none_behind s c.find_segment.new.extents (numbered 0 (blocks_of relseg_size files)) step

pub returns-in-Err-clause-reads : goal.returns-in-Err-clause-reads
returns-in-Err-clause-reads g c =
    let before : Observed = record { told = g.F.Fs.told c.args.fs.now; firm = g.F.Fs.firm c.args.fs.now; depth = g.F.Fs.depth c.args.fs.now; trail = g.F.Fs.trail c.args.fs.now; counts = g.F.Fs.counts c.args.fs.now } in
    let here : Observed = record { told = g.F.Fs.told c.loop-segment.fs; firm = g.F.Fs.firm c.loop-segment.fs; depth = g.F.Fs.depth c.loop-segment.fs; trail = g.F.Fs.trail c.loop-segment.fs; counts = g.F.Fs.counts c.loop-segment.fs } in
    let after : Observed = record { told = g.F.Fs.told c.find_segment.new.fs; firm = g.F.Fs.firm c.find_segment.new.fs; depth = g.F.Fs.depth c.find_segment.new.fs; trail = g.F.Fs.trail c.find_segment.new.fs; counts = g.F.Fs.counts c.find_segment.new.fs } in
    reads_then before here after None _ tt c.loop-segment.invariant.reads (subst (λ r. OnlyReads here after (unless_lack (error_of r))) c.in-Err.is c.find_segment.ensures.reads)

pub loop-segment-preserved : goal.loop-segment-preserved
loop-segment-preserved g c =
    let before : Observed = record { told = g.F.Fs.told c.args.fs.now; firm = g.F.Fs.firm c.args.fs.now; depth = g.F.Fs.depth c.args.fs.now; trail = g.F.Fs.trail c.args.fs.now; counts = g.F.Fs.counts c.args.fs.now } in
    let here : Observed = record { told = g.F.Fs.told c.loop-segment.fs; firm = g.F.Fs.firm c.loop-segment.fs; depth = g.F.Fs.depth c.loop-segment.fs; trail = g.F.Fs.trail c.loop-segment.fs; counts = g.F.Fs.counts c.loop-segment.fs } in
    let after : Observed = record { told = g.F.Fs.told c.find_segment.new.fs; firm = g.F.Fs.firm c.find_segment.new.fs; depth = g.F.Fs.depth c.find_segment.new.fs; trail = g.F.Fs.trail c.find_segment.new.fs; counts = g.F.Fs.counts c.find_segment.new.fs } in
    record {
      reads = reads_then before here after None None tt c.loop-segment.invariant.reads (subst (λ r. OnlyReads here after (unless_lack (error_of r))) c.in-Ok-true.is c.find_segment.ensures.reads);
      blocks = λ told formed.
          (
          let s : FsState = (g.F.Fs.trail c.args.fs.now).present in
          let files : SegmentFiles = fork_files s (site_at c.args.site.now) c.args.relation c.args.fork in
          let relseg_size : ℕ = c.args.relseg_size in
          let segment : ℕ = c.loop-segment.segment in
          let same : (g.F.Fs.trail c.loop-segment.fs).present ≡ s = (c.loop-segment.invariant.reads.unchanged told).present in
          let behind : List (List ℕ) = blocks_from relseg_size files (segment + 1) (most_segments - (segment + 1)) in
          let Found : FsState → Result Bool FsError → Type 0 = λ st r. IfOk r (λ more. extents_told st c.find_segment.new.extents (if more then behind else []) ≡ extents_told st c.loop-segment.extents (blocks_then relseg_size (fork_files st (site_at c.args.site.now) c.args.relation c.args.fork segment) behind)) in
          let found : Found s c.find_segment.result = subst (λ st. Found st c.find_segment.result) same (c.find_segment.ensures.found (c.loop-segment.invariant.reads.told ∙ told) (subst WellFormed (sym same) formed) behind) in
          let step : extents_told s c.find_segment.new.extents behind ≡ numbered 0 (blocks_of relseg_size files) = subst (Found s) (c.in-Ok-true.is ∙ ap (λ (b : Bool). Ok b) c.in-Ok-true.field-0-test) found ∙ ap (extents_told s c.loop-segment.extents) (sym (at_segment relseg_size files segment c.loop-segment-test.true)) ∙ c.loop-segment.invariant.blocks told formed in
          step);
      backed = λ told formed.
          (let s : FsState = (g.F.Fs.trail c.args.fs.now).present in
          let same : (g.F.Fs.trail c.loop-segment.fs).present ≡ s = (c.loop-segment.invariant.reads.unchanged told).present in
          let All : FsState → List Extent → Type 0 = λ st l. AllByRecursion (IsBacked st) l in
          let Kept : FsState → Result Bool FsError → Type 0 = λ st r. OnOk r (All st c.find_segment.new.extents.items.items) in
          let kept : Kept (g.F.Fs.trail c.loop-segment.fs).present c.find_segment.result = c.find_segment.ensures.backed (c.loop-segment.invariant.reads.told ∙ told) (subst WellFormed (sym same) formed)
          (subst (λ st. All st c.loop-segment.extents.items.items) (sym same) (c.loop-segment.invariant.backed told formed)) in
          subst (λ st. All st c.find_segment.new.extents.items.items) same (subst (Kept (g.F.Fs.trail c.loop-segment.fs).present) c.in-Ok-true.is kept));
    }

pub returns-clause-blocks : goal.returns-clause-blocks
returns-clause-blocks g c told formed =
    let s : FsState = (g.F.Fs.trail c.args.fs.now).present in
    let files : SegmentFiles = fork_files s (site_at c.args.site.now) c.args.relation c.args.fork in
    let relseg_size : ℕ = c.args.relseg_size in
    let segment : ℕ = c.loop-segment.segment in
    none_behind s c.loop-segment.extents (numbered 0 (blocks_of relseg_size files)) (ap (extents_told s c.loop-segment.extents) (sym (at_end relseg_size files segment c.loop-segment-test.false)) ∙ c.loop-segment.invariant.blocks told formed)

pub returns-in-Ok-false-clause-backed : goal.returns-in-Ok-false-clause-backed
returns-in-Ok-false-clause-backed g c told formed =
    let s : FsState = (g.F.Fs.trail c.args.fs.now).present in
    let same : (g.F.Fs.trail c.loop-segment.fs).present ≡ s = (c.loop-segment.invariant.reads.unchanged told).present in
    let All : FsState → List Extent → Type 0 = λ st l. AllByRecursion (IsBacked st) l in
    let Kept : FsState → Result Bool FsError → Type 0 = λ st r. OnOk r (All st c.find_segment.new.extents.items.items) in
    let kept : Kept (g.F.Fs.trail c.loop-segment.fs).present c.find_segment.result = c.find_segment.ensures.backed (c.loop-segment.invariant.reads.told ∙ told) (subst WellFormed (sym same) formed)
    (subst (λ st. All st c.loop-segment.extents.items.items) (sym same) (c.loop-segment.invariant.backed told formed)) in
    subst (λ st. All st c.find_segment.new.extents.items.items) same (subst (Kept (g.F.Fs.trail c.loop-segment.fs).present) c.in-Ok-false.is kept)

pub returns-in-Err-clause-unrefused : goal.returns-in-Err-clause-unrefused
returns-in-Err-clause-unrefused g c = decided_as (Unit {0}) (Unit {0}) None c.in-Err.error c.in-Err.ensures.unrefused
