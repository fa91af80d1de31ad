use Rattle.std.proofs.Common.{◌≡◌, ◌≤◌, ◌<◌, ◌∙◌, ◌+◌, Some, None, length, sym, ap, subst, arith}
use Rattle.fs_model.specs.Names.{Path}
use Rattle.std.specs.Prelude.{IfOk}
use Rattle.fs_model.specs.State.{FsState}
use Rattle.fs_model.specs.Trail.{error_of, unless_lack}
use Rattle.fs_model.specs.WellFormed.{WellFormed}
use Rattle.fs_model.proofs.Observing.{reads_then, no_reads}
use Rattle.file_checks.specs.Devices.{device_at}
use Rattle.file_checks.proofs.Oks.{if_ok}
use Rattle.file_checks.proofs.Nearest.{first_on_way, next_on_way, nearest_here, nearest_root, no_device, parent_length}
use Rattle.file_checks.proofs.devices.nearest_device.Goals as goal

pub returns-in-Ok-Some-clause-reads : goal.returns-in-Ok-Some-clause-reads
returns-in-Ok-Some-clause-reads g c = reads_then _ _ _ None None tt c.loop-passed.invariant.reads c.in-Ok-Some.ensures.reads

pub returns-in-Ok-Some-clause-shows : goal.returns-in-Ok-Some-clause-shows
returns-in-Ok-Some-clause-shows g c told formed =
    let s : FsState = (g.F.Fs.trail c.args.fs.now).present in
    let same = (c.loop-passed.invariant.reads.unchanged told).present in
    let shown = c.in-Ok-Some.ensures.shows (c.loop-passed.invariant.reads.told ∙ told) (subst WellFormed (sym same) formed) ∙ ap (λ t. device_at t c.loop-passed.at) same in
    nearest_here s c.args.path.now c.loop-passed.at c.in-Ok-Some.device (sym c.in-Ok-Some.field-0-is ∙ shown) (c.loop-passed.invariant.next told formed)

pub returns-in-Err-clause-reads : goal.returns-in-Err-clause-reads
returns-in-Err-clause-reads g c = reads_then _ _ _ None (unless_lack (Some c.in-Err.error)) tt c.loop-passed.invariant.reads c.in-Err.ensures.reads

pub returns-in-Err-parent-clause-reads : goal.returns-in-Err-parent-clause-reads
returns-in-Err-parent-clause-reads g c = reads_then _ _ _ None None tt c.loop-passed.invariant.reads c.in-Ok-None.ensures.reads

pub loop-passed-init : goal.loop-passed-init
loop-passed-init g c = record {
  reads = no_reads _;
  left = let e : length c.in-Ok.at ≡ length c.args.path.now = ap length c.in-Ok.ensures.path in omega (arith, e);
  next = λ told formed. first_on_way (g.F.Fs.trail c.args.fs.now).present.names c.args.path.now c.in-Ok.at c.in-Ok.ensures.path;
}

pub loop-passed-preserved : goal.loop-passed-preserved
loop-passed-preserved g c = record {
  reads = reads_then _ _ _ None None tt c.loop-passed.invariant.reads c.in-Ok-None.ensures.reads;
  left = subst (λ (p : Path). length p + (c.loop-passed.passed + 1) ≡ length c.args.path.now) (sym c.in-Ok-parent.ensures) (parent_length c.loop-passed.at c.loop-passed.passed (length c.args.path.now) c.loop-passed.invariant.left (subst (λ (p : Path). c.loop-passed.passed < length p) c.names-count.ensures c.loop-passed-test.true));
  next = λ told formed.
      let s : FsState = (g.F.Fs.trail c.args.fs.now).present in
      let same = (c.loop-passed.invariant.reads.unchanged told).present in
      let shown = c.in-Ok-None.ensures.shows (c.loop-passed.invariant.reads.told ∙ told) (subst WellFormed (sym same) formed) ∙ ap (λ t. device_at t c.loop-passed.at) same in
      next_on_way s.names c.args.path.now c.loop-passed.at c.in-Ok-parent.above c.in-Ok-parent.ensures (no_device s c.loop-passed.at (sym c.in-Ok-None.field-0-is ∙ shown)) (c.loop-passed.invariant.next told formed);
}

pub returns-clause-reads : goal.returns-clause-reads
returns-clause-reads g c = reads_then _ _ _ None (unless_lack (error_of c.device_at-2.result)) tt c.loop-passed.invariant.reads c.device_at-2.ensures.reads

pub returns-clause-shows : goal.returns-clause-shows
returns-clause-shows g c told formed =
    let s : FsState = (g.F.Fs.trail c.args.fs.now).present in
    let same = (c.loop-passed.invariant.reads.unchanged told).present in
    let shown : IfOk c.device_at-2.result (λ device. device ≡ device_at s c.loop-passed.at) =
    subst (λ (t : FsState). IfOk c.device_at-2.result (λ device. device ≡ device_at t c.loop-passed.at)) same (c.device_at-2.ensures.shows (c.loop-passed.invariant.reads.told ∙ told) (subst WellFormed (sym same) formed)) in
    let all : length c.args.path.now ≤ c.loop-passed.passed = subst (λ (p : Path). length p ≤ c.loop-passed.passed) c.names-count.ensures c.loop-passed-test.false in
    let none : length c.loop-passed.at ≡ 0 = omega (arith, all, c.loop-passed.invariant.left) in
    if_ok c.device_at-2.result shown (λ device is. nearest_root s c.args.path.now c.loop-passed.at device formed.root none is (c.loop-passed.invariant.next told formed))
