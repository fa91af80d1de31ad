use Rattle.std.proofs.Common.{◌≢◌, ◌∙◌, Some, None, sym, subst}
use Rattle.fs_model.specs.State.{FsState}
use Rattle.fs_model.specs.Trail.{unless_lack}
use Rattle.fs_model.specs.WellFormed.{WellFormed}
use Rattle.fs_model.proofs.Observing.{reads_then}
use Rattle.file_checks.specs.Devices.{IsNearestDevice}
use Rattle.file_checks.proofs.Nearest.{same_device, other_device, same_option, other_option}
use Rattle.file_checks.proofs.devices.differing_dir.Goals as goal

pub returns-in-Ok-nearest_device-clause-reads : goal.returns-in-Ok-nearest_device-clause-reads
returns-in-Ok-nearest_device-clause-reads g c = reads_then _ _ _ None None tt c.in-Ok.ensures.reads c.in-Ok-nearest_device.ensures.reads

pub returns-in-Ok-nearest_device-clause-finds : goal.returns-in-Ok-nearest_device-clause-finds
returns-in-Ok-nearest_device-clause-finds g c told formed =
    let s : FsState = (g.F.Fs.trail c.args.fs.now).present in
    let same = (c.in-Ok.ensures.reads.unchanged told).present in
    let to : IsNearestDevice s c.args.new.now c.in-Ok-nearest_device.to =
    subst (λ (t : FsState). IsNearestDevice t c.args.new.now c.in-Ok-nearest_device.to) same (c.in-Ok-nearest_device.ensures.shows (c.in-Ok.ensures.reads.told ∙ told) (subst WellFormed (sym same) formed)) in
    same_device s c.args.old c.args.new.now c.in-Ok-nearest_device.to (same_option c.in-Ok-nearest_device.to c.in-Ok.device c.if-eq.ensures ∙ c.in-Ok.ensures.shows told formed) to

pub returns-in-Ok-2-clause-reads : goal.returns-in-Ok-2-clause-reads
returns-in-Ok-2-clause-reads g c = reads_then _ _ _ None None tt c.in-Ok.ensures.reads c.in-Ok-nearest_device.ensures.reads

pub returns-in-Err-nearest_device-clause-reads : goal.returns-in-Err-nearest_device-clause-reads
returns-in-Err-nearest_device-clause-reads g c = reads_then _ _ _ None (unless_lack (Some c.in-Err-nearest_device.error)) tt c.in-Ok.ensures.reads c.in-Err-nearest_device.ensures.reads

pub returns-in-Ok-2-clause-finds : goal.returns-in-Ok-2-clause-finds
returns-in-Ok-2-clause-finds g c told formed =
    let s : FsState = (g.F.Fs.trail c.args.fs.now).present in
    let same = (c.in-Ok.ensures.reads.unchanged told).present in
    let to : IsNearestDevice s c.args.new.now c.in-Ok-nearest_device.to =
    subst (λ (t : FsState). IsNearestDevice t c.args.new.now c.in-Ok-nearest_device.to) same (c.in-Ok-nearest_device.ensures.shows (c.in-Ok.ensures.reads.told ∙ told) (subst WellFormed (sym same) formed)) in
    let differ : c.in-Ok-nearest_device.to ≢ c.in-Ok.device = other_option c.in-Ok-nearest_device.to c.in-Ok.device c.if-eq.ensures in
    other_device s c.args.old c.args.new.now c.in-Ok.device c.in-Ok-nearest_device.to (c.in-Ok.ensures.shows told formed) to (λ e. differ (sym e))
