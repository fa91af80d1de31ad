use Rattle.std.proofs.Common.{◌≡◌, ◌∙◌, ◌∷◌, [], Option, Some, None, Ok, Err, refl, ap, sym, subst}
use Rattle.fs_model.specs.State.{FsState}
use Rattle.fs_model.specs.WellFormed.{WellFormed}
use Rattle.fs_model.specs.Reading.{file_bytes}
use Rattle.fs_model.proofs.Observing.{no_reads, reads_then}
use Rattle.control_file.specs.declared.modes.Side.TheVariants.{Old, New}
use Rattle.control_checks.specs.declared.stop.CheckStop.TheVariants.{Refused, OutOfMemory}
use Rattle.control_checks.specs.Answers.{Stops, Tells}
use Rattle.control_checks.specs.Places.{version_path, pid_path, control_path, disabled_path}
use Rattle.control_checks.specs.Findings.{kind_at, missing_dir, missing_version, running, old_disabled, no_control, reading_in, or_first, overlaps, HasDir, HasVersion, VersionIs, IsStopped, IsEnabled, HasControl, finding, first_of, root_conditions, version_conditions, server_conditions, record_conditions, field_conditions, control_conditions, tested_conditions}
use Rattle.control_checks.proofs.Telling.{reads_on, tells_on}
use Rattle.control_checks.proofs.Joining.{joined_stops, later_stops, joined_tells, tells_last, stops_last, stops_first, stops_later, or_first_none}
use Rattle.control_checks.proofs.Contents.{contents_first, versions_first}
use Rattle.control_checks.proofs.clusters.test_disabled.Goals as goal

pub returns-in_err-control-clause-reads : goal.returns-in_err-control-clause-reads
returns-in_err-control-clause-reads g c = reads_on _ _ c.from_residual.result OutOfMemory c.from_residual.ensures.1 (no_reads _)

pub returns-in_err-control-clause-tells : goal.returns-in_err-control-clause-tells
returns-in_err-control-clause-tells g c told formed = tells_on _ c.from_residual.result OutOfMemory c.from_residual.ensures.1 tt

pub returns-in_err-disabled-clause-reads : goal.returns-in_err-disabled-clause-reads
returns-in_err-disabled-clause-reads g c = reads_on _ _ c.from_residual-in_err-disabled.result OutOfMemory c.from_residual-in_err-disabled.ensures.1 (no_reads _)

pub returns-in_err-disabled-clause-tells : goal.returns-in_err-disabled-clause-tells
returns-in_err-disabled-clause-tells g c told formed = tells_on _ c.from_residual-in_err-disabled.result OutOfMemory c.from_residual-in_err-disabled.ensures.1 tt

pub returns-in_err-enabled-clause-reads : goal.returns-in_err-enabled-clause-reads
returns-in_err-enabled-clause-reads g c = reads_on _ _ c.from_residual-in_err-enabled.result c.in_err-enabled.field-0.0 c.from_residual-in_err-enabled.ensures.1 c.in_err-enabled.ensures.reads

pub returns-in_err-enabled-clause-tells : goal.returns-in_err-enabled-clause-tells
returns-in_err-enabled-clause-tells g c told formed = tells_on _ c.from_residual-in_err-enabled.result c.in_err-enabled.field-0.0 c.from_residual-in_err-enabled.ensures.1 (c.in_err-enabled.ensures.plain _)

pub returns-in_err-renamed-clause-reads : goal.returns-in_err-renamed-clause-reads
returns-in_err-renamed-clause-reads g c = reads_on _ _ c.from_residual-in_err-renamed.result c.in_err-renamed.field-0.0 c.from_residual-in_err-renamed.ensures.1 (reads_then _ _ _ None _ tt c.in_ok-enabled.ensures.reads c.in_err-renamed.ensures.reads)

pub returns-in_err-renamed-clause-tells : goal.returns-in_err-renamed-clause-tells
returns-in_err-renamed-clause-tells g c told formed = tells_on _ c.from_residual-in_err-renamed.result c.in_err-renamed.field-0.0 c.from_residual-in_err-renamed.ensures.1 (c.in_err-renamed.ensures.plain _)

pub returns-in_err-old_disabled-clause-reads : goal.returns-in_err-old_disabled-clause-reads
returns-in_err-old_disabled-clause-reads g c = reads_on _ _ c.from_residual-in_err-old_disabled.result (Refused c.in_err-old_disabled.field-0.0) c.from_residual-in_err-old_disabled.ensures.1 (reads_then _ _ _ None None tt c.in_ok-enabled.ensures.reads c.in_ok-renamed.ensures.reads)

pub returns-in_err-old_disabled-clause-tells : goal.returns-in_err-old_disabled-clause-tells
returns-in_err-old_disabled-clause-tells g c told formed =
    let s : FsState = (g.F.Fs.trail c.args.fs.now).present in
    let t : FsState = (g.F.Fs.trail c.kind_at.new.fs).present in
    let same : t ≡ s = (c.in_ok-enabled.ensures.reads.unchanged told).present in
    let first = c.in_ok-enabled.ensures.kind told formed ∙ ap (kind_at s) c.in_ok-control.ensures in
    let second = c.in_ok-renamed.ensures.kind (c.in_ok-enabled.ensures.reads.told ∙ told) (subst WellFormed (sym same) formed) ∙ (λ i. kind_at (same i) (c.in_ok-disabled.ensures i)) in
    tells_on _ c.from_residual-in_err-old_disabled.result (Refused c.in_err-old_disabled.field-0.0) c.from_residual-in_err-old_disabled.ensures.1 (sym (c.in_err-old_disabled.ensures ∙ (λ i. old_disabled (first i) (second i))))

pub returns-clause-reads : goal.returns-clause-reads
returns-clause-reads g c = reads_then _ _ _ None None tt c.in_ok-enabled.ensures.reads c.in_ok-renamed.ensures.reads

pub returns-clause-tells : goal.returns-clause-tells
returns-clause-tells g c told formed =
    let s : FsState = (g.F.Fs.trail c.args.fs.now).present in
    let t : FsState = (g.F.Fs.trail c.kind_at.new.fs).present in
    let same : t ≡ s = (c.in_ok-enabled.ensures.reads.unchanged told).present in
    let first = c.in_ok-enabled.ensures.kind told formed ∙ ap (kind_at s) c.in_ok-control.ensures in
    let second = c.in_ok-renamed.ensures.kind (c.in_ok-enabled.ensures.reads.told ∙ told) (subst WellFormed (sym same) formed) ∙ (λ i. kind_at (same i) (c.in_ok-disabled.ensures i)) in
    sym (c.in_ok-old_disabled.ensures ∙ (λ i. old_disabled (first i) (second i)))
