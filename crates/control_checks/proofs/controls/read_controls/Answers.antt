use Rattle.std.proofs.Common.{◌≡◌, ◌∙◌, ◌++◌, ◌∷◌, [], Option, Some, None, Ok, Err, refl, ap, sym, subst}
use Rattle.fs_model.specs.State.{FsState}
use Rattle.fs_model.specs.WellFormed.{WellFormed}
use Rattle.fs_model.specs.Reading.{file_bytes}
use Rattle.fs_model.proofs.Observing.{no_reads, reads_then}
use Rattle.control_file.specs.declared.modes.Side.TheVariants.{Old, New}
use Rattle.control_checks.specs.declared.stop.CheckStop.TheVariants.{Refused, OutOfMemory}
use Rattle.control_checks.specs.Answers.{Stops, Tells}
use Rattle.control_checks.specs.Places.{version_path, pid_path, control_path, disabled_path}
use Rattle.control_checks.specs.Findings.{kind_at, missing_dir, missing_version, running, old_disabled, no_control, reading_in, or_first, overlaps, HasDir, HasVersion, VersionIs, IsStopped, IsEnabled, HasControl, finding, first_of, root_conditions, version_conditions, server_conditions, record_conditions, field_conditions, control_conditions, tested_conditions}
use Rattle.control_checks.specs.Causes.{first_by_contents}
use Rattle.control_checks.proofs.Telling.{reads_on, tells_on}
use Rattle.control_checks.proofs.Joining.{joined_stops, later_stops, joined_tells, tells_last, stops_last, stops_first, stops_later, or_first_none}
use Rattle.control_checks.proofs.Contents.{contents_first, versions_first}
use Rattle.control_checks.proofs.controls.read_controls.Goals as goal

pub returns-in_err-old-clause-reads : goal.returns-in_err-old-clause-reads
returns-in_err-old-clause-reads g c = reads_on _ _ c.from_residual.result c.in_err-old.field-0.0 c.from_residual.ensures.1 c.in_err-old.ensures.reads

pub returns-in_err-old-clause-tells : goal.returns-in_err-old-clause-tells
returns-in_err-old-clause-tells g c told formed =
    let s : FsState = (g.F.Fs.trail c.args.fs.now).present in
    tells_on _ c.from_residual.result c.in_err-old.field-0.0 c.from_residual.ensures.1 (stops_first (no_control Old (reading_in Old (file_bytes s (control_path c.args.job.now.old)))) (or_first (finding s c.args.job.now (HasControl New)) (first_of s c.args.job.now (record_conditions ++ field_conditions))) c.in_err-old.field-0.0 (c.in_err-old.ensures.tells told formed))

pub returns-in_err-new-clause-reads : goal.returns-in_err-new-clause-reads
returns-in_err-new-clause-reads g c = reads_on _ _ c.from_residual-in_err-new.result c.in_err-new.field-0.0 c.from_residual-in_err-new.ensures.1 (reads_then _ _ _ None _ tt c.in_ok-old.ensures.reads c.in_err-new.ensures.reads)

pub returns-in_err-new-clause-tells : goal.returns-in_err-new-clause-tells
returns-in_err-new-clause-tells g c told formed =
    let s : FsState = (g.F.Fs.trail c.args.fs.now).present in
    let t : FsState = (g.F.Fs.trail c.control_bytes.new.fs).present in
    let same : t ≡ s = (c.in_ok-old.ensures.reads.unchanged told).present in
    let on = c.in_ok-old.ensures.reads.told ∙ told in
    let still : WellFormed t = subst WellFormed (sym same) formed in
    tells_on _ c.from_residual-in_err-new.result c.in_err-new.field-0.0 c.from_residual-in_err-new.ensures.1
    (stops_later (no_control Old (reading_in Old (file_bytes s (control_path c.args.job.now.old)))) (or_first (finding s c.args.job.now (HasControl New)) (first_of s c.args.job.now (record_conditions ++ field_conditions))) c.in_err-new.field-0.0 (c.in_ok-old.ensures.tells told formed)
    (stops_first (no_control New (reading_in New (file_bytes s (control_path c.args.job.now.new)))) (first_of s c.args.job.now (record_conditions ++ field_conditions)) c.in_err-new.field-0.0 (subst (λ u. Stops (no_control New (reading_in New (file_bytes u (control_path c.args.job.now.new)))) c.in_err-new.field-0.0) same (c.in_err-new.ensures.tells on still))))

pub returns-in_err-controls-clause-reads : goal.returns-in_err-controls-clause-reads
returns-in_err-controls-clause-reads g c = reads_on _ _ c.from_residual-in_err-controls.result (Refused c.in_err-controls.field-0.0) c.from_residual-in_err-controls.ensures.1 (reads_then _ _ _ None None tt c.in_ok-old.ensures.reads c.in_ok-new.ensures.reads)

pub returns-in_err-controls-clause-tells : goal.returns-in_err-controls-clause-tells
returns-in_err-controls-clause-tells g c told formed =
    let s : FsState = (g.F.Fs.trail c.args.fs.now).present in
    let t : FsState = (g.F.Fs.trail c.control_bytes.new.fs).present in
    let same : t ≡ s = (c.in_ok-old.ensures.reads.unchanged told).present in
    let on = c.in_ok-old.ensures.reads.told ∙ told in
    let still : WellFormed t = subst WellFormed (sym same) formed in
    tells_on _ c.from_residual-in_err-controls.result (Refused c.in_err-controls.field-0.0) c.from_residual-in_err-controls.ensures.1
    (contents_first s c.args.job.now _ _ (c.in_ok-old.ensures.file told formed) (ap (λ u. file_bytes u (control_path c.args.job.now.new)) (sym same) ∙ c.in_ok-new.ensures.file on still) ∙ sym (c.in_err-controls.ensures.refused ∙ (λ i. first_by_contents (c.bytes.ensures i) (c.bytes-2.ensures i))))

pub returns-clause-reads : goal.returns-clause-reads
returns-clause-reads g c = reads_then _ _ _ None None tt c.in_ok-old.ensures.reads c.in_ok-new.ensures.reads

pub returns-clause-tells : goal.returns-clause-tells
returns-clause-tells g c told formed =
    let s : FsState = (g.F.Fs.trail c.args.fs.now).present in
    let t : FsState = (g.F.Fs.trail c.control_bytes.new.fs).present in
    let same : t ≡ s = (c.in_ok-old.ensures.reads.unchanged told).present in
    let on = c.in_ok-old.ensures.reads.told ∙ told in
    let still : WellFormed t = subst WellFormed (sym same) formed in
    contents_first s c.args.job.now _ _ (c.in_ok-old.ensures.file told formed) (ap (λ u. file_bytes u (control_path c.args.job.now.new)) (sym same) ∙ c.in_ok-new.ensures.file on still) ∙ sym (c.in_ok-controls.ensures.refused ∙ (λ i. first_by_contents (c.bytes.ensures i) (c.bytes-2.ensures i)))
