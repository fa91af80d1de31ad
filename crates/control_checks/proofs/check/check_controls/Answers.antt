use Rattle.std.proofs.Common.{◌≡◌, ◌∙◌, ◌∷◌, [], Option, Some, None, true, false, if◌then◌else◌, Ok, Err, refl, ap, sym, subst}
use Rattle.fs_model.specs.State.{FsState}
use Rattle.fs_model.specs.WellFormed.{WellFormed}
use Rattle.fs_model.specs.Reading.{file_bytes}
use Rattle.fs_model.proofs.Observing.{no_reads, reads_then}
use Rattle.control_file.specs.declared.modes.Side.TheVariants.{Old, New}
use Rattle.control_checks.specs.declared.stop.CheckStop.TheVariants.{Refused, OutOfMemory}
use Rattle.control_checks.specs.declared.refusal.ControlRefusal.TheVariants.{Overlap}
use Rattle.control_checks.specs.Answers.{Stops, Tells}
use Rattle.control_checks.specs.Places.{version_path, pid_path, control_path, disabled_path}
use Rattle.control_checks.specs.Findings.{kind_at, missing_dir, missing_version, running, old_disabled, no_control, reading_in, or_first, overlaps, HasDir, HasVersion, VersionIs, IsStopped, IsEnabled, HasControl, finding, first_of, root_conditions, version_conditions, server_conditions, record_conditions, field_conditions, control_conditions, tested_conditions}
use Rattle.control_checks.proofs.Telling.{reads_on, tells_on}
use Rattle.control_checks.proofs.Joining.{joined_stops, later_stops, joined_tells, tells_last, stops_last, stops_first, stops_later, tells_later, or_first_none}
use Rattle.control_checks.proofs.Contents.{contents_first, versions_first}
use Rattle.control_checks.proofs.check.check_controls.Goals as goal

pub returns-then-overlaps-clause-tells : goal.returns-then-overlaps-clause-tells
returns-then-overlaps-clause-tells g c told =
    let s : FsState = (g.F.Fs.trail c.args.fs.now).present in
    let so : overlaps c.args.job.now ≡ true = sym c.overlaps.ensures ∙ c.if-overlaps.true in
    ap (λ b. or_first (if b then Some Overlap else None) (first_of s c.args.job.now tested_conditions)) so

pub returns-clause-tells : goal.returns-clause-tells
returns-clause-tells g c told =
    let s : FsState = (g.F.Fs.trail c.args.fs.now).present in
    let so : overlaps c.args.job.now ≡ false = sym c.overlaps.ensures ∙ c.if-overlaps.false in
    tells_later (if overlaps c.args.job.now then Some Overlap else None) (first_of s c.args.job.now tested_conditions) c.test_clusters.result (ap (λ b. if b then Some Overlap else None) so) (c.test_clusters.ensures.tells told (c.moment-seen.ensures.well_formed told))
