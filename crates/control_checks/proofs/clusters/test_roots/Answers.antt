use Rattle.std.proofs.Common.{◌≡◌, ◌∙◌, ◌∷◌, [], Option, Some, None, Ok, Err, refl, ap, sym, subst}
use Rattle.fs_model.specs.State.{FsState}
use Rattle.fs_model.specs.WellFormed.{WellFormed}
use Rattle.fs_model.specs.Reading.{file_bytes}
use Rattle.fs_model.proofs.Observing.{no_reads, reads_then}
use Rattle.control_file.specs.declared.modes.Side.TheVariants.{Old, New}
use Rattle.control_checks.specs.declared.stop.CheckStop.TheVariants.{Refused, OutOfMemory}
use Rattle.control_checks.specs.Answers.{Stops, Tells}
use Rattle.control_checks.specs.Places.{version_path, pid_path, control_path, disabled_path}
use Rattle.control_checks.specs.Findings.{kind_at, missing_dir, missing_version, running, old_disabled, no_control, reading_in, or_first, overlaps, HasDir, HasVersion, VersionIs, IsStopped, IsEnabled, HasControl, finding, first_of, root_conditions, version_conditions, server_conditions, record_conditions, field_conditions, control_conditions, tested_conditions}
use Rattle.control_checks.proofs.Telling.{reads_on, tells_on}
use Rattle.control_checks.proofs.Joining.{joined_stops, later_stops, joined_tells, tells_last, stops_last, stops_first, stops_later, or_first_none}
use Rattle.control_checks.proofs.Contents.{contents_first, versions_first}
use Rattle.control_checks.proofs.clusters.test_roots.Goals as goal

pub returns-in_err-test_dirs-clause-reads : goal.returns-in_err-test_dirs-clause-reads
returns-in_err-test_dirs-clause-reads g c = reads_on _ _ c.from_residual.result c.in_err-test_dirs.field-0.0 c.from_residual.ensures.1 c.in_err-test_dirs.ensures.reads

pub returns-in_err-test_dirs-clause-tells : goal.returns-in_err-test_dirs-clause-tells
returns-in_err-test_dirs-clause-tells g c told formed =
    let s : FsState = (g.F.Fs.trail c.args.fs.now).present in
    tells_on _ c.from_residual.result c.in_err-test_dirs.field-0.0 c.from_residual.ensures.1 (joined_stops s c.args.job.now (HasDir Old ∷ HasDir New ∷ []) version_conditions c.in_err-test_dirs.field-0.0 (c.in_err-test_dirs.ensures.tells told formed))

pub returns-clause-reads : goal.returns-clause-reads
returns-clause-reads g c = reads_then _ _ _ None _ tt c.in_ok-test_dirs.ensures.reads c.test_versions.ensures.reads

pub returns-clause-tells : goal.returns-clause-tells
returns-clause-tells g c told formed =
    let s : FsState = (g.F.Fs.trail c.args.fs.now).present in
    let t : FsState = (g.F.Fs.trail c.test_dirs.new.fs).present in
    let same : t ≡ s = (c.in_ok-test_dirs.ensures.reads.unchanged told).present in
    joined_tells s c.args.job.now (HasDir Old ∷ HasDir New ∷ []) version_conditions t c.test_versions.result same (c.in_ok-test_dirs.ensures.tells told formed) (c.test_versions.ensures.tells (c.in_ok-test_dirs.ensures.reads.told ∙ told) (subst WellFormed (sym same) formed))
