use Rattle.std.proofs.Common.{◌≡◌, ◌∙◌, ◌∷◌, [], Option, Some, None, Ok, Err, refl, ap, sym, subst}
use Rattle.fs_model.specs.State.{FsState}
use Rattle.fs_model.specs.WellFormed.{WellFormed}
use Rattle.fs_model.specs.Reading.{file_bytes}
use Rattle.fs_model.proofs.Observing.{no_reads, reads_then}
use Rattle.control_file.specs.declared.modes.Side.TheVariants.{Old, New}
use Rattle.control_checks.specs.declared.stop.CheckStop.TheVariants.{Refused, OutOfMemory}
use Rattle.control_checks.specs.Answers.{Stops, Tells}
use Rattle.control_checks.specs.Places.{version_path, pid_path, control_path, disabled_path}
use Rattle.control_checks.specs.Findings.{kind_at, missing_dir, missing_version, running, old_disabled, no_control, reading_in, or_first, overlaps, HasDir, HasVersion, VersionIs, IsStopped, IsEnabled, HasControl, finding, first_of, root_conditions, version_conditions, server_conditions, record_conditions, field_conditions, control_conditions, tested_conditions}
use Rattle.control_checks.proofs.Telling.{reads_on, tells_on}
use Rattle.control_checks.proofs.Joining.{joined_stops, later_stops, joined_tells, tells_last, stops_last, stops_first, stops_later, or_first_none}
use Rattle.control_checks.proofs.Contents.{contents_first, versions_first}
use Rattle.control_checks.proofs.clusters.version_of.Goals as goal

pub returns-in_err-at-clause-reads : goal.returns-in_err-at-clause-reads
returns-in_err-at-clause-reads g c = reads_on _ _ c.from_residual.result OutOfMemory c.from_residual.ensures.1 (no_reads _)

pub returns-in_err-at-clause-tells : goal.returns-in_err-at-clause-tells
returns-in_err-at-clause-tells g c told formed = tells_on _ c.from_residual.result OutOfMemory c.from_residual.ensures.1 tt

pub returns-in_err-bytes-clause-tells : goal.returns-in_err-bytes-clause-tells
returns-in_err-bytes-clause-tells g c told formed = tells_on _ c.from_residual-in_err-bytes.result c.in_err-bytes.field-0.0 c.from_residual-in_err-bytes.ensures.1 (c.in_err-bytes.ensures.plain _)

pub returns-in-Some-clause-tells : goal.returns-in-Some-clause-tells
returns-in-Some-clause-tells g c told formed =
    let s : FsState = (g.F.Fs.trail c.args.fs.now).present in
    let file : Some c.in-Some.bytes ≡ file_bytes s (version_path c.args.root.now) = sym c.in-Some.is ∙ c.in_ok-bytes.ensures.file told formed ∙ ap (file_bytes s) c.in_ok-at.ensures in
    ap (missing_version c.args.side) (sym file)

pub returns-in-Some-clause-version : goal.returns-in-Some-clause-version
returns-in-Some-clause-version g c told formed =
    let s : FsState = (g.F.Fs.trail c.args.fs.now).present in
    let file : Some c.in-Some.bytes ≡ file_bytes s (version_path c.args.root.now) = sym c.in-Some.is ∙ c.in_ok-bytes.ensures.file told formed ∙ ap (file_bytes s) c.in_ok-at.ensures in
    sym file
