use Rattle.std.proofs.Common.{◌≡◌, ◌∙◌, ◌∷◌, [], Option, Some, None, Ok, Err, refl, ap, sym, subst}
use Rattle.fs_model.specs.State.{FsState}
use Rattle.fs_model.specs.WellFormed.{WellFormed}
use Rattle.fs_model.specs.Reading.{file_bytes}
use Rattle.fs_model.proofs.Observing.{no_reads, reads_then}
use Rattle.control_file.specs.declared.modes.Side.TheVariants.{Old, New}
use Rattle.control_checks.specs.declared.stop.CheckStop.TheVariants.{Refused, OutOfMemory}
use Rattle.control_checks.specs.Answers.{Stops, Tells}
use Rattle.control_checks.specs.Places.{version_path, pid_path, control_path, disabled_path}
use Rattle.control_checks.specs.Findings.{kind_at, missing_dir, missing_version, running, old_disabled, no_control, reading_in, or_first, overlaps, HasDir, HasVersion, VersionIs, IsStopped, IsEnabled, HasControl, finding, first_of, root_conditions, version_conditions, server_conditions, record_conditions, field_conditions, control_conditions, tested_conditions}
use Rattle.control_checks.proofs.Telling.{reads_on, tells_on}
use Rattle.control_checks.proofs.Joining.{joined_stops, later_stops, joined_tells, tells_last, stops_last, stops_first, stops_later, or_first_none}
use Rattle.control_checks.proofs.Contents.{contents_first, versions_first}
use Rattle.control_checks.proofs.clusters.test_pid.Goals as goal

pub returns-in_err-at-clause-reads : goal.returns-in_err-at-clause-reads
returns-in_err-at-clause-reads g c = reads_on _ _ c.from_residual.result OutOfMemory c.from_residual.ensures.1 (no_reads _)

pub returns-in_err-at-clause-tells : goal.returns-in_err-at-clause-tells
returns-in_err-at-clause-tells g c told formed = tells_on _ c.from_residual.result OutOfMemory c.from_residual.ensures.1 tt

pub returns-in_err-kind-clause-reads : goal.returns-in_err-kind-clause-reads
returns-in_err-kind-clause-reads g c = reads_on _ _ c.from_residual-in_err-kind.result c.in_err-kind.field-0.0 c.from_residual-in_err-kind.ensures.1 c.in_err-kind.ensures.reads

pub returns-in_err-kind-clause-tells : goal.returns-in_err-kind-clause-tells
returns-in_err-kind-clause-tells g c told formed = tells_on _ c.from_residual-in_err-kind.result c.in_err-kind.field-0.0 c.from_residual-in_err-kind.ensures.1 (c.in_err-kind.ensures.plain _)

pub returns-in_err-running-clause-reads : goal.returns-in_err-running-clause-reads
returns-in_err-running-clause-reads g c = reads_on _ _ c.from_residual-in_err-running.result (Refused c.in_err-running.field-0.0) c.from_residual-in_err-running.ensures.1 c.in_ok-kind.ensures.reads

pub returns-in_err-running-clause-tells : goal.returns-in_err-running-clause-tells
returns-in_err-running-clause-tells g c told formed =
    tells_on _ c.from_residual-in_err-running.result (Refused c.in_err-running.field-0.0) c.from_residual-in_err-running.ensures.1 (sym (c.in_err-running.ensures ∙ ap (running c.args.side) (c.in_ok-kind.ensures.kind told formed ∙ ap (kind_at (g.F.Fs.trail c.args.fs.now).present) c.in_ok-at.ensures)))

pub returns-clause-tells : goal.returns-clause-tells
returns-clause-tells g c told formed = sym (c.in_ok-running.ensures ∙ ap (running c.args.side) (c.in_ok-kind.ensures.kind told formed ∙ ap (kind_at (g.F.Fs.trail c.args.fs.now).present) c.in_ok-at.ensures))
