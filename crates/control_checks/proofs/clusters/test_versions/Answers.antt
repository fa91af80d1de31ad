use Rattle.std.proofs.Common.{◌≡◌, ◌∙◌, ◌∷◌, [], Option, Some, None, Ok, Err, refl, ap, sym, subst}
use Rattle.fs_model.specs.State.{FsState}
use Rattle.fs_model.specs.WellFormed.{WellFormed}
use Rattle.fs_model.specs.Reading.{file_bytes}
use Rattle.fs_model.proofs.Observing.{no_reads, reads_then}
use Rattle.control_file.specs.declared.modes.Side.TheVariants.{Old, New}
use Rattle.control_checks.specs.declared.stop.CheckStop.TheVariants.{Refused, OutOfMemory}
use Rattle.control_checks.specs.Answers.{Stops, Tells}
use Rattle.control_checks.specs.Places.{version_path, pid_path, control_path, disabled_path}
use Rattle.control_checks.specs.Findings.{kind_at, missing_dir, missing_version, running, old_disabled, no_control, reading_in, or_first, overlaps, HasDir, HasVersion, VersionIs, IsStopped, IsEnabled, HasControl, finding, first_of, root_conditions, version_conditions, server_conditions, record_conditions, field_conditions, control_conditions, tested_conditions}
use Rattle.control_checks.proofs.Telling.{reads_on, tells_on}
use Rattle.control_checks.proofs.Joining.{joined_stops, later_stops, joined_tells, tells_last, stops_last, stops_first, stops_later, or_first_none}
use Rattle.control_checks.proofs.Contents.{contents_first, versions_first}
use Rattle.control_checks.proofs.clusters.test_versions.Goals as goal

pub returns-in_err-old-clause-reads : goal.returns-in_err-old-clause-reads
returns-in_err-old-clause-reads g c = reads_on _ _ c.from_residual.result c.in_err-old.field-0.0 c.from_residual.ensures.1 c.in_err-old.ensures.reads

pub returns-in_err-old-clause-tells : goal.returns-in_err-old-clause-tells
returns-in_err-old-clause-tells g c told formed =
    let s : FsState = (g.F.Fs.trail c.args.fs.now).present in
    tells_on _ c.from_residual.result c.in_err-old.field-0.0 c.from_residual.ensures.1 (stops_first (missing_version Old (file_bytes s (version_path c.args.job.now.old))) (first_of s c.args.job.now (HasVersion New ∷ VersionIs Old ∷ VersionIs New ∷ [])) c.in_err-old.field-0.0 (c.in_err-old.ensures.tells told formed))

pub returns-in_err-new-clause-reads : goal.returns-in_err-new-clause-reads
returns-in_err-new-clause-reads g c = reads_on _ _ c.from_residual-in_err-new.result c.in_err-new.field-0.0 c.from_residual-in_err-new.ensures.1 (reads_then _ _ _ None _ tt c.in_ok-old.ensures.reads c.in_err-new.ensures.reads)

pub returns-in_err-new-clause-tells : goal.returns-in_err-new-clause-tells
returns-in_err-new-clause-tells g c told formed =
    let s : FsState = (g.F.Fs.trail c.args.fs.now).present in
    let t : FsState = (g.F.Fs.trail c.version_of.new.fs).present in
    let same : t ≡ s = (c.in_ok-old.ensures.reads.unchanged told).present in
    let on = c.in_ok-old.ensures.reads.told ∙ told in
    let still : WellFormed t = subst WellFormed (sym same) formed in
    tells_on _ c.from_residual-in_err-new.result c.in_err-new.field-0.0 c.from_residual-in_err-new.ensures.1
    (stops_later (missing_version Old (file_bytes s (version_path c.args.job.now.old))) (first_of s c.args.job.now (HasVersion New ∷ VersionIs Old ∷ VersionIs New ∷ [])) c.in_err-new.field-0.0 (c.in_ok-old.ensures.tells told formed)
    (stops_first (missing_version New (file_bytes s (version_path c.args.job.now.new))) (first_of s c.args.job.now (VersionIs Old ∷ VersionIs New ∷ [])) c.in_err-new.field-0.0 (subst (λ u. Stops (missing_version New (file_bytes u (version_path c.args.job.now.new))) c.in_err-new.field-0.0) same (c.in_err-new.ensures.tells on still))))

pub returns-in_err-test_texts-clause-reads : goal.returns-in_err-test_texts-clause-reads
returns-in_err-test_texts-clause-reads g c = reads_on _ _ c.from_residual-in_err-test_texts.result (Refused c.in_err-test_texts.field-0.0) c.from_residual-in_err-test_texts.ensures.1 (reads_then _ _ _ None None tt c.in_ok-old.ensures.reads c.in_ok-new.ensures.reads)

pub returns-in_err-test_texts-clause-tells : goal.returns-in_err-test_texts-clause-tells
returns-in_err-test_texts-clause-tells g c told formed =
    let s : FsState = (g.F.Fs.trail c.args.fs.now).present in
    let t : FsState = (g.F.Fs.trail c.version_of.new.fs).present in
    let same : t ≡ s = (c.in_ok-old.ensures.reads.unchanged told).present in
    let on = c.in_ok-old.ensures.reads.told ∙ told in
    let still : WellFormed t = subst WellFormed (sym same) formed in
    tells_on _ c.from_residual-in_err-test_texts.result (Refused c.in_err-test_texts.field-0.0) c.from_residual-in_err-test_texts.ensures.1
    (versions_first s c.args.job.now _ _ (c.in_ok-old.ensures.version told formed) (ap (λ u. file_bytes u (version_path c.args.job.now.new)) (sym same) ∙ c.in_ok-new.ensures.version on still) ∙ sym c.in_err-test_texts.ensures)

pub returns-clause-reads : goal.returns-clause-reads
returns-clause-reads g c = reads_then _ _ _ None None tt c.in_ok-old.ensures.reads c.in_ok-new.ensures.reads

pub returns-clause-tells : goal.returns-clause-tells
returns-clause-tells g c told formed =
    let s : FsState = (g.F.Fs.trail c.args.fs.now).present in
    let t : FsState = (g.F.Fs.trail c.version_of.new.fs).present in
    let same : t ≡ s = (c.in_ok-old.ensures.reads.unchanged told).present in
    let on = c.in_ok-old.ensures.reads.told ∙ told in
    let still : WellFormed t = subst WellFormed (sym same) formed in
    versions_first s c.args.job.now _ _ (c.in_ok-old.ensures.version told formed) (ap (λ u. file_bytes u (version_path c.args.job.now.new)) (sym same) ∙ c.in_ok-new.ensures.version on still) ∙ sym c.in_ok-test_texts.ensures
