use Rattle.std.proofs.Common.{◌≡◌, ◌∙◌, ◌∷◌, [], Option, Some, None, Ok, Err, refl, ap, sym, subst}
use Rattle.fs_model.specs.State.{FsState}
use Rattle.fs_model.specs.WellFormed.{WellFormed}
use Rattle.fs_model.specs.Reading.{file_bytes}
use Rattle.fs_model.proofs.Observing.{no_reads, reads_then}
use Rattle.control_file.specs.declared.modes.Side.TheVariants.{Old, New}
use Rattle.control_checks.specs.declared.stop.CheckStop.TheVariants.{Refused, OutOfMemory}
use Rattle.control_checks.specs.Answers.{Stops, Tells}
use Rattle.control_checks.specs.Places.{version_path, pid_path, control_path, disabled_path}
use Rattle.control_checks.specs.Findings.{kind_at, missing_dir, missing_version, running, old_disabled, no_control, reading_in, or_first, overlaps, HasDir, HasVersion, VersionIs, IsStopped, IsEnabled, HasControl, finding, first_of, root_conditions, version_conditions, server_conditions, record_conditions, field_conditions, control_conditions, tested_conditions}
use Rattle.control_checks.proofs.Telling.{reads_on, tells_on}
use Rattle.control_checks.proofs.Joining.{joined_stops, later_stops, joined_tells, tells_last, stops_last, stops_first, stops_later, or_first_none}
use Rattle.control_checks.proofs.Contents.{contents_first, versions_first}
use Rattle.control_checks.proofs.clusters.test_servers.Goals as goal

pub returns-in_err-test_pid-clause-reads : goal.returns-in_err-test_pid-clause-reads
returns-in_err-test_pid-clause-reads g c = reads_on _ _ c.from_residual.result c.in_err-test_pid.field-0.0 c.from_residual.ensures.1 c.in_err-test_pid.ensures.reads

pub returns-in_err-test_pid-clause-tells : goal.returns-in_err-test_pid-clause-tells
returns-in_err-test_pid-clause-tells g c told formed =
    let s : FsState = (g.F.Fs.trail c.args.fs.now).present in
    tells_on _ c.from_residual.result c.in_err-test_pid.field-0.0 c.from_residual.ensures.1 (stops_first (running Old (kind_at s (pid_path c.args.job.now.old))) (first_of s c.args.job.now (IsStopped New ∷ IsEnabled ∷ [])) c.in_err-test_pid.field-0.0 (c.in_err-test_pid.ensures.tells told formed))

pub returns-in_err-test_pid-2-clause-reads : goal.returns-in_err-test_pid-2-clause-reads
returns-in_err-test_pid-2-clause-reads g c = reads_on _ _ c.from_residual-in_err-test_pid-2.result c.in_err-test_pid-2.field-0.0 c.from_residual-in_err-test_pid-2.ensures.1 (reads_then _ _ _ None _ tt c.in_ok-test_pid.ensures.reads c.in_err-test_pid-2.ensures.reads)

pub returns-in_err-test_pid-2-clause-tells : goal.returns-in_err-test_pid-2-clause-tells
returns-in_err-test_pid-2-clause-tells g c told formed =
    let s : FsState = (g.F.Fs.trail c.args.fs.now).present in
    let t : FsState = (g.F.Fs.trail c.test_pid.new.fs).present in
    let same : t ≡ s = (c.in_ok-test_pid.ensures.reads.unchanged told).present in
    let on = c.in_ok-test_pid.ensures.reads.told ∙ told in
    let still : WellFormed t = subst WellFormed (sym same) formed in
    tells_on _ c.from_residual-in_err-test_pid-2.result c.in_err-test_pid-2.field-0.0 c.from_residual-in_err-test_pid-2.ensures.1
    (later_stops s c.args.job.now (IsStopped Old ∷ []) (IsStopped New ∷ IsEnabled ∷ []) t c.in_err-test_pid-2.field-0.0 same (or_first_none (running Old (kind_at s (pid_path c.args.job.now.old))) ∙ c.in_ok-test_pid.ensures.tells told formed)
    (stops_first (running New (kind_at t (pid_path c.args.job.now.new))) (first_of t c.args.job.now (IsEnabled ∷ [])) c.in_err-test_pid-2.field-0.0 (c.in_err-test_pid-2.ensures.tells on still)))

pub returns-clause-reads : goal.returns-clause-reads
returns-clause-reads g c = reads_then _ _ _ None _ tt c.in_ok-test_pid.ensures.reads (reads_then _ _ _ None _ tt c.in_ok-test_pid-2.ensures.reads c.test_disabled.ensures.reads)

pub returns-clause-tells : goal.returns-clause-tells
returns-clause-tells g c told formed =
    let s : FsState = (g.F.Fs.trail c.args.fs.now).present in
    let t : FsState = (g.F.Fs.trail c.test_pid.new.fs).present in
    let same : t ≡ s = (c.in_ok-test_pid.ensures.reads.unchanged told).present in
    let on = c.in_ok-test_pid.ensures.reads.told ∙ told in
    let still : WellFormed t = subst WellFormed (sym same) formed in
    let u : FsState = (g.F.Fs.trail c.test_pid-2.new.fs).present in
    let alike : u ≡ s = (c.in_ok-test_pid-2.ensures.reads.unchanged on).present ∙ same in
    let later = c.in_ok-test_pid-2.ensures.reads.told ∙ on in
    let yet : WellFormed u = subst WellFormed (sym alike) formed in
    joined_tells s c.args.job.now (IsStopped Old ∷ []) (IsStopped New ∷ IsEnabled ∷ []) t c.test_disabled.result same (or_first_none (running Old (kind_at s (pid_path c.args.job.now.old))) ∙ c.in_ok-test_pid.ensures.tells told formed)
    (joined_tells t c.args.job.now (IsStopped New ∷ []) (IsEnabled ∷ []) u c.test_disabled.result (c.in_ok-test_pid-2.ensures.reads.unchanged on).present (or_first_none (running New (kind_at t (pid_path c.args.job.now.new))) ∙ c.in_ok-test_pid-2.ensures.tells on still)
    (tells_last (old_disabled (kind_at u (control_path c.args.job.now.old)) (kind_at u (disabled_path c.args.job.now.old))) c.test_disabled.result (c.test_disabled.ensures.tells later yet)))
