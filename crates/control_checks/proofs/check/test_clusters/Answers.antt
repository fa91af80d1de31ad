use Rattle.std.proofs.Common.{◌≡◌, ◌∙◌, ◌++◌, ◌∷◌, [], Option, Some, None, Ok, Err, refl, ap, sym, subst}
use Rattle.fs_model.specs.State.{FsState}
use Rattle.fs_model.specs.WellFormed.{WellFormed}
use Rattle.fs_model.specs.Reading.{file_bytes}
use Rattle.fs_model.proofs.Observing.{no_reads, reads_then}
use Rattle.control_file.specs.declared.modes.Side.TheVariants.{Old, New}
use Rattle.control_checks.specs.declared.stop.CheckStop.TheVariants.{Refused, OutOfMemory}
use Rattle.control_checks.specs.Answers.{Stops, Tells}
use Rattle.control_checks.specs.Places.{version_path, pid_path, control_path, disabled_path}
use Rattle.control_checks.specs.Findings.{kind_at, missing_dir, missing_version, running, old_disabled, no_control, reading_in, or_first, overlaps, HasDir, HasVersion, VersionIs, IsStopped, IsEnabled, HasControl, finding, first_of, root_conditions, version_conditions, server_conditions, record_conditions, field_conditions, control_conditions, tested_conditions}
use Rattle.std.specs.Prelude.{IfOk}
use Rattle.control_checks.specs.Records.{AreControls}
use Rattle.control_checks.proofs.Telling.{reads_on, tells_on}
use Rattle.control_checks.proofs.Joining.{joined_stops, later_stops, joined_tells, tells_last, stops_last, stops_first, stops_later, or_first_none}
use Rattle.control_checks.proofs.Contents.{contents_first, versions_first}
use Rattle.control_checks.proofs.check.test_clusters.Goals as goal

pub returns-in_err-test_roots-clause-reads : goal.returns-in_err-test_roots-clause-reads
returns-in_err-test_roots-clause-reads g c = reads_on _ _ c.from_residual.result c.in_err-test_roots.field-0.0 c.from_residual.ensures.1 c.in_err-test_roots.ensures.reads

pub returns-in_err-test_roots-clause-tells : goal.returns-in_err-test_roots-clause-tells
returns-in_err-test_roots-clause-tells g c told formed =
    let s : FsState = (g.F.Fs.trail c.args.fs.now).present in
    tells_on _ c.from_residual.result c.in_err-test_roots.field-0.0 c.from_residual.ensures.1 (joined_stops s c.args.job.now root_conditions (server_conditions ++ control_conditions) c.in_err-test_roots.field-0.0 (c.in_err-test_roots.ensures.tells told formed))

pub returns-in_err-test_servers-clause-reads : goal.returns-in_err-test_servers-clause-reads
returns-in_err-test_servers-clause-reads g c = reads_on _ _ c.from_residual-in_err-test_servers.result c.in_err-test_servers.field-0.0 c.from_residual-in_err-test_servers.ensures.1 (reads_then _ _ _ None _ tt c.in_ok-test_roots.ensures.reads c.in_err-test_servers.ensures.reads)

pub returns-in_err-test_servers-clause-tells : goal.returns-in_err-test_servers-clause-tells
returns-in_err-test_servers-clause-tells g c told formed =
    let s : FsState = (g.F.Fs.trail c.args.fs.now).present in
    let t : FsState = (g.F.Fs.trail c.test_roots.new.fs).present in
    let same : t ≡ s = (c.in_ok-test_roots.ensures.reads.unchanged told).present in
    let on = c.in_ok-test_roots.ensures.reads.told ∙ told in
    let still : WellFormed t = subst WellFormed (sym same) formed in
    tells_on _ c.from_residual-in_err-test_servers.result c.in_err-test_servers.field-0.0 c.from_residual-in_err-test_servers.ensures.1
    (later_stops s c.args.job.now root_conditions (server_conditions ++ control_conditions) t c.in_err-test_servers.field-0.0 same (c.in_ok-test_roots.ensures.tells told formed)
    (joined_stops t c.args.job.now server_conditions control_conditions c.in_err-test_servers.field-0.0 (c.in_err-test_servers.ensures.tells on still)))

pub returns-clause-reads : goal.returns-clause-reads
returns-clause-reads g c = reads_then _ _ _ None _ tt c.in_ok-test_roots.ensures.reads (reads_then _ _ _ None _ tt c.in_ok-test_servers.ensures.reads c.read_controls.ensures.reads)

pub returns-clause-tells : goal.returns-clause-tells
returns-clause-tells g c told formed =
    let s : FsState = (g.F.Fs.trail c.args.fs.now).present in
    let t : FsState = (g.F.Fs.trail c.test_roots.new.fs).present in
    let same : t ≡ s = (c.in_ok-test_roots.ensures.reads.unchanged told).present in
    let on = c.in_ok-test_roots.ensures.reads.told ∙ told in
    let still : WellFormed t = subst WellFormed (sym same) formed in
    let u : FsState = (g.F.Fs.trail c.test_servers.new.fs).present in
    let alike : u ≡ s = (c.in_ok-test_servers.ensures.reads.unchanged on).present ∙ same in
    let later = c.in_ok-test_servers.ensures.reads.told ∙ on in
    let yet : WellFormed u = subst WellFormed (sym alike) formed in
    joined_tells s c.args.job.now root_conditions (server_conditions ++ control_conditions) t c.read_controls.result same (c.in_ok-test_roots.ensures.tells told formed)
    (joined_tells t c.args.job.now server_conditions control_conditions u c.read_controls.result (c.in_ok-test_servers.ensures.reads.unchanged on).present (c.in_ok-test_servers.ensures.tells on still) (c.read_controls.ensures.tells later yet))

pub returns-clause-read : goal.returns-clause-read
returns-clause-read g c told formed =
    let s : FsState = (g.F.Fs.trail c.args.fs.now).present in
    let t : FsState = (g.F.Fs.trail c.test_roots.new.fs).present in
    let same : t ≡ s = (c.in_ok-test_roots.ensures.reads.unchanged told).present in
    let on = c.in_ok-test_roots.ensures.reads.told ∙ told in
    let still : WellFormed t = subst WellFormed (sym same) formed in
    let u : FsState = (g.F.Fs.trail c.test_servers.new.fs).present in
    let alike : u ≡ s = (c.in_ok-test_servers.ensures.reads.unchanged on).present ∙ same in
    let later = c.in_ok-test_servers.ensures.reads.told ∙ on in
    let yet : WellFormed u = subst WellFormed (sym alike) formed in
    subst (λ v. IfOk c.read_controls.result (λ read. AreControls v c.args.job.now read)) alike (c.read_controls.ensures.read later yet)
