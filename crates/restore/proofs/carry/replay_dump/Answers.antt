use Rattle.std.proofs.Common.{◌∙◌, Err, ap, subst, sym}
use Rattle.control_file.specs.declared.releases.Release.TheVariants.{V15, V16}
use Rattle.catalog.specs.Cluster.{started}
use Rattle.catalog_server.specs.Profile.{profile_of}
use Rattle.catalog_server.specs.ReplayNames.{listed_names}
use Rattle.catalog_server.specs.Replayed.{replayed}
use Rattle.new_names.proofs.Looking.{unchanged_listed}
use Rattle.restore.proofs.Frames.{replay_goes, dumped_known, room_there, unrefused_on}
use Rattle.restore.specs.Causes.{IsUnrefused}
use Rattle.control_file.specs.declared.modes.Side.TheVariants.{New}
use Rattle.restore.proofs.carry.replay_dump.Goals as goal

pub returns-in-Err-clause-calls : goal.returns-in-Err-clause-calls
returns-in-Err-clause-calls g c told catalog old_is new_is =
    unchanged_listed (listed_names c.args.job.now.new V16 (started catalog.bootstrap) catalog) (g.F.Fs.trail c.args.fs.now) (g.F.Fs.trail c.dump.new.fs) (c.dump.ensures.unchanged told)

pub returns-in-Ok-replay-clause-calls : goal.returns-in-Ok-replay-clause-calls
returns-in-Ok-replay-clause-calls g c told catalog old_is new_is =
    let leads = ap (replayed (started catalog.bootstrap)) c.deref.ensures.value ∙ dumped_known (g.S.Server.catalog_of c.args.job.now.old V15 (profile_of (g.F.Fs.trail c.args.fs.now).present c.args.job.now.old)) c.in-Ok.text.items catalog old_is (c.in-Ok.ensures.leads told) in
    replay_goes c.args.job.now.new V16 (λ s. g.S.Server.catalog_of c.args.job.now.new V16 (profile_of s c.args.job.now.new)) c.deref.result.now (started catalog.bootstrap) catalog leads
    (g.F.Fs.trail c.args.fs.now) (g.F.Fs.trail c.dump.new.fs) (g.F.Fs.trail c.replay.new.fs) new_is (c.dump.ensures.unchanged told) (c.replay.ensures.calls (c.dump.ensures.told ∙ told))

pub returns-in-Ok-replay-clause-made : goal.returns-in-Ok-replay-clause-made
returns-in-Ok-replay-clause-made g c told catalog old_is new_is =
    let leads = ap (replayed (started catalog.bootstrap)) c.deref.ensures.value ∙ dumped_known (g.S.Server.catalog_of c.args.job.now.old V15 (profile_of (g.F.Fs.trail c.args.fs.now).present c.args.job.now.old)) c.in-Ok.text.items catalog old_is (c.in-Ok.ensures.leads told) in
    let here = ap (λ s. g.S.Server.catalog_of c.args.job.now.new V16 (profile_of s c.args.job.now.new)) (c.dump.ensures.unchanged told).present ∙ new_is in
    c.in-Ok-replay.ensures.made (c.dump.ensures.told ∙ told) (started catalog.bootstrap) catalog here leads

pub returns-clause-calls : goal.returns-clause-calls
returns-clause-calls g c told catalog old_is new_is =
    let leads = ap (replayed (started catalog.bootstrap)) c.deref.ensures.value ∙ dumped_known (g.S.Server.catalog_of c.args.job.now.old V15 (profile_of (g.F.Fs.trail c.args.fs.now).present c.args.job.now.old)) c.in-Ok.text.items catalog old_is (c.in-Ok.ensures.leads told) in
    replay_goes c.args.job.now.new V16 (λ s. g.S.Server.catalog_of c.args.job.now.new V16 (profile_of s c.args.job.now.new)) c.deref.result.now (started catalog.bootstrap) catalog leads
    (g.F.Fs.trail c.args.fs.now) (g.F.Fs.trail c.dump.new.fs) (g.F.Fs.trail c.replay.new.fs) new_is (c.dump.ensures.unchanged told) (c.replay.ensures.calls (c.dump.ensures.told ∙ told))

pub returns-clause-unrefused : goal.returns-clause-unrefused
returns-clause-unrefused g c told catalog old_is new_is room =
    let leads = ap (replayed (started catalog.bootstrap)) c.deref.ensures.value ∙ dumped_known (g.S.Server.catalog_of c.args.job.now.old V15 (profile_of (g.F.Fs.trail c.args.fs.now).present c.args.job.now.old)) c.in-Ok.text.items catalog old_is (c.in-Ok.ensures.leads told) in
    let here = ap (λ s. g.S.Server.catalog_of c.args.job.now.new V16 (profile_of s c.args.job.now.new)) (c.dump.ensures.unchanged told).present ∙ new_is in
    let there = room_there c.args.job.now.new V16 (λ s. g.S.Server.catalog_of c.args.job.now.new V16 (profile_of s c.args.job.now.new)) c.deref.result.now (started catalog.bootstrap) catalog leads (g.F.Fs.trail c.args.fs.now) (g.F.Fs.trail c.dump.new.fs) (c.dump.ensures.unchanged told) room in
    subst (λ e. IsUnrefused {T = Unit {0}} (Err e)) (sym c.error_on-in-Err-replay.ensures) (unrefused_on (Unit {0}) (Unit {0}) New c.in-Err-replay.error (c.in-Err-replay.ensures.unrefused (c.dump.ensures.told ∙ told) (started catalog.bootstrap) catalog here leads there))
