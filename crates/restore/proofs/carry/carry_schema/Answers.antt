use Rattle.std.proofs.Common.{◌∙◌}
use Rattle.control_file.specs.declared.releases.Release.TheVariants.{V16}
use Rattle.catalog.specs.Cluster.{started}
use Rattle.catalog_server.specs.ReplayNames.{listed_names}
use Rattle.restore.proofs.Frames.{then_unchanged, still_stand}
use Rattle.restore.proofs.carry.carry_schema.Goals as goal

pub returns-clause-calls : goal.returns-clause-calls
returns-clause-calls g c told old_is new_is =
    then_unchanged (listed_names c.args.job.now.new V16 (started c.args.old.now.bootstrap) c.args.old.now) (g.F.Fs.trail c.args.fs.now) (g.F.Fs.trail c.replay_dump.new.fs) (g.F.Fs.trail c.read_back.new.fs)
    (c.replay_dump.ensures.calls told c.args.old.now old_is new_is) (c.read_back.ensures.unchanged (c.replay_dump.ensures.told ∙ told))

pub returns-clause-made : goal.returns-clause-made
returns-clause-made g c told old_is new_is =
    still_stand (listed_names c.args.job.now.new V16 (started c.args.old.now.bootstrap) c.args.old.now) (g.F.Fs.trail c.replay_dump.new.fs) (g.F.Fs.trail c.read_back.new.fs) c.read_back.result
    (c.in_ok-replay_dump.ensures.made told c.args.old.now old_is new_is) (c.read_back.ensures.unchanged (c.replay_dump.ensures.told ∙ told))
