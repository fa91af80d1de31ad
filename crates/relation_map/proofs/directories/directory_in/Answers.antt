use Rattle.std.proofs.Common.{◌∙◌}
use Rattle.relation_files.specs.Sites.{site_at}
use Rattle.relation_map.proofs.Knowing.{one_known}
use Rattle.relation_map.proofs.directories.directory_in.Goals as goal

pub returns-clause-kept : goal.returns-clause-kept
returns-clause-kept c =
    one_known (site_at c.args.site.now) c.args.database c.args.directories.now c.insert.new.self c.args.tablespace c.in_ok-kept.kept c.in_ok-insert.ensures (c.in_ok-kept.ensures ∙ c.in_ok-path.ensures.path) c.requires
