use Rattle.std.proofs.Common.{◌≡◌, ◌++◌, drop, map}
use Rattle.relation_files.specs.Sites.{site_at}
use Rattle.relation_map.specs.Directories.{AreDirectories}
use Rattle.relation_map.specs.Pairs.{entry_among}
use Rattle.relation_map.proofs.entries.add_entries.Given as goal

abbrev pub invariant-loop-i : goal.invariant-loop-i
invariant-loop-i l = record {
  entries : l.entries.items ++ map (entry_among (site_at l.old_site) (site_at l.new_site) l.database l.new) (drop l.i l.old) ≡ l.fn.entries.items ++ map (entry_among (site_at l.old_site) (site_at l.new_site) l.database l.new) l.old;
  from : AreDirectories (site_at l.old_site) l.database l.from;
  to : AreDirectories (site_at l.new_site) l.database l.to;
}
