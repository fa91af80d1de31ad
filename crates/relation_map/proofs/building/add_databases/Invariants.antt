use Rattle.std.proofs.Common.{◌≡◌, ◌++◌, drop, take}
use Rattle.std.specs.List.{flat_map, AllByRecursion}
use Rattle.catalog.specs.Spaces.{database_oids}
use Rattle.relation_files.specs.Sites.{site_at}
use Rattle.relation_map.specs.Pairs.{database_entries, HasNoFault}
use Rattle.relation_map.proofs.building.add_databases.Given as goal

abbrev pub invariant-loop-i : goal.invariant-loop-i
invariant-loop-i l = record {
  entries : l.entries.items ++ flat_map (database_entries (site_at l.old_site) (site_at l.new_site) l.new) (drop l.i l.old.databases) ≡ l.fn.entries.items ++ flat_map (database_entries (site_at l.old_site) (site_at l.new_site) l.new) l.old.databases;
  matched : AllByRecursion (HasNoFault l.old l.new) (database_oids (take l.i l.old.databases));
}
