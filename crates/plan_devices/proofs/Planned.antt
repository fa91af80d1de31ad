-- The devices of the directories of a plan's items.
use Rattle.std.proofs.Common.{◌≡◌, ◌∙◌, ◌∷◌, [], ℕ, List, Option, Some, None, true, false, refl, sym, ap, subst}
use Rattle.std.specs.Prelude.{is_some}
use Rattle.std.specs.List.{AllByRecursion, Contains}
use Rattle.std.specs.FinMap.{get}
use Rattle.fs_model.specs.declared.node.Node.{Node}
use Rattle.fs_model.specs.declared.node.Node.TheVariants.{Dir}
use Rattle.fs_model.specs.Names.{Path, parent}
use Rattle.fs_model.specs.State.{FsState}
use Rattle.fs_model.specs.Calls.{device_of, is_root}
use Rattle.fs_model.specs.Effects.{bytes_of}
use Rattle.fs_model.specs.Reading.{file_bytes, inode_of_node}
use Rattle.fs_model.specs.WellFormed.{WellFormed}
use Rattle.std.specs.Option.{option_map}
use Rattle.crash_safety.proofs.Needing.{parent_stands, parent_of, no_root}
use Rattle.control_file.specs.declared.job.Job.{Job}
use Rattle.catalog.specs.Cluster.{Cluster}
use Rattle.relation_files.specs.declared.relation.Relation.{Relation}
use Rattle.relation_files.specs.declared.relation.Fork.{Fork}
use Rattle.relation_files.specs.declared.relation.Fork.TheVariants.{Main}
use Rattle.relation_files.specs.Places.{Site, relation_dir, segment_path, file_name}
use Rattle.relation_files.specs.Relations.{relations_of}
use Rattle.transfer_plan.specs.declared.plan.PlanItem.{PlanItem}
use Rattle.transfer_plan.specs.Carriable.{IsCarriable, HaveOneDevice}
use Rattle.phase_facts.specs.Places.{disables, old_site, new_site}
use Rattle.phase_facts.specs.CanUpgrade.{CanUpgrade}
use Rattle.phase_facts.specs.Plans.{IsRelationItem}
use Rattle.plan_devices.specs.Kept.{KeepsDevices}
use Rattle.plan_devices.proofs.Nearest.{itself, has_nearest}

-- a segment is in the directory of its relation
segment_dir : (site : Site) (relation : Relation) (fork : Fork) (segment : ℕ) → parent (segment_path site relation fork segment) ≡ relation_dir site relation
unfolding segment_path
segment_dir site relation fork segment = parent_of (relation_dir site relation) (file_name relation fork segment)

segment_below : (site : Site) (relation : Relation) (fork : Fork) (segment : ℕ) → is_root (segment_path site relation fork segment) ≡ false
unfolding segment_path
segment_below site relation fork segment = no_root (relation_dir site relation) (file_name relation fork segment)

-- a path with a file's bytes has a name
name_there : (s : FsState) (path : Path) → is_some (file_bytes s path) ≡ true → is_some (get s.names path) ≡ true
name_there s path = by (get s.names path)
  where
    by : (node : Option Node) → is_some (option_map (bytes_of s.bytes) (inode_of_node node)) ≡ true → is_some node ≡ true
    by None e = e
    by (Some node) e = refl

-- the directory of a file stands
file_dir : (s : FsState) (path : Path) → WellFormed s → is_some (file_bytes s path) ≡ true → is_root path ≡ false → get s.names (parent path) ≡ Some Dir
file_dir s path well there below = parent_stands s.names path (well.tree path (name_there s path there)) below

module _ (job : Job) (catalog : Cluster) (head : List ℕ) (start s : FsState) (can : CanUpgrade job catalog head start) (links : disables job.mode ≡ true) (kept : KeepsDevices start s) where
  -- the old directory of a relation stood at the start
  old_stood : (relation : Relation) → Contains (relations_of catalog) relation → get start.names (relation_dir (old_site job catalog) relation) ≡ Some Dir
  old_stood relation listed =
      let site = old_site job catalog in
      subst (λ dir. get start.names dir ≡ Some Dir) (segment_dir site relation Main 0)
      (file_dir start (segment_path site relation Main 0) can.begins.well_formed (can.files relation listed).first (segment_below site relation Main 0))

  relation_device : (relation : Relation) → Contains (relations_of catalog) relation → get s.names (relation_dir (new_site job catalog) relation) ≡ Some Dir
      → device_of s (relation_dir (old_site job catalog) relation) ≡ device_of s (relation_dir (new_site job catalog) relation)
  relation_device relation listed stands =
      let old = relation_dir (old_site job catalog) relation in
      let new = relation_dir (new_site job catalog) relation in
      let there = old_stood relation listed in
      let (near, nearest) = has_nearest start.names new can.begins.well_formed.root in
      kept.devices old old (kept.dirs old there) (itself start.names old there)
      ∙ can.one_device links relation listed near nearest
      ∙ sym (kept.devices new near stands nearest)

  item_device : (item : PlanItem) → IsRelationItem job catalog item → IsCarriable s.names item → device_of s (parent item.from) ≡ device_of s (parent item.to)
  item_device item is carriable =
      let from : parent item.from ≡ relation_dir (old_site job catalog) is.relation = ap parent is.from_is ∙ segment_dir (old_site job catalog) is.relation is.fork is.segment in
      let to : parent item.to ≡ relation_dir (new_site job catalog) is.relation = ap parent is.to_is ∙ segment_dir (new_site job catalog) is.relation is.fork is.segment in
      ap (device_of s) from ∙ relation_device is.relation is.listed (ap (get s.names) (sym to) ∙ carriable.dir) ∙ ap (device_of s) (sym to)

  pub items_have_one_device : (items : List PlanItem) → AllByRecursion (IsRelationItem job catalog) items → AllByRecursion (IsCarriable s.names) items → HaveOneDevice s items
  items_have_one_device [] of each = tt
  items_have_one_device (item ∷ items) of each = (item_device item of.0 each.0, items_have_one_device items of.1 each.1)
