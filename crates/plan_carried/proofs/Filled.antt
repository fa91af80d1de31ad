-- The new names have the bytes that the old ones had, and other paths what they had.
use Rattle.std.proofs.Common.{◌≡◌, ◌∙◌, ℕ, true, List, [], ◌∷◌, Option, Some, None, refl, sym, ap}
use Rattle.std.specs.Prelude.{is_some}
use Rattle.std.specs.Option.{option_map, unwrap_or}
use Rattle.std.specs.List.{AllByRecursion}
use Rattle.std.specs.FinMap.{get}
use Rattle.fs_model.specs.declared.node.Node.{Node}
use Rattle.fs_model.specs.declared.node.Node.TheVariants.{Dir, File, Sym}
use Rattle.fs_model.specs.Names.{Path}
use Rattle.fs_model.specs.State.{FsState}
use Rattle.fs_model.specs.Effects.{bytes_of}
use Rattle.fs_model.specs.Reading.{file_bytes, inode_of_node}
use Rattle.fs_model.specs.WellFormed.{WellFormed, IsKnown}
use Rattle.control_file.specs.declared.job.Job.{Job}
use Rattle.catalog.specs.Cluster.{Cluster}
use Rattle.catalog.specs.Valid.{IsValid}
use Rattle.crash_safety.specs.Synced.{IsOneOf}
use Rattle.transfer_plan.specs.declared.plan.PlanItem.{PlanItem}
use Rattle.transfer_plan.specs.Carriable.{targets}
use Rattle.transfer_plan.specs.Changed.{ChangesOnlyAt}
use Rattle.copy_transfer.specs.CopiedFiles.{IsCopied, AreCopied}
use Rattle.link_transfer.specs.LinkedFiles.{IsLinked, AreLinked, ChangesNamesAt}
use Rattle.relation_map.specs.Pairs.{entries_of}
use Rattle.plan_build.specs.Planned.{carriages}
use Rattle.plan_build.specs.Plannable.{IsPlanOf}
use Rattle.plan_build.specs.Carrying.{HasOnlyCarried, HasItems, HasRelations}
use Rattle.plan_build.proofs.Carrying.{plan_carries, relations_carried}

-- what stands at a path that wasn't changed has the bytes that it had
module _ (s t : FsState) (same : (inode : ℕ) → is_some (get s.bytes inode) ≡ true → get t.bytes inode ≡ get s.bytes inode) where
  node_still : (path : Path) (found : Option Node) → IsKnown s.bytes s.devices path found → option_map (bytes_of t.bytes) (inode_of_node found) ≡ option_map (bytes_of s.bytes) (inode_of_node found)
  node_still path None known = refl
  node_still path (Some Dir) known = refl
  node_still path (Some (File inode)) known = ap (λ bytes. Some (unwrap_or bytes [])) (same inode known)
  node_still path (Some (Sym target)) known = refl

  path_still : (path : Path) → WellFormed s → get t.names path ≡ get s.names path → file_bytes t path ≡ file_bytes s path
  path_still path formed named = ap (λ found. option_map (bytes_of t.bytes) (inode_of_node found)) named ∙ node_still path (get s.names path) (formed.names path)

others_still : (s t : FsState) (paths : List Path) → WellFormed s → ChangesOnlyAt paths s t → (path : Path) → (IsOneOf paths path → ⊥) → file_bytes t path ≡ file_bytes s path
others_still s t paths formed only path none = path_still s t only.bytes path formed (only.names path none)

copied_bytes : (s t : FsState) (item : PlanItem) → IsCopied s t item → file_bytes t item.to ≡ file_bytes s item.from
copied_bytes s t item copied =
    ap (λ found. option_map (bytes_of t.bytes) (inode_of_node found)) copied.there ∙ ap (λ bytes. Some (unwrap_or bytes [])) copied.same ∙ sym copied.source

all_copied : (s t : FsState) (items : List PlanItem) → AllByRecursion (IsCopied s t) items → AllByRecursion (λ item. file_bytes t item.to ≡ file_bytes s item.from) items
all_copied s t [] all = tt
all_copied s t (item ∷ items) all = (copied_bytes s t item all.0, all_copied s t items all.1)

pub copies_fill : (s t : FsState) (items : List PlanItem) → WellFormed s → AreCopied s t items → ChangesOnlyAt (targets items) s t → HasItems s t items
copies_fill s t items formed copied only = record { each = all_copied s t items copied.each; others = others_still s t (targets items) formed only }

linked_bytes : (s t : FsState) (item : PlanItem) → t.bytes ≡ s.bytes → IsLinked s t item → file_bytes t item.to ≡ file_bytes s item.from
linked_bytes s t item same linked =
    ap (λ found. option_map (bytes_of t.bytes) (inode_of_node found)) linked.there
    ∙ ap (λ contents. Some (bytes_of contents linked.inode)) same
    ∙ sym (ap (λ found. option_map (bytes_of s.bytes) (inode_of_node found)) linked.source)

all_linked : (s t : FsState) (items : List PlanItem) → t.bytes ≡ s.bytes → AllByRecursion (IsLinked s t) items → AllByRecursion (λ item. file_bytes t item.to ≡ file_bytes s item.from) items
all_linked s t [] same all = tt
all_linked s t (item ∷ items) same all = (linked_bytes s t item same all.0, all_linked s t items same all.1)

pub links_fill : (s t : FsState) (items : List PlanItem) → WellFormed s → AreLinked s t items → ChangesNamesAt (targets items) s t → HasItems s t items
links_fill s t items formed linked changes = record { each = all_linked s t items changes.bytes linked; others = others_still s t (targets items) formed changes.only }

pub filled_relations : (job : Job) (catalog : Cluster) (s t : FsState) (items : List PlanItem) → IsValid catalog → IsPlanOf s (entries_of job catalog catalog) items → AllByRecursion (HasOnlyCarried s) (carriages (entries_of job catalog catalog))
    → HasItems s t items → HasRelations job catalog s t
filled_relations job catalog s t items valid plan only has = relations_carried job catalog s t valid (plan_carries s t (entries_of job catalog catalog) items plan only has)
