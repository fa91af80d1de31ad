-- What each step of an upgrade leaves as it was, name by name and inode by inode.
use Rattle.std.proofs.Common.{◌≡◌, ◌≢◌, inl, inr, ℕ, true, List, [], ◌∷◌, Option, Some, None, refl, sym, ◌∙◌, ap, subst}
use Rattle.std.specs.Prelude.{is_some}
use Rattle.std.specs.Option.{option_map, unwrap_or}
use Rattle.std.specs.FinMap.{get}
use Rattle.fs_model.specs.declared.node.Node.{Node}
use Rattle.fs_model.specs.declared.node.Node.TheVariants.{Dir, File, Sym}
use Rattle.fs_model.specs.Names.{Path}
use Rattle.fs_model.specs.State.{FsState}
use Rattle.fs_model.specs.Effects.{bytes_of, set_name}
use Rattle.fs_model.specs.Reading.{file_bytes, inode_of_node}
use Rattle.fs_model.proofs.Lookups.{set_name_other, insert_here, insert_other}
use Rattle.crash_safety.specs.Places.{control_at, disabled_at}
use Rattle.crash_safety.specs.Marked.{SameButMark}
use Rattle.crash_safety.specs.Synced.{IsOneOf}
use Rattle.control_file.specs.declared.job.Job.{Job}
use Rattle.control_file.specs.declared.records.Counters.{Counters}
use Rattle.control_file.specs.declared.modes.Mode.{Mode}
use Rattle.control_file.specs.declared.modes.Mode.TheVariants.{Copy, Link}
use Rattle.catalog.specs.Cluster.{Cluster}
use Rattle.new_names.specs.declared.names.NewName.{NewName}
use Rattle.new_names.specs.declared.names.NewNode.{NewNode}
use Rattle.new_names.specs.Frame.{MakesOnly, IsListed}
use Rattle.catalog_server.proofs.Members.{In, from_in}
use Rattle.status_transfer.specs.Counted.{SetsCounters}
use Rattle.transfer_plan.specs.declared.plan.PlanItem.{PlanItem}
use Rattle.transfer_plan.specs.Carriable.{targets}
use Rattle.upgraded.specs.CarriedFiles.{IsCarriedFile, IsPlan}
use Rattle.upgraded.specs.Upgrades.{DisablesByMode, TransfersByMode}

-- a file that stands in both, with its bytes
pub same_file : (s t : FsState) (path : Path) → get t.names path ≡ get s.names path → ((inode : ℕ) → get s.names path ≡ Some (File inode) → get t.bytes inode ≡ get s.bytes inode) → file_bytes t path ≡ file_bytes s path
same_file s t path names bytes = ap (λ node. option_map (bytes_of t.bytes) (inode_of_node node)) names ∙ by_node (get s.names path) refl
  where
    by_node : (node : Option Node) → get s.names path ≡ node → option_map (bytes_of t.bytes) (inode_of_node node) ≡ option_map (bytes_of s.bytes) (inode_of_node node)
    by_node None e = refl
    by_node (Some Dir) e = refl
    by_node (Some (File inode)) e = ap (λ found. Some (unwrap_or found [])) (bytes inode e)
    by_node (Some (Sym target)) e = refl

-- ---- the schema

pub unlisted_stays : (listed : List NewName) (s t : FsState) → MakesOnly listed s t → (path : Path) → ((what : NewNode) → IsListed listed path what → ⊥) → get t.names path ≡ get s.names path
unlisted_stays listed s t only path unlisted = elim (only.names path) [ inl same ↦ same | inr own ↦ absurd (unlisted own.0 own.1) ]

-- ---- the counters

module _ (s : FsState) (at : Path) (given : Counters) (t : FsState) (counted : SetsCounters s at given t) where
  pub counted_names : t.names ≡ s.names
  counted_names = ap (λ (state : FsState). state.names) counted.whole

  pub counted_bytes : (inode : ℕ) → inode ≢ counted.inode → get t.bytes inode ≡ get s.bytes inode
  counted_bytes inode other = ap (λ (state : FsState). get state.bytes inode) counted.whole ∙ insert_other s.bytes counted.inode counted.after inode other

  pub counted_here : get t.bytes counted.inode ≡ Some counted.after
  counted_here = ap (λ (state : FsState). get state.bytes counted.inode) counted.whole ∙ insert_here s.bytes counted.inode counted.after

-- ---- the rename

pub disabled_names : (mode : Mode) (job : Job) (s t : FsState) → DisablesByMode mode job s t → (path : Path) → path ≢ control_at job.old → path ≢ disabled_at job.old → get t.names path ≡ get s.names path
disabled_names Copy job s t same path other other_too = ap (λ (state : FsState). get state.names path) same
disabled_names Link job s t disables path other other_too =
    let node : Option Node = Some (File disables.renamed.inode) in
    ap (λ names. get names path) disables.renamed.names ∙ set_name_other (set_name s.names (control_at job.old) None) (disabled_at job.old) node path other_too ∙ set_name_other s.names (control_at job.old) None path other

pub disabled_bytes : (mode : Mode) (job : Job) (s t : FsState) → DisablesByMode mode job s t → t.bytes ≡ s.bytes
disabled_bytes Copy job s t same = ap (λ (state : FsState). state.bytes) same
disabled_bytes Link job s t disables = disables.bytes

-- ---- the files

pub transferred_names : (mode : Mode) (items : List PlanItem) (s t : FsState) → TransfersByMode mode items s t → (path : Path) → (IsOneOf (targets items) path → ⊥) → get t.names path ≡ get s.names path
transferred_names Copy items s t copies path other = copies.only.names path other
transferred_names Link items s t links path other = links.only.only.names path other

pub transferred_bytes : (mode : Mode) (items : List PlanItem) (s t : FsState) → TransfersByMode mode items s t → (inode : ℕ) → is_some (get s.bytes inode) ≡ true → get t.bytes inode ≡ get s.bytes inode
transferred_bytes Copy items s t copies inode known = copies.only.bytes inode known
transferred_bytes Link items s t links inode known = links.only.only.bytes inode known

-- the item that has a new name
pub item_of_target : (items : List PlanItem) (path : Path) → IsOneOf (targets items) path → (item : PlanItem) × In items item × (path ≡ item.to)
item_of_target [] path one = absurd one
item_of_target (item ∷ items) path (inl is) = (item, inl refl, is)
item_of_target (item ∷ items) path (inr one) = let (found, among, is) = item_of_target items path one in (found, inr among, is)

-- so each new name is that of a carried file
pub target_carried : (job : Job) (catalog : Cluster) (s : FsState) (items : List PlanItem) → IsPlan job catalog s items → (path : Path) → IsOneOf (targets items) path → (from : Path) × IsCarriedFile job catalog s from path
target_carried job catalog s items plan path one =
    let (item, among, is) = item_of_target items path one in
    (item.from, subst (IsCarriedFile job catalog s item.from) (sym is) (plan.each item (from_in items item among)))

-- and each item's new name is one
pub target_of_item : (items : List PlanItem) (item : PlanItem) → In items item → IsOneOf (targets items) item.to
target_of_item [] item found = absurd found
target_of_item (first ∷ items) item (inl is) = inl (ap (λ (i : PlanItem). i.to) is)
target_of_item (first ∷ items) item (inr found) = inr (target_of_item items item found)

-- ---- the mark

pub marked_file : (mark : Path) (s x : FsState) → SameButMark mark s x → (path : Path) → path ≢ mark → file_bytes x path ≡ file_bytes s path
marked_file mark s x same path other = same_file s x path (same.names path other) (same.bytes path)
