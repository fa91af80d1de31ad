-- What the replay of the schema and the status files leave for the steps behind them.
use Rattle.std.proofs.Common.{◌≡◌, ◌≢◌, ◌∙◌, ◌++◌, ◌∷◌, [], ℕ, true, List, Option, Some, None, inl, inr, refl, sym, ap, subst, append_assoc}
use Rattle.std.specs.Prelude.{codes, is_some}
use Rattle.std.specs.Option.{option_map, unwrap_or}
use Rattle.std.specs.FinMap.{get}
use Rattle.fs_model.specs.declared.node.Node.{Node}
use Rattle.fs_model.specs.declared.node.Node.TheVariants.{Dir, File, Sym}
use Rattle.fs_model.specs.Names.{Path, IsUnder}
use Rattle.fs_model.specs.State.{Names, FsState}
use Rattle.fs_model.specs.Effects.{bytes_of}
use Rattle.fs_model.specs.Reading.{file_bytes, inode_of_node}
use Rattle.fs_model.specs.WellFormed.{WellFormed}
use Rattle.control_file.specs.declared.job.Job.{Job}
use Rattle.control_file.specs.declared.releases.Release.TheVariants.{V16}
use Rattle.catalog.specs.Cluster.{Cluster}
use Rattle.crash_safety.specs.Frame.{IsInside, IsOutside}
use Rattle.crash_safety.specs.Places.{control_at}
use Rattle.new_names.specs.Frame.{MakesOnly}
use Rattle.catalog_server.specs.ReplayNames.{listed_names}
use Rattle.fs_tools.specs.Children.{child_of}
use Rattle.status_transfer.specs.Carried.{IsFileOrNone, HoldsFiles, ChangesOnlyIn}
use Rattle.status_transfer.specs.Counted.{IsHeadOf}
use Rattle.status_transfer.specs.Status.{status_dirs, commit_log_dir, offsets_dir, members_dir, HoldsStatus}
use Rattle.status_transfer.proofs.Carrying.{file_known}
use Rattle.status_transfer.proofs.Framing.{in_inside}
use Rattle.status_transfer.proofs.Staying.{file_stays}
use Rattle.status_transfer.proofs.StatusDirs.{control_outside}
use Rattle.phase_facts.specs.Places.{upgrade_in, holders_in}
use Rattle.phase_facts.specs.CanUpgrade.{CanBegin, CanUpgrade}
use Rattle.phase_facts.proofs.Tops.{grounds, ground_outside, old_outside}
use Rattle.phase_facts.proofs.Replaying.{listed_inside}

-- ---- a file, and directories of files

-- a file whose name stays, and whose inode keeps its bytes
same_file : (s t : FsState) (path : Path) → WellFormed s → get t.names path ≡ get s.names path → ((inode : ℕ) → is_some (get s.bytes inode) ≡ true → get t.bytes inode ≡ get s.bytes inode) → file_bytes t path ≡ file_bytes s path
same_file s t path well same kept = ap (λ node. option_map (bytes_of t.bytes) (inode_of_node node)) same ∙ by_node (get s.names path) refl
  where
    by_node : (node : Option Node) → get s.names path ≡ node → option_map (bytes_of t.bytes) (inode_of_node node) ≡ option_map (bytes_of s.bytes) (inode_of_node node)
    by_node None e = refl
    by_node (Some Dir) e = refl
    by_node (Some (File inode)) e = ap (λ bytes. Some (unwrap_or bytes [])) (kept inode (file_known s well path inode e))
    by_node (Some (Sym target)) e = refl

head_same : (s t : FsState) (at : Path) (head : List ℕ) → file_bytes t at ≡ file_bytes s at → IsHeadOf s at head → IsHeadOf t at head
head_same s t at head same (bytes, is, front) = (bytes, same ∙ is, front)

files_same : (m n : Names) (dir : Path) → ((path : Path) → IsUnder dir path → get n path ≡ get m path) → HoldsFiles m dir → HoldsFiles n dir
files_same m n dir same holds = record {
  stands = same dir ([], append-nil dir) ∙ holds.stands;
  files = λ name. subst IsFileOrNone (sym (same (child_of dir name) (name ∷ [], refl))) (holds.files name);
}
  where
    append-nil : (path : Path) → path ≡ path ++ []
    append-nil [] = refl
    append-nil (name ∷ path) = ap (λ rest. name ∷ rest) (append-nil path)

status_same : (m n : Names) (root : Path) → ((path : Path) → IsInside (status_dirs root) path → get n path ≡ get m path) → HoldsStatus m root → HoldsStatus n root
status_same m n root same holds = record {
  commit_log = files_same m n (commit_log_dir root) (λ path under. same path (inl under)) holds.commit_log;
  multixacts = record {
    offsets = files_same m n (offsets_dir root) (λ path under. same path (inr (inl under))) holds.multixacts.offsets;
    members = files_same m n (members_dir root) (λ path under. same path (inr (inr (inl under)))) holds.multixacts.members;
  };
}

-- ---- the replay

module _ (job : Job) (catalog before : Cluster) (head : List ℕ) (s t : FsState) (can : CanUpgrade job catalog head s) (only : MakesOnly (listed_names job.new V16 before catalog) s t) where
  -- all that isn't at the places of schema and relations is as it was
  pub replay_names : (path : Path) → IsOutside (grounds job.new (holders_in job s)) path → get t.names path ≡ get s.names path
  replay_names path outside = elim (only.names path) [ inl same ↦ same | inr (what, is_listed, _) ↦ absurd (outside (listed_inside job.new (holders_in job s) before catalog can.recorded path what is_listed)) ]

  pub old_names : (path : Path) → IsInside (upgrade_in job s).old_tops path → get t.names path ≡ get s.names path
  old_names path old = replay_names path (old_outside job s can.begins path old)

  -- a path below the root by this name
  below_status : (name : List ℕ) (more rest path : Path) (root : Path) → path ≡ (root ++ name ∷ more) ++ rest → path ≡ root ++ name ∷ (more ++ rest)
  below_status name more rest path root is = is ∙ append_assoc root (name ∷ more) rest

  names_at : (name : List ℕ) (rest path : Path) → path ≡ job.new ++ name ∷ rest → name ≢ codes "pg_tblspc" → name ≢ codes "pg_profile" → name ≢ codes "base" → get t.names path ≡ get s.names path
  names_at name rest path is a b c = replay_names path (subst (IsOutside (grounds job.new (holders_in job s))) (sym is) (ground_outside job s can.begins name rest a b c))

  new_status_names : (path : Path) → IsInside (status_dirs job.new) path → get t.names path ≡ get s.names path
  new_status_names path (inl (rest, is)) = names_at (codes "pg_xact") rest path (below_status (codes "pg_xact") [] rest path job.new is) (λ same. cc same) (λ same. cc same) (λ same. cc same)
  new_status_names path (inr (inl (rest, is))) = names_at (codes "pg_multixact") (codes "offsets" ∷ rest) path (below_status (codes "pg_multixact") (codes "offsets" ∷ []) rest path job.new is) (λ same. cc same) (λ same. cc same) (λ same. cc same)
  new_status_names path (inr (inr (inl (rest, is)))) = names_at (codes "pg_multixact") (codes "members" ∷ rest) path (below_status (codes "pg_multixact") (codes "members" ∷ []) rest path job.new is) (λ same. cc same) (λ same. cc same) (λ same. cc same)
  new_status_names path (inr (inr (inr none))) = absurd none

  old_status_names : (path : Path) → IsInside (status_dirs job.old) path → get t.names path ≡ get s.names path
  old_status_names path (inl (rest, is)) = old_names path (inl (codes "pg_xact" ∷ rest, below_status (codes "pg_xact") [] rest path job.old is))
  old_status_names path (inr (inl (rest, is))) = old_names path (inl (codes "pg_multixact" ∷ codes "offsets" ∷ rest, below_status (codes "pg_multixact") (codes "offsets" ∷ []) rest path job.old is))
  old_status_names path (inr (inr (inl (rest, is)))) = old_names path (inl (codes "pg_multixact" ∷ codes "members" ∷ rest, below_status (codes "pg_multixact") (codes "members" ∷ []) rest path job.old is))
  old_status_names path (inr (inr (inr none))) = absurd none

  pub replay_old_status : HoldsStatus t.names job.old
  replay_old_status = status_same s.names t.names job.old old_status_names can.old_status

  pub replay_new_status : HoldsStatus t.names job.new
  replay_new_status = status_same s.names t.names job.new new_status_names can.new_status

  pub replay_head : IsHeadOf t (control_at job.new) head
  replay_head =
      head_same s t (control_at job.new) head
      (same_file s t (control_at job.new) can.begins.well_formed
      (replay_names (control_at job.new) (ground_outside job s can.begins (codes "global") (codes "pg_control" ∷ []) (λ same. cc same) (λ same. cc same) (λ same. cc same))) only.bytes) can.new_head

-- ---- the status files

pub status_head : (s t : FsState) (root : Path) (head : List ℕ) → WellFormed s → ChangesOnlyIn (status_dirs root) s t → IsHeadOf s (control_at root) head → IsHeadOf t (control_at root) head
status_head s t root head well only is_head =
    head_same s t (control_at root) head (file_stays (status_dirs root) s t well only (control_at root) (λ within. control_outside root (in_inside (status_dirs root) (control_at root) within))) is_head

pub roots_apart : (job : Job) (s : FsState) → CanBegin job s → job.old ≢ job.new
roots_apart job s begins same = begins.apart.0.0.0 ([], sym same ∙ append-nil job.old)
  where
    append-nil : (path : Path) → path ≡ path ++ []
    append-nil [] = refl
    append-nil (name ∷ path) = ap (λ rest. name ∷ rest) (append-nil path)
