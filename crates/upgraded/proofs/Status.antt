-- The status files of the old cluster are in the new one, in the end.
use Rattle.std.proofs.Common.{◌≡◌, ◌≢◌, ℕ, ◌==◌, true, false, List, [], ◌∷◌, ◌++◌, codes, Option, Some, None, refl, sym, ◌∙◌, ap, subst}
use Rattle.std.specs.Prelude.{is_some, slice_index}
use Rattle.std.specs.FinMap.{get}
use Rattle.fs_model.specs.declared.node.Node.{Node}
use Rattle.fs_model.specs.declared.node.Node.TheVariants.{Dir, File, Sym}
use Rattle.fs_model.specs.Names.{Path}
use Rattle.fs_model.specs.State.{FsState}
use Rattle.fs_tools.specs.Children.{child_of}
use Rattle.crash_safety.specs.Marked.{SameButMark}
use Rattle.crash_safety.specs.Synced.{IsOneOf}
use Rattle.control_file.specs.declared.job.Job.{Job}
use Rattle.control_file.specs.declared.releases.Release.TheVariants.{V16}
use Rattle.catalog.specs.Cluster.{Cluster}
use Rattle.catalog_server.specs.Profile.{profile_path}
use Rattle.status_transfer.specs.Carried.{IsInOne, CarriesNode, CarriesDir}
use Rattle.status_transfer.specs.Status.{commit_log_dir, offsets_dir, members_dir, status_dirs, CarriesStatus}
use Rattle.status_transfer.proofs.Staying.{status_since, status_stays}
use Rattle.transfer_plan.specs.declared.plan.PlanItem.{PlanItem}
use Rattle.transfer_plan.specs.Carriable.{targets}
use Rattle.upgraded.specs.Places.{mark_at}
use Rattle.upgraded.specs.Upgraded.{ReadsCatalog}
use Rattle.upgraded.specs.Upgradable.{IsUpgradable}
use Rattle.upgraded.specs.Upgrades.{Upgrades}
use Rattle.upgraded.proofs.Words.{last, last_below, same_push}
use Rattle.upgraded.proofs.Targets.{not_in_status}
use Rattle.upgraded.proofs.Unlisted.{listed_is_new}
use Rattle.upgraded.proofs.Steps.{counted_names}
use Rattle.upgraded.proofs.Chain.{status_below, apart, untargeted, no_old_control, no_disabled, names_restored, names_disabled, names_transferred, control_known, kept_restored, kept_since_status}

-- a directory that is carried stays so, but for the mark
module _ (mark : Path) (s m x : FsState) (same : SameButMark mark m x) (from to : Path) (other : (name : List ℕ) → child_of to name ≢ mark) where
  pub dir_marked : CarriesDir s from to m → CarriesDir s from to x
  dir_marked carried name =
      subst (CarriesNode s x (get s.names (child_of from name))) (sym (same.names (child_of to name) (other name)))
      (later (get s.names (child_of from name)) (get m.names (child_of to name)) refl (carried name))
    where
      later : (node found : Option Node) → get m.names (child_of to name) ≡ found → CarriesNode s m node found → CarriesNode s x node found
      later None found e was = was
      later (Some Dir) found e was = absurd was
      later (Some (File inode)) found e (made, is, unused, has) = (made, is, unused, same.bytes (child_of to name) made (e ∙ is) ∙ has)
      later (Some (Sym target)) found e was = absurd was

-- the mark is in no directory of status files
no_mark : (root top : Path) (word : List ℕ) (rest : Path) (at byte : ℕ) → (slice_index (last (word ∷ rest)) at == byte) ≡ true → (slice_index (codes "pg_profile") at == byte) ≡ false
    → (name : List ℕ) → child_of (top ++ word ∷ rest) name ≢ mark_at root
no_mark root top word rest at byte is isnt name same =
    let dirs = (same_push (top ++ word ∷ rest) (profile_path root) name (codes "done") same).0 in
    let ends : last (word ∷ rest) ≡ codes "pg_profile" = sym (last_below top word rest) ∙ ap last dirs ∙ last_below root (codes "pg_profile") [] in
    let moved = ap (λ (text : List ℕ). slice_index text at == byte) ends in
    cc (is, isnt, moved)

pub status_marked : (s m x : FsState) (old new : Path) → SameButMark (mark_at new) m x → CarriesStatus s old new m → CarriesStatus s old new x
status_marked s m x old new same carried = record {
  commit_log = dir_marked (mark_at new) s m x same (commit_log_dir old) (commit_log_dir new) (no_mark new new (codes "pg_xact") [] 3 120 refl refl) carried.commit_log;
  multixacts = record {
    offsets = dir_marked (mark_at new) s m x same (offsets_dir old) (offsets_dir new) (no_mark new new (codes "pg_multixact") (codes "offsets" ∷ []) 0 111 refl refl) carried.multixacts.offsets;
    members = dir_marked (mark_at new) s m x same (members_dir old) (members_dir new) (no_mark new new (codes "pg_multixact") (codes "members" ∷ []) 0 109 refl refl) carried.multixacts.members;
  };
}

module _ (read : ReadsCatalog) (job : Job) (catalog : Cluster) (items : List PlanItem) (s0 s1 s2 s3 s4 s5 x : FsState) (can : IsUpgradable read job catalog s0) (went : Upgrades read job catalog items s0 s1 s2 s3 s4 s5 x) where
  status_since_start : CarriesStatus s0 job.old job.new s2
  status_since_start =
      status_since job.old job.new s0 s1 s2 can.well_formed
      (λ path within. names_restored read job catalog items s0 s1 s2 s3 s4 s5 x can went path
      (λ what listed. apart read job catalog items s0 s1 s2 s3 s4 s5 x can went path (status_below job.old path within _) (listed_is_new job catalog can.valid s0 can.locations path what listed)))
      (kept_restored read job catalog items s0 s1 s2 s3 s4 s5 x can went) went.status.carried

  pub status_untargeted : (path : Path) → IsInOne (status_dirs job.new) path → IsOneOf (targets items) path → ⊥
  status_untargeted path within =
      untargeted read job catalog items s0 s1 s2 s3 s4 s5 x can went path
      (λ _ from file. not_in_status job.new V16 catalog file.relation file.fork file.segment job.new (subst (IsInOne (status_dirs job.new)) file.to_is within))

  names_stay : (path : Path) → IsInOne (status_dirs job.new) path → get s5.names path ≡ get s2.names path
  names_stay path within =
      names_transferred read job catalog items s0 s1 s2 s3 s4 s5 x can went path (status_untargeted path within)
      ∙ names_disabled read job catalog items s0 s1 s2 s3 s4 s5 x can went path (no_old_control read job catalog items s0 s1 s2 s3 s4 s5 x can went path (status_below job.new path within _)) (no_disabled read job catalog items s0 s1 s2 s3 s4 s5 x can went path (status_below job.new path within _))
      ∙ ap (λ names. get names path) (counted_names s2 _ _ s3 went.counters)

  other_inode : (inode : ℕ) → get s0.bytes inode ≡ None → inode ≢ went.counters.inode
  other_inode inode unused same =
      let known = control_known read job catalog items s0 s1 s2 s3 s4 s5 x can went in
      let none : is_some (get s0.bytes went.counters.inode) ≡ false = ap is_some (ap (get s0.bytes) (sym same) ∙ unused) in
      cc (known, none)

  pub status_carried : CarriesStatus s0 job.old job.new x
  status_carried =
      status_marked s0 s5 x job.old job.new went.mark.rest
      (status_stays job.old job.new s0 s2 s5 names_stay (λ inode unused known. kept_since_status read job catalog items s0 s1 s2 s3 s4 s5 x can went inode known (other_inode inode unused)) status_since_start)
