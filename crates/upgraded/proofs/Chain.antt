-- What stays over the steps of an upgrade, one after the other.
use Rattle.std.proofs.Common.{◌≡◌, ◌≢◌, inl, inr, ℕ, true, List, [], ◌∷◌, ◌++◌, codes, Some, sym, ◌∙◌, ap, subst, append_assoc}
use Rattle.std.specs.Prelude.{is_some}
use Rattle.std.specs.FinMap.{get}
use Rattle.fs_model.specs.declared.node.Node.TheVariants.{File}
use Rattle.fs_model.specs.Names.{Path}
use Rattle.fs_model.specs.State.{FsState}
use Rattle.fs_model.specs.Reading.{file_bytes}
use Rattle.crash_safety.specs.Frame.{IsInside}
use Rattle.crash_safety.specs.Places.{control_at, disabled_at}
use Rattle.crash_safety.specs.Synced.{IsOneOf}
use Rattle.control_file.specs.declared.job.Job.{Job}
use Rattle.control_file.specs.declared.releases.Release.TheVariants.{V16}
use Rattle.catalog.specs.Cluster.{Cluster}
use Rattle.relation_files.specs.declared.relation.Relation.{Relation}
use Rattle.relation_files.specs.Places.{segment_path}
use Rattle.new_names.specs.declared.names.NewNode.{NewNode}
use Rattle.new_names.specs.Frame.{IsListed}
use Rattle.status_transfer.specs.Carried.{IsInOne}
use Rattle.status_transfer.specs.Status.{status_dirs}
use Rattle.status_transfer.proofs.Carrying.{file_known}
use Rattle.status_transfer.proofs.Framing.{in_inside}
use Rattle.status_transfer.proofs.StatusDirs.{control_outside}
use Rattle.transfer_plan.specs.declared.plan.PlanItem.{PlanItem}
use Rattle.transfer_plan.specs.Carriable.{targets}
use Rattle.upgraded.specs.Places.{old_tops, new_tops, new_site, replay_names, mark_at}
use Rattle.upgraded.specs.CarriedFiles.{IsCarriedFile}
use Rattle.upgraded.specs.Upgraded.{ReadsCatalog}
use Rattle.upgraded.specs.Upgradable.{IsUpgradable}
use Rattle.upgraded.specs.Upgrades.{Upgrades}
use Rattle.upgraded.proofs.Stores.{stored}
use Rattle.upgraded.proofs.Targets.{is_inside}
use Rattle.upgraded.proofs.Steps.{same_file, unlisted_stays, counted_names, counted_bytes, disabled_names, disabled_bytes, transferred_names, transferred_bytes, target_carried}
use Rattle.upgraded.proofs.Unlisted.{control_unlisted, listed_is_new}

-- the path is none that an upgrade makes or removes
pub record IsSpared (job : Job) (catalog : Cluster) (items : List PlanItem) (path : Path) : Type 0 where
  pub unlisted : (what : NewNode) → IsListed (replay_names job catalog) path what → ⊥
  pub no_status : IsInOne (status_dirs job.new) path → ⊥
  pub no_control : path ≢ control_at job.old
  pub no_disabled : path ≢ disabled_at job.old
  pub no_target : IsOneOf (targets items) path → ⊥
  pub no_mark : path ≢ mark_at job.new

-- a directory of status files is below its root
pub status_below : (root path : Path) → IsInOne (status_dirs root) path → (tops : List Path) → IsInside (root ∷ tops) path
status_below root path (inl (name, is)) tops = inl (codes "pg_xact" ∷ name ∷ [], is ∙ append_assoc root (codes "pg_xact" ∷ []) (name ∷ []))
status_below root path (inr (inl (name, is))) tops = inl (codes "pg_multixact" ∷ codes "offsets" ∷ name ∷ [], is ∙ append_assoc root (codes "pg_multixact" ∷ codes "offsets" ∷ []) (name ∷ []))
status_below root path (inr (inr (inl (name, is)))) tops = inl (codes "pg_multixact" ∷ codes "members" ∷ name ∷ [], is ∙ append_assoc root (codes "pg_multixact" ∷ codes "members" ∷ []) (name ∷ []))
status_below root path (inr (inr (inr none))) tops = absurd none

module _ (read : ReadsCatalog) (job : Job) (catalog : Cluster) (items : List PlanItem) (s0 s1 s2 s3 s4 s5 x : FsState) (can : IsUpgradable read job catalog s0) (went : Upgrades read job catalog items s0 s1 s2 s3 s4 s5 x) where
  -- ---- places

  -- what is at a new place is at no old one
  pub apart : (path : Path) → IsInside (old_tops job s0) path → IsInside (new_tops job s0) path → ⊥
  apart path old new = can.apart path old new

  pub no_old_control : (path : Path) → IsInside (new_tops job s0) path → path ≢ control_at job.old
  no_old_control path new same = apart path (inl (codes "global" ∷ codes "pg_control" ∷ [], same)) new

  pub no_disabled : (path : Path) → IsInside (new_tops job s0) path → path ≢ disabled_at job.old
  no_disabled path new same = apart path (inl (codes "global" ∷ codes "pg_control.old" ∷ [], same)) new

  -- the place of the segment that has a new name of a carried file
  pub target_is_new : (path : Path) → IsOneOf (targets items) path → IsInside (new_tops job s0) path
  target_is_new path one =
      let (from, file) = target_carried job catalog s3 items went.plan path one in
      subst (IsInside (new_tops job s0)) (sym file.to_is) (is_inside job.new V16 catalog file.relation file.fork file.segment s0 job can.locations (stored catalog can.valid file.relation file.listed).store)

  -- a path that is none of a segment's is no new name of the plan
  pub untargeted : (path : Path) → ((relation : Relation) → (from : Path) → IsCarriedFile job catalog s3 from path → ⊥) → IsOneOf (targets items) path → ⊥
  untargeted path none one = let (from, file) = target_carried job catalog s3 items went.plan path one in none file.relation from file

  pub word_untargeted : (dir : Path) (word : List ℕ) (path : Path) → path ≡ dir ++ word ∷ [] → ((relation : Relation) (from : Path) (file : IsCarriedFile job catalog s3 from path) → segment_path (new_site job catalog) file.relation file.fork file.segment ≢ dir ++ word ∷ []) → IsOneOf (targets items) path → ⊥
  word_untargeted dir word path is none = untargeted path (λ relation from file. none relation from file (sym file.to_is ∙ is))

  -- ---- an old place

  pub old_spared : (path : Path) → IsInside (old_tops job s0) path → path ≢ control_at job.old → path ≢ disabled_at job.old → IsSpared job catalog items path
  old_spared path old other other_too = record {
    unlisted = λ what listed. apart path old (listed_is_new job catalog can.valid s0 can.locations path what listed);
    no_status = λ within. apart path old (status_below job.new path within _);
    no_control = other;
    no_disabled = other_too;
    no_target = λ one. apart path old (target_is_new path one);
    no_mark = λ same. apart path old (inl (codes "pg_profile" ∷ codes "done" ∷ [], same ∙ append_assoc job.new (codes "pg_profile" ∷ []) (codes "done" ∷ [])));
  }

  -- ---- names

  pub names_restored : (path : Path) → ((what : NewNode) → IsListed (replay_names job catalog) path what → ⊥) → get s1.names path ≡ get s0.names path
  names_restored path unlisted = unlisted_stays (replay_names job catalog) s0 s1 went.schema.only path unlisted

  pub names_counted : (path : Path) → (IsInOne (status_dirs job.new) path → ⊥) → get s3.names path ≡ get s1.names path
  names_counted path outside = ap (λ names. get names path) (counted_names s2 (control_at job.new) _ s3 went.counters) ∙ went.status.only.names path outside

  pub names_disabled : (path : Path) → path ≢ control_at job.old → path ≢ disabled_at job.old → get s4.names path ≡ get s3.names path
  names_disabled path other other_too = disabled_names job.mode job s3 s4 went.disables path other other_too

  pub names_transferred : (path : Path) → (IsOneOf (targets items) path → ⊥) → get s5.names path ≡ get s4.names path
  names_transferred path other = transferred_names job.mode items s4 s5 went.files path other

  -- a spared name before the transfer, after it, and in the end
  pub spared_before : (path : Path) → IsSpared job catalog items path → get s4.names path ≡ get s0.names path
  spared_before path spared = names_disabled path spared.no_control spared.no_disabled ∙ names_counted path spared.no_status ∙ names_restored path spared.unlisted

  pub spared_behind : (path : Path) → IsSpared job catalog items path → get s5.names path ≡ get s0.names path
  spared_behind path spared = names_transferred path spared.no_target ∙ spared_before path spared

  pub spared_name : (path : Path) → IsSpared job catalog items path → get x.names path ≡ get s0.names path
  spared_name path spared = went.mark.rest.names path spared.no_mark ∙ spared_behind path spared

  -- ---- the control file

  control_no_status : IsInOne (status_dirs job.new) (control_at job.new) → ⊥
  control_no_status within = control_outside job.new (in_inside (status_dirs job.new) (control_at job.new) within)

  pub control_then : get s0.names (control_at job.new) ≡ Some (File went.counters.inode)
  control_then =
      sym (names_restored (control_at job.new) (control_unlisted job catalog can.valid))
      ∙ sym (went.status.only.names (control_at job.new) control_no_status) ∙ went.counters.named

  pub control_known : is_some (get s0.bytes went.counters.inode) ≡ true
  control_known = file_known s0 can.well_formed (control_at job.new) went.counters.inode control_then

  -- ---- inodes

  pub kept_restored : (inode : ℕ) → is_some (get s0.bytes inode) ≡ true → get s1.bytes inode ≡ get s0.bytes inode
  kept_restored inode known = went.schema.only.bytes inode known

  kept_carried : (inode : ℕ) → is_some (get s1.bytes inode) ≡ true → get s2.bytes inode ≡ get s1.bytes inode
  kept_carried inode known = went.status.only.bytes inode known

  -- all that was there when the status files were, but the control file
  pub kept_since_status : (inode : ℕ) → is_some (get s2.bytes inode) ≡ true → inode ≢ went.counters.inode → get s5.bytes inode ≡ get s2.bytes inode
  kept_since_status inode known other =
      let counted = counted_bytes s2 (control_at job.new) _ s3 went.counters inode other in
      let disabled : get s4.bytes inode ≡ get s2.bytes inode = ap (λ bytes. get bytes inode) (disabled_bytes job.mode job s3 s4 went.disables) ∙ counted in
      transferred_bytes job.mode items s4 s5 went.files inode (ap is_some disabled ∙ known) ∙ disabled

  pub kept_until_status : (inode : ℕ) → is_some (get s0.bytes inode) ≡ true → get s2.bytes inode ≡ get s0.bytes inode
  kept_until_status inode known = let restored = kept_restored inode known in kept_carried inode (ap is_some restored ∙ known) ∙ restored

  pub kept_before : (inode : ℕ) → is_some (get s0.bytes inode) ≡ true → inode ≢ went.counters.inode → get s4.bytes inode ≡ get s0.bytes inode
  kept_before inode known other =
      ap (λ bytes. get bytes inode) (disabled_bytes job.mode job s3 s4 went.disables) ∙ counted_bytes s2 (control_at job.new) _ s3 went.counters inode other ∙ kept_until_status inode known

  pub kept : (inode : ℕ) → is_some (get s0.bytes inode) ≡ true → inode ≢ went.counters.inode → get s5.bytes inode ≡ get s0.bytes inode
  kept inode known other = let until = kept_until_status inode known in kept_since_status inode (ap is_some until ∙ known) other ∙ until

  -- ---- files

  -- a spared file that isn't the control file stays with its bytes
  pub spared_file : (path : Path) → IsSpared job catalog items path → get s0.names path ≢ Some (File went.counters.inode) → file_bytes x path ≡ file_bytes s0 path
  spared_file path spared other =
      same_file s5 x path (went.mark.rest.names path spared.no_mark) (went.mark.rest.bytes path)
      ∙ same_file s0 s5 path (spared_behind path spared)
      (λ inode named. kept inode (file_known s0 can.well_formed path inode named) (λ same. other (named ∙ ap (λ i. Some (File i)) same)))
