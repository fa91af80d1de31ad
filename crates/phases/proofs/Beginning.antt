-- The same files of relations are carried from the state at the beginning as from the one that the plan is made in.
use Rattle.std.proofs.Common.{◌≡◌, ◌≢◌, ◌∙◌, ◌++◌, ◌∷◌, [], ℕ, List, Some, inl, refl, sym, ap, append_assoc}
use Rattle.std.specs.Prelude.{codes}
use Rattle.std.specs.List.{Contains}
use Rattle.std.specs.FinMap.{get}
use Rattle.fs_model.specs.declared.node.Node.TheVariants.{File}
use Rattle.fs_model.specs.Names.{Path}
use Rattle.fs_model.specs.State.{FsState}
use Rattle.fs_model.specs.Reading.{file_bytes}
use Rattle.control_file.specs.declared.job.Job.{Job}
use Rattle.control_file.specs.declared.releases.Release.TheVariants.{V15}
use Rattle.catalog.specs.Cluster.{Cluster}
use Rattle.crash_safety.specs.Frame.{IsInside}
use Rattle.crash_safety.specs.Places.{control_at}
use Rattle.relation_files.specs.declared.relation.Relation.{Relation}
use Rattle.relation_files.specs.declared.relation.Fork.{Fork}
use Rattle.relation_files.specs.Places.{segment_path, fork_files}
use Rattle.relation_files.specs.Relations.{relations_of}
use Rattle.relation_files.specs.Carried.{carried}
use Rattle.status_transfer.proofs.Carrying.{file_known}
use Rattle.transfer_plan.specs.declared.plan.PlanItem.{PlanItem}
use Rattle.upgraded.specs.Places.{old_tops, old_site}
use Rattle.upgraded.specs.Upgraded.{ReadsCatalog}
use Rattle.upgraded.specs.Upgradable.{IsUpgradable}
use Rattle.upgraded.specs.Upgrades.{Upgrades}
use Rattle.upgraded.proofs.Stores.{stored}
use Rattle.upgraded.proofs.Targets.{is_inside, is_no_word}
use Rattle.upgraded.proofs.Steps.{same_file, counted_bytes}
use Rattle.upgraded.proofs.Chain.{IsSpared, old_spared, names_restored, names_counted, control_then, kept_until_status}

module _ (read : ReadsCatalog) (job : Job) (catalog : Cluster) (items : List PlanItem) (s0 s1 s2 s3 s4 s5 x : FsState) (can : IsUpgradable read job catalog s0) (went : Upgrades read job catalog items s0 s1 s2 s3 s4 s5 x) (r : Relation) (listed : Contains (relations_of catalog) r) (f : Fork) where
  abbrev old_path : ℕ → Path
  old_path n = segment_path (old_site job catalog) r f n

  is_old : (n : ℕ) → IsInside (old_tops job s0) (old_path n)
  is_old n = is_inside job.old V15 catalog r f n s0 job can.locations (stored catalog can.valid r listed).store

  is_spared : (n : ℕ) → IsSpared job catalog items (old_path n)
  is_spared n =
      old_spared read job catalog items s0 s1 s2 s3 s4 s5 x can went (old_path n) (is_old n)
      (λ same. is_no_word job.old V15 catalog r f n (job.old ++ codes "global" ∷ []) (codes "pg_control") refl (same ∙ sym (append_assoc job.old (codes "global" ∷ []) (codes "pg_control" ∷ []))))
      (λ same. is_no_word job.old V15 catalog r f n (job.old ++ codes "global" ∷ []) (codes "pg_control.old") refl (same ∙ sym (append_assoc job.old (codes "global" ∷ []) (codes "pg_control.old" ∷ []))))

  -- none of them is the new control file, which is written to
  is_other : (n inode : ℕ) → get s0.names (old_path n) ≡ Some (File inode) → inode ≢ went.counters.inode
  is_other n inode named same =
      can.unshared (old_path n) (control_at job.new) inode (is_old n) (inl (codes "global" ∷ codes "pg_control" ∷ [], refl)) named
      (control_then read job catalog items s0 s1 s2 s3 s4 s5 x can went ∙ ap (λ i. Some (File i)) (sym same))

  same_old : (n : ℕ) → file_bytes s3 (old_path n) ≡ file_bytes s0 (old_path n)
  same_old n =
      let spared = is_spared n in
      same_file s0 s3 (old_path n) (names_counted read job catalog items s0 s1 s2 s3 s4 s5 x can went (old_path n) spared.no_status ∙ names_restored read job catalog items s0 s1 s2 s3 s4 s5 x can went (old_path n) spared.unlisted)
      (λ inode named. counted_bytes s2 _ _ s3 went.counters inode (is_other n inode named) ∙ kept_until_status read job catalog items s0 s1 s2 s3 s4 s5 x can went inode (file_known s0 can.well_formed (old_path n) inode named))

  pub carried_from : (n : ℕ) → carried f (fork_files s3 (old_site job catalog) r f) n ≡ carried f (fork_files s0 (old_site job catalog) r f) n
  carried_from n = ap (λ files. carried f files n) (λ i m. same_old m i)
