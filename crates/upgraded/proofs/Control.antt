-- The control file has the old cluster's counters in the end, and the version is as it was.
use Rattle.std.proofs.Common.{◌≡◌, ◌≢◌, inl, ℕ, ◌==◌, true, false, List, [], ◌∷◌, ◌++◌, codes, Some, refl, sym, ◌∙◌, ap, append_assoc, arith}
use Rattle.std.specs.Prelude.{is_some, slice_index}
use Rattle.std.specs.Option.{option_map, unwrap_or}
use Rattle.std.specs.FinMap.{get}
use Rattle.fs_model.specs.declared.node.Node.TheVariants.{File}
use Rattle.fs_model.specs.Names.{Path}
use Rattle.fs_model.specs.State.{FsState}
use Rattle.fs_model.specs.Effects.{bytes_of}
use Rattle.fs_model.specs.Reading.{file_bytes, inode_of_node}
use Rattle.crash_safety.specs.Frame.{IsInside}
use Rattle.crash_safety.specs.Places.{control_at}
use Rattle.crash_safety.specs.Synced.{IsOneOf}
use Rattle.control_file.specs.declared.job.Job.{Job}
use Rattle.control_file.specs.declared.releases.Release.TheVariants.{V16}
use Rattle.control_file.specs.Version.{version_text_of}
use Rattle.catalog.specs.Cluster.{Cluster}
use Rattle.catalog_server.specs.Profile.{profile_path}
use Rattle.status_transfer.specs.Status.{status_dirs}
use Rattle.status_transfer.proofs.Framing.{in_inside}
use Rattle.status_transfer.proofs.StatusDirs.{dirs_outside}
use Rattle.transfer_plan.specs.declared.plan.PlanItem.{PlanItem}
use Rattle.transfer_plan.specs.Carriable.{targets}
use Rattle.upgraded.specs.Places.{new_tops, mark_at, version_at}
use Rattle.upgraded.specs.Upgraded.{ReadsCatalog, HasOldCounters}
use Rattle.upgraded.specs.Upgradable.{IsUpgradable}
use Rattle.upgraded.specs.Upgrades.{Upgrades}
use Rattle.upgraded.proofs.Words.{same_push}
use Rattle.upgraded.proofs.Targets.{is_no_word}
use Rattle.upgraded.proofs.Unlisted.{version_unlisted}
use Rattle.upgraded.proofs.Steps.{counted_names, counted_here, disabled_bytes, transferred_bytes, marked_file}
use Rattle.upgraded.proofs.Chain.{IsSpared, word_untargeted, no_old_control, no_disabled, names_disabled, names_transferred, control_then, control_known, kept_until_status, spared_file}

pub named_bytes : (s : FsState) (path : Path) (inode : ℕ) → get s.names path ≡ Some (File inode) → file_bytes s path ≡ Some (bytes_of s.bytes inode)
named_bytes s path inode named = ap (λ node. option_map (bytes_of s.bytes) (inode_of_node node)) named

module _ (read : ReadsCatalog) (job : Job) (catalog : Cluster) (items : List PlanItem) (s0 s1 s2 s3 s4 s5 x : FsState) (can : IsUpgradable read job catalog s0) (went : Upgrades read job catalog items s0 s1 s2 s3 s4 s5 x) where
  control_is : control_at job.new ≡ (job.new ++ codes "global" ∷ []) ++ codes "pg_control" ∷ []
  control_is = sym (append_assoc job.new (codes "global" ∷ []) (codes "pg_control" ∷ []))

  pub control_untargeted : IsOneOf (targets items) (control_at job.new) → ⊥
  control_untargeted =
      word_untargeted read job catalog items s0 s1 s2 s3 s4 s5 x can went (job.new ++ codes "global" ∷ []) (codes "pg_control") (control_at job.new) control_is
      (λ _ from file. is_no_word job.new V16 catalog file.relation file.fork file.segment (job.new ++ codes "global" ∷ []) (codes "pg_control") refl)

  pub control_is_new : IsInside (new_tops job s0) (control_at job.new)
  control_is_new = inl (codes "global" ∷ codes "pg_control" ∷ [], refl)

  pub control_no_mark : control_at job.new ≢ mark_at job.new
  control_no_mark same =
      let words = (same_push (job.new ++ codes "global" ∷ []) (profile_path job.new) (codes "pg_control") (codes "done") (sym control_is ∙ same)).1 in
      let moved : true ≡ false = ap (λ (text : List ℕ). slice_index text 0 == 112) words in
      cc moved

  named_behind : get s5.names (control_at job.new) ≡ Some (File went.counters.inode)
  named_behind =
      names_transferred read job catalog items s0 s1 s2 s3 s4 s5 x can went (control_at job.new) control_untargeted
      ∙ names_disabled read job catalog items s0 s1 s2 s3 s4 s5 x can went (control_at job.new) (no_old_control read job catalog items s0 s1 s2 s3 s4 s5 x can went (control_at job.new) control_is_new) (no_disabled read job catalog items s0 s1 s2 s3 s4 s5 x can went (control_at job.new) control_is_new)
      ∙ ap (λ names. get names (control_at job.new)) (counted_names s2 _ _ s3 went.counters)
      ∙ went.counters.named

  bytes_behind : get s5.bytes went.counters.inode ≡ Some went.counters.after
  bytes_behind =
      let disabled : get s4.bytes went.counters.inode ≡ Some went.counters.after = ap (λ bytes. get bytes went.counters.inode) (disabled_bytes job.mode job s3 s4 went.disables) ∙ counted_here s2 _ _ s3 went.counters in
      transferred_bytes job.mode items s4 s5 went.files went.counters.inode (ap is_some disabled) ∙ disabled

  pub control_stood : file_bytes s0 (control_at job.new) ≡ Some (bytes_of s2.bytes went.counters.inode)
  control_stood =
      named_bytes s0 (control_at job.new) went.counters.inode (control_then read job catalog items s0 s1 s2 s3 s4 s5 x can went)
      ∙ ap (λ found. Some (unwrap_or found [])) (sym (kept_until_status read job catalog items s0 s1 s2 s3 s4 s5 x can went went.counters.inode (control_known read job catalog items s0 s1 s2 s3 s4 s5 x can went)))

  pub control_counted : HasOldCounters job s0 x
  control_counted = record {
    before = bytes_of s2.bytes went.counters.inode;
    stood = control_stood;
    after = went.counters.after;
    stands =
        marked_file (mark_at job.new) s5 x went.mark.rest (control_at job.new) control_no_mark
        ∙ named_bytes s5 (control_at job.new) went.counters.inode named_behind ∙ ap (λ found. Some (unwrap_or found [])) bytes_behind;
    carries = went.counters.carries;
  }

  -- ---- the version

  version_is_new : IsInside (new_tops job s0) (version_at job.new)
  version_is_new = inl (codes "PG_VERSION" ∷ [], refl)

  version_spared : IsSpared job catalog items (version_at job.new)
  version_spared = record {
    unlisted = version_unlisted job catalog can.valid;
    no_status = λ within. dirs_outside job.new (codes "PG_VERSION") [] (λ same. let moved : true ≡ false = ap (λ (text : List ℕ). slice_index text 0 == 80) same in cc moved) (λ same. let moved : true ≡ false = ap (λ (text : List ℕ). slice_index text 0 == 80) same in cc moved) (in_inside (status_dirs job.new) (version_at job.new) within);
    no_control = no_old_control read job catalog items s0 s1 s2 s3 s4 s5 x can went (version_at job.new) version_is_new;
    no_disabled = no_disabled read job catalog items s0 s1 s2 s3 s4 s5 x can went (version_at job.new) version_is_new;
    no_target = word_untargeted read job catalog items s0 s1 s2 s3 s4 s5 x can went job.new (codes "PG_VERSION") (version_at job.new) refl (λ _ from file. is_no_word job.new V16 catalog file.relation file.fork file.segment job.new (codes "PG_VERSION") refl);
    no_mark = λ same. let words = (same_push job.new (profile_path job.new) (codes "PG_VERSION") (codes "done") same).1 in let moved : true ≡ false = ap (λ (text : List ℕ). slice_index text 0 == 80) words in cc moved;
  }

  -- the version's text is too short for a control record
  version_other : get s0.names (version_at job.new) ≢ Some (File went.counters.inode)
  version_other named =
      let text : Some (bytes_of s2.bytes went.counters.inode) ≡ Some (version_text_of V16) =
      sym control_stood ∙ named_bytes s0 (control_at job.new) went.counters.inode (control_then read job catalog items s0 s1 s2 s3 s4 s5 x can went)
      ∙ sym (named_bytes s0 (version_at job.new) went.counters.inode named) ∙ can.version_there in
      let long = (can.record_there (version_text_of V16) (control_stood ∙ text)).whole in
      omega (arith, long)

  pub version_stays : file_bytes x (version_at job.new) ≡ file_bytes s0 (version_at job.new)
  version_stays = spared_file read job catalog items s0 s1 s2 s3 s4 s5 x can went (version_at job.new) version_spared version_other
