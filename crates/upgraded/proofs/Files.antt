-- The files of relations in the new cluster are those that are carried, with the old cluster's bytes.
use Rattle.std.proofs.Common.{◌≡◌, ◌≢◌, inl, inr, ℕ, ◌+◌, ◌<◌, ◌^◌, Bool, true, false, cond, List, [], ◌∷◌, ◌++◌, codes, Option, Some, None, refl, sym, ◌∙◌, ap, arith, append_assoc, ◌&&◌}
use Rattle.std.specs.Prelude.{is_some}
use Rattle.std.specs.Option.{option_map, unwrap_or}
use Rattle.std.specs.List.{Contains}
use Rattle.std.specs.Fmt.{decimal}
use Rattle.std.specs.FinMap.{get}
use Rattle.fs_model.specs.declared.node.Node.TheVariants.{File}
use Rattle.fs_model.specs.Names.{Path}
use Rattle.fs_model.specs.State.{FsState}
use Rattle.fs_model.specs.Effects.{bytes_of}
use Rattle.fs_model.specs.Reading.{file_bytes, inode_of_node}
use Rattle.crash_safety.specs.Frame.{IsInside}
use Rattle.crash_safety.specs.Places.{control_at}
use Rattle.crash_safety.specs.Synced.{IsOneOf}
use Rattle.crash_safety.proofs.Keeping.{all_at}
use Rattle.control_file.specs.declared.job.Job.{Job}
use Rattle.control_file.specs.declared.modes.Mode.{Mode}
use Rattle.control_file.specs.declared.modes.Mode.TheVariants.{Copy, Link}
use Rattle.control_file.specs.declared.releases.Release.TheVariants.{V15, V16}
use Rattle.catalog.specs.Cluster.{Cluster}
use Rattle.xact_status.specs.Files.{SegmentFiles}
use Rattle.relation_files.specs.declared.relation.Relation.{Relation}
use Rattle.relation_files.specs.declared.relation.Fork.{Fork}
use Rattle.relation_files.specs.declared.relation.Fork.TheVariants.{Main}
use Rattle.relation_files.specs.Places.{fork_files, fork_suffix, segment_suffix, segment_path}
use Rattle.relation_files.specs.Relations.{relations_of}
use Rattle.relation_files.specs.Carried.{belongs, is_reached, carried}
use Rattle.new_names.specs.declared.names.NewNode.{NewNode}
use Rattle.new_names.specs.declared.names.NewNode.TheVariants as new
use Rattle.new_names.specs.Standing.{Has}
use Rattle.catalog_server.specs.Profile.{profile_path}
use Rattle.catalog_server.specs.ReplayNames.{base_path}
use Rattle.status_transfer.proofs.Carrying.{file_known}
use Rattle.transfer_plan.specs.declared.plan.PlanItem.{PlanItem}
use Rattle.transfer_plan.specs.Carriable.{targets}
use Rattle.copy_transfer.specs.CopiedFiles.{IsCopied}
use Rattle.link_transfer.specs.LinkedFiles.{IsLinked}
use Rattle.upgraded.specs.Places.{old_tops, new_tops, old_site, new_site, mark_at}
use Rattle.upgraded.specs.CarriedFiles.{IsCarriedFile}
use Rattle.upgraded.specs.Upgraded.{ReadsCatalog, HasCarriedFiles}
use Rattle.upgraded.specs.Upgradable.{IsUpgradable}
use Rattle.upgraded.specs.Upgrades.{Upgrades, TransfersByMode}
use Rattle.upgraded.proofs.Stores.{stored}
use Rattle.upgraded.proofs.Targets.{IsSameFile, same_target, is_inside, is_no_word, not_in_status}
use Rattle.upgraded.proofs.Listed.{IsKind, listed_kind}
use Rattle.upgraded.proofs.Steps.{same_file, counted_bytes, target_carried, marked_file}
use Rattle.upgraded.proofs.Control.{named_bytes}
use Rattle.upgraded.proofs.Chain.{IsSpared, old_spared, no_old_control, no_disabled, names_restored, names_counted, names_disabled, names_transferred, spared_before, control_then, kept_until_status, kept_before, kept}

-- ---- carried files

-- what is carried is there
pub carried_there : (fork : Fork) (files : SegmentFiles) (n : ℕ) → is_some (carried fork files n) ≡ true → carried fork files n ≡ files n
unfolding carried
carried_there fork files n some = by (is_reached fork files (n + 1)) some
  where
    by : (b : Bool) → is_some (cond b (files n) None) ≡ true → cond b (files n) None ≡ files n
    by true some = refl
    by false some = absurd (cc some)

-- the first segment of a relation is
pub first_carried : (files : SegmentFiles) → is_some (files 0) ≡ true → is_some (carried Main files 0) ≡ true
unfolding carried
first_carried files some = by (files 0) some
  where
    by : (file : Option (List ℕ)) → is_some file ≡ true → is_some (cond (belongs Main 0 file && true) file None) ≡ true
    by None some = absurd (cc some)
    by (Some bytes) some = refl

-- one file is carried alike, by whichever of its relations it is told
pub same_carried : (s : FsState) (job : Job) (catalog : Cluster) (r q : Relation) (f g : Fork) (m n : ℕ) → IsSameFile job catalog r q f g m n
    → carried f (fork_files s (old_site job catalog) r f) m ≡ carried g (fork_files s (old_site job catalog) q g) n
unfolding segment_path
same_carried s job catalog r q f g m n same =
    (λ i. carried (same.fork i) (λ k. file_bytes s (same.dir i ++ (decimal (same.file i) ++ (fork_suffix (same.fork i) ++ segment_suffix k)) ∷ [])) (same.segment i))

no_file : (s : FsState) (path : Path) → inode_of_node (get s.names path) ≡ None → file_bytes s path ≡ None
no_file s path none = ap (option_map (bytes_of s.bytes)) none

module _ (read : ReadsCatalog) (job : Job) (catalog : Cluster) (items : List PlanItem) (s0 s1 s2 s3 s4 s5 x : FsState) (can : IsUpgradable read job catalog s0) (went : Upgrades read job catalog items s0 s1 s2 s3 s4 s5 x) where
  abbrev old_path : Relation → Fork → ℕ → Path
  old_path r f n = segment_path (old_site job catalog) r f n

  abbrev new_path : Relation → Fork → ℕ → Path
  new_path r f n = segment_path (new_site job catalog) r f n

  module _ (r : Relation) (listed : Contains (relations_of catalog) r) (f : Fork) where
    -- ---- the old cluster's files

    pub old_is_old : (n : ℕ) → IsInside (old_tops job s0) (old_path r f n)
    old_is_old n = is_inside job.old V15 catalog r f n s0 job can.locations (stored catalog can.valid r listed).store

    pub old_is_spared : (n : ℕ) → IsSpared job catalog items (old_path r f n)
    old_is_spared n =
        old_spared read job catalog items s0 s1 s2 s3 s4 s5 x can went (old_path r f n) (old_is_old n)
        (λ same. is_no_word job.old V15 catalog r f n (job.old ++ codes "global" ∷ []) (codes "pg_control") refl (same ∙ sym (append_assoc job.old (codes "global" ∷ []) (codes "pg_control" ∷ []))))
        (λ same. is_no_word job.old V15 catalog r f n (job.old ++ codes "global" ∷ []) (codes "pg_control.old") refl (same ∙ sym (append_assoc job.old (codes "global" ∷ []) (codes "pg_control.old" ∷ []))))

    -- none of them is the new control file
    pub old_other : (n inode : ℕ) → get s0.names (old_path r f n) ≡ Some (File inode) → inode ≢ went.counters.inode
    old_other n inode named same =
        can.unshared (old_path r f n) (control_at job.new) inode (old_is_old n) (inl (codes "global" ∷ codes "pg_control" ∷ [], refl)) named
        (control_then read job catalog items s0 s1 s2 s3 s4 s5 x can went ∙ ap (λ i. Some (File i)) (sym same))

    old_counted : (n : ℕ) → file_bytes s3 (old_path r f n) ≡ file_bytes s0 (old_path r f n)
    old_counted n =
        let spared = old_is_spared n in
        same_file s0 s3 (old_path r f n) (names_counted read job catalog items s0 s1 s2 s3 s4 s5 x can went (old_path r f n) spared.no_status ∙ names_restored read job catalog items s0 s1 s2 s3 s4 s5 x can went (old_path r f n) spared.unlisted)
        (λ inode named. counted_bytes s2 _ _ s3 went.counters inode (old_other n inode named) ∙ kept_until_status read job catalog items s0 s1 s2 s3 s4 s5 x can went inode (file_known s0 can.well_formed (old_path r f n) inode named))

    old_before : (n : ℕ) → file_bytes s4 (old_path r f n) ≡ file_bytes s0 (old_path r f n)
    old_before n =
        same_file s0 s4 (old_path r f n) (spared_before read job catalog items s0 s1 s2 s3 s4 s5 x can went (old_path r f n) (old_is_spared n))
        (λ inode named. kept_before read job catalog items s0 s1 s2 s3 s4 s5 x can went inode (file_known s0 can.well_formed (old_path r f n) inode named) (old_other n inode named))

    -- so the plan is of the state in which the upgrade began
    pub carried_then : (n : ℕ) → carried f (fork_files s3 (old_site job catalog) r f) n ≡ carried f (fork_files s0 (old_site job catalog) r f) n
    carried_then n = ap (λ files. carried f files n) (λ i m. old_counted m i)

    -- ---- the new cluster's

    module _ (n : ℕ) where
      pub new_is_new : IsInside (new_tops job s0) (new_path r f n)
      new_is_new = is_inside job.new V16 catalog r f n s0 job can.locations (stored catalog can.valid r listed).store

      pub new_no_mark : new_path r f n ≢ mark_at job.new
      new_no_mark = is_no_word job.new V16 catalog r f n (profile_path job.new) (codes "done") refl

      -- a carried file has the old one's bytes
      carried_new : (bytes : List ℕ) → carried f (fork_files s0 (old_site job catalog) r f) n ≡ Some bytes → file_bytes s5 (new_path r f n) ≡ Some bytes
      carried_new bytes is = moved job.mode went.files
        where
          there : file_bytes s0 (old_path r f n) ≡ Some bytes
          there = sym (carried_there f (fork_files s0 (old_site job catalog) r f) n (ap is_some is)) ∙ is

          file : IsCarriedFile job catalog s3 (old_path r f n) (new_path r f n)
          file = record { relation = r; listed = listed; fork = f; segment = n; numbered = went.plan.ends r listed f n (ap is_some (carried_then n ∙ is)); carried = ap is_some (carried_then n ∙ is); from_is = refl; to_is = refl }

          moved : (mode : Mode) → TransfersByMode mode items s4 s5 → file_bytes s5 (new_path r f n) ≡ Some bytes
          moved Copy copies =
              let (item, among, from_same, to_same) = went.plan.all (old_path r f n) (new_path r f n) file in
              let one = all_at (IsCopied s4 s5) items item copies.carried.each among in
              ap (file_bytes s5) (sym to_same) ∙ named_bytes s5 item.to one.made one.there ∙ ap (λ found. Some (unwrap_or found [])) one.same
              ∙ sym one.source ∙ ap (file_bytes s4) from_same ∙ old_before n ∙ there
          moved Link links =
              let (item, among, from_same, to_same) = went.plan.all (old_path r f n) (new_path r f n) file in
              let one = all_at (IsLinked s4 s5) items item links.carried among in
              let named : get s0.names (old_path r f n) ≡ Some (File one.inode) =
              sym (spared_before read job catalog items s0 s1 s2 s3 s4 s5 x can went (old_path r f n) (old_is_spared n)) ∙ ap (get s4.names) (sym from_same) ∙ one.source in
              ap (file_bytes s5) (sym to_same) ∙ named_bytes s5 item.to one.inode one.there
              ∙ ap (λ found. Some (unwrap_or found [])) (kept read job catalog items s0 s1 s2 s3 s4 s5 x can went one.inode (file_known s0 can.well_formed (old_path r f n) one.inode named) (old_other n one.inode named))
              ∙ sym (named_bytes s0 (old_path r f n) one.inode named) ∙ there

      -- where none is carried, no file stands
      module _ (none : carried f (fork_files s0 (old_site job catalog) r f) n ≡ None) where
        alike : (q : Relation) → Contains (relations_of catalog) q → (g : Fork) (m : ℕ) → m < 2 ^ 32 → new_path r f n ≡ new_path q g m → IsSameFile job catalog r q f g n m
        alike q q_listed g m m_small same = same_target job catalog r q f g n m (stored catalog can.valid r listed) (stored catalog can.valid q q_listed) m_small same

        untargeted : IsOneOf (targets items) (new_path r f n) → ⊥
        untargeted one =
            let (from, file) = target_carried job catalog s3 items went.plan (new_path r f n) one in
            let same = alike file.relation file.listed file.fork file.segment file.numbered file.to_is in
            let some : is_some (carried f (fork_files s3 (old_site job catalog) r f) n) ≡ true = ap is_some (same_carried s3 job catalog r file.relation f file.fork n file.segment same) ∙ file.carried in
            let isnt : is_some (carried f (fork_files s3 (old_site job catalog) r f) n) ≡ false = ap is_some (carried_then n ∙ none) in
            cc (some, isnt)

        no_kind : (bytes : List ℕ) → IsKind job catalog (new_path r f n) (new.File bytes) → ⊥
        no_kind bytes (inl (never, _)) = never
        no_kind bytes (inr (inl (k, is))) = is_no_word job.new V16 catalog r f n (base_path job.new ++ decimal k ∷ []) (codes "PG_VERSION") refl (is ∙ sym (append_assoc (base_path job.new) (decimal k ∷ []) (codes "PG_VERSION" ∷ [])))
        no_kind bytes (inr (inr (inl (q, q_listed, is)))) =
            let same = alike q q_listed Main 0 (omega arith) is in
            let some : is_some (carried f (fork_files s0 (old_site job catalog) r f) n) ≡ true =
            ap is_some (same_carried s0 job catalog r q f Main n 0 same) ∙ first_carried (fork_files s0 (old_site job catalog) q Main) (can.first_files q q_listed) in
            let isnt : is_some (carried f (fork_files s0 (old_site job catalog) r f) n) ≡ false = ap is_some none in
            cc (some, isnt)
        no_kind bytes (inr (inr (inr is))) = is_no_word job.new V16 catalog r f n (profile_path job.new) (codes "catalog.sql") refl is

        made : (what : NewNode) → Has s1 (new_path r f n) what → IsKind job catalog (new_path r f n) what → inode_of_node (get s1.names (new_path r f n)) ≡ None
        made new.Dir has kind = ap inode_of_node has
        made (new.File bytes) has kind = absurd (no_kind bytes kind)
        made (new.Sym target) has kind = ap inode_of_node has

        restored : inode_of_node (get s1.names (new_path r f n)) ≡ None
        restored =
            elim (went.schema.only.names (new_path r f n)) [
              | inl same ↦ ap inode_of_node (same ∙ can.free_files r listed f n)
              | inr own ↦ made own.0 (went.schema.all (record { path = new_path r f n; node = own.0 }) own.1) (listed_kind job catalog can.valid (new_path r f n) own.0 own.1)
            ]

        no_new : file_bytes x (new_path r f n) ≡ None
        no_new =
            no_file x (new_path r f n)
            (ap inode_of_node (
            went.mark.rest.names (new_path r f n) new_no_mark
            ∙ names_transferred read job catalog items s0 s1 s2 s3 s4 s5 x can went (new_path r f n) untargeted
            ∙ names_disabled read job catalog items s0 s1 s2 s3 s4 s5 x can went (new_path r f n) (no_old_control read job catalog items s0 s1 s2 s3 s4 s5 x can went (new_path r f n) new_is_new) (no_disabled read job catalog items s0 s1 s2 s3 s4 s5 x can went (new_path r f n) new_is_new)
            ∙ names_counted read job catalog items s0 s1 s2 s3 s4 s5 x can went (new_path r f n) (not_in_status job.new V16 catalog r f n job.new))
            ∙ restored)

      file_carried : file_bytes x (new_path r f n) ≡ carried f (fork_files s0 (old_site job catalog) r f) n
      file_carried = by (carried f (fork_files s0 (old_site job catalog) r f) n) refl
        where
          by : (file : Option (List ℕ)) → carried f (fork_files s0 (old_site job catalog) r f) n ≡ file → file_bytes x (new_path r f n) ≡ carried f (fork_files s0 (old_site job catalog) r f) n
          by None e = no_new e ∙ sym e
          by (Some bytes) e = marked_file (mark_at job.new) s5 x went.mark.rest (new_path r f n) new_no_mark ∙ carried_new bytes e ∙ sym e

  pub files_carried : HasCarriedFiles job catalog s0 x
  files_carried r listed f n = file_carried r listed f n
