-- Who shares a file with the old cluster, in the end.
use Rattle.std.proofs.Common.{◌≡◌, ◌≢◌, ◌⊎◌, inl, inr, ℕ, Bool, true, false, cond, List, [], ◌∷◌, codes, Option, Some, None, refl, sym, ◌∙◌, ap, append_assoc}
use Rattle.std.specs.Prelude.{is_some}
use Rattle.std.specs.FinMap.{get}
use Rattle.fs_model.specs.declared.node.Node.{Node}
use Rattle.fs_model.specs.declared.node.Node.TheVariants.{File}
use Rattle.fs_model.specs.Names.{Path, same_path}
use Rattle.fs_model.specs.PathLaws.{same_path_true, same_path_refl}
use Rattle.fs_model.specs.State.{FsState}
use Rattle.fs_model.specs.Effects.{set_name}
use Rattle.fs_model.proofs.Lookups.{get-set_name}
use Rattle.crash_safety.specs.Frame.{IsInside}
use Rattle.crash_safety.specs.Places.{control_at, disabled_at}
use Rattle.crash_safety.specs.Synced.{IsOneOf}
use Rattle.crash_safety.proofs.Keeping.{all_at}
use Rattle.control_file.specs.declared.job.Job.{Job}
use Rattle.control_file.specs.declared.modes.Mode.{Mode}
use Rattle.control_file.specs.declared.modes.Mode.TheVariants.{Copy, Link}
use Rattle.catalog.specs.Cluster.{Cluster}
use Rattle.new_names.specs.declared.names.NewNode.{NewNode}
use Rattle.new_names.specs.declared.names.NewNode.TheVariants as new
use Rattle.new_names.specs.Frame.{IsMade}
use Rattle.status_transfer.proofs.Carrying.{file_known}
use Rattle.transfer_plan.specs.declared.plan.PlanItem.{PlanItem}
use Rattle.transfer_plan.specs.Carriable.{targets}
use Rattle.copy_transfer.specs.CopiedFiles.{IsCopied}
use Rattle.link_transfer.specs.LinkedFiles.{IsLinked, ShareOnly}
use Rattle.catalog_server.proofs.Members.{from_in}
use Rattle.upgraded.specs.Places.{old_tops, new_tops, mark_at}
use Rattle.upgraded.specs.CarriedFiles.{IsCarriedName}
use Rattle.upgraded.specs.Upgraded.{ReadsCatalog, SharesByMode, LinksCarried}
use Rattle.upgraded.specs.Upgradable.{IsUpgradable}
use Rattle.upgraded.specs.Upgrades.{Upgrades, DisablesByMode, TransfersByMode, CopiesFiles, LinksFiles}
use Rattle.upgraded.proofs.Unlisted.{listed_is_new}
use Rattle.upgraded.proofs.Steps.{counted_names, item_of_target}
use Rattle.upgraded.proofs.Files.{old_is_spared, new_no_mark}
use Rattle.upgraded.proofs.Others.{carried_later, target_is_carried}
use Rattle.upgraded.proofs.Chain.{status_below, apart, target_is_new, no_old_control, no_disabled, names_restored, names_counted, names_disabled, names_transferred, spared_before, control_then, kept_restored, kept_before, kept}

same_or : (p q : Path) → (p ≡ q) ⊎ (p ≢ q)
same_or p q = by (same_path p q) refl
  where
    by : (test : Bool) → same_path p q ≡ test → (p ≡ q) ⊎ (p ≢ q)
    by true is = inl (same_path_true p q is)
    by false is = inr (λ same. let here = ap (same_path p) same ∙ is in let tied = same_path_refl p in cc (here, tied))

-- whether the path is one of these
one_or_none : (paths : List Path) (path : Path) → IsOneOf paths path ⊎ (IsOneOf paths path → ⊥)
one_or_none [] path = inr (λ none. none)
one_or_none (first ∷ paths) path =
    elim (same_or path first) [
      | inl same ↦ inl (inl same)
      | inr other ↦ elim (one_or_none paths path) [ inl one ↦ inl (inr one) | inr others ↦ inr (λ one. elim one [ inl same ↦ other same | inr among ↦ others among ]) ]
    ]

pub same_node : (i j : ℕ) → (found : Option Node) → found ≡ Some (File i) → found ≡ Some (File j) → i ≡ j
same_node i j found is is_too = (let both : Some (File i) ≡ Some (File j) = sym is ∙ is_too in cc both)

-- a file that is made is new
pub made_new : (start : FsState) (what : NewNode) (found : Option Node) (i : ℕ) → IsMade start what found → found ≡ Some (File i) → get start.bytes i ≡ None
made_new start new.Dir found i is named = absurd (cc (is, named))
made_new start (new.File bytes) found i (inode, unused, is) named = ap (get start.bytes) (same_node i inode found named is) ∙ unused
made_new start (new.Sym target) found i is named = absurd (cc (is, named))

module _ (read : ReadsCatalog) (job : Job) (catalog : Cluster) (items : List PlanItem) (s0 s1 s2 s3 s4 s5 x : FsState) (can : IsUpgradable read job catalog s0) (went : Upgrades read job catalog items s0 s1 s2 s3 s4 s5 x) where
  -- a file that has a name at an old place in the beginning
  abbrev IsOldFile : ℕ → Type 0
  IsOldFile i = (path : Path) × IsInside (old_tops job s0) path × (get s0.names path ≡ Some (File i))

  old_known : (i : ℕ) → IsOldFile i → is_some (get s0.bytes i) ≡ true
  old_known i (path, old, named) = file_known s0 can.well_formed path i named

  old_other : (i : ℕ) → IsOldFile i → i ≢ went.counters.inode
  old_other i (path, old, named) same =
      can.unshared path (control_at job.new) i old (inl (codes "global" ∷ codes "pg_control" ∷ [], refl)) named
      (control_then read job catalog items s0 s1 s2 s3 s4 s5 x can went ∙ ap (λ j. Some (File j)) (sym same))

  -- ---- it has no other new name

  not_restored : (i : ℕ) → IsOldFile i → (path : Path) → IsInside (new_tops job s0) path → get s1.names path ≡ Some (File i) → ⊥
  not_restored i old path new named =
      let stood : get s0.names path ≡ Some (File i) → ⊥ = λ then. can.unshared old.0 path i old.1 new old.2 then in
      elim (went.schema.only.names path) [
        | inl same ↦ stood (sym same ∙ named)
        | inr own ↦ elim own.2 [
          | inl none ↦ absurd (cc (none, named))
          | inr rest ↦ elim rest [
            | inl same ↦ stood (sym same ∙ named)
            | inr made ↦ (let none = made_new s0 own.0 (get s1.names path) i made named in let known = old_known i old in cc (none, known))
          ]
        ]
      ]

  not_carried : (i : ℕ) → IsOldFile i → (path : Path) → IsInside (new_tops job s0) path → get s2.names path ≡ Some (File i) → ⊥
  not_carried i old path new named =
      elim (went.status.own path i named) [
        | inl same ↦ not_restored i old path new same
        | inr none ↦ (let known : is_some (get s1.bytes i) ≡ true = ap is_some (kept_restored read job catalog items s0 s1 s2 s3 s4 s5 x can went i (old_known i old)) ∙ old_known i old in cc (none, known))
      ]

  not_behind : (i : ℕ) → IsOldFile i → (path : Path) → IsInside (new_tops job s0) path → (IsOneOf (targets items) path → ⊥) → get s5.names path ≡ Some (File i) → ⊥
  not_behind i old path new other named =
      not_carried i old path new (
      sym (ap (λ names. get names path) (counted_names s2 _ _ s3 went.counters))
      ∙ sym (names_disabled read job catalog items s0 s1 s2 s3 s4 s5 x can went path (no_old_control read job catalog items s0 s1 s2 s3 s4 s5 x can went path new) (no_disabled read job catalog items s0 s1 s2 s3 s4 s5 x can went path new))
      ∙ sym (names_transferred read job catalog items s0 s1 s2 s3 s4 s5 x can went path other) ∙ named)

  not_mark : (i : ℕ) → IsOldFile i → get x.names (mark_at job.new) ≡ Some (File i) → ⊥
  not_mark i old named =
      let none = went.mark.own i named in
      let known : is_some (get s5.bytes i) ≡ true = ap is_some (kept read job catalog items s0 s1 s2 s3 s4 s5 x can went i (old_known i old) (old_other i old)) ∙ old_known i old in
      cc (none, known)

  not_other : (i : ℕ) → IsOldFile i → (path : Path) → IsInside (new_tops job s0) path → (IsOneOf (targets items) path → ⊥) → get x.names path ≡ Some (File i) → ⊥
  not_other i old path new other named =
      elim (same_or path (mark_at job.new)) [
        | inl same ↦ not_mark i old (ap (get x.names) (sym same) ∙ named)
        | inr unmarked ↦ not_behind i old path new other (sym (went.mark.rest.names path unmarked) ∙ named)
      ]

  -- ---- a name at an old place is that of a file that was there

  old_counted : (path : Path) → IsInside (old_tops job s0) path → get s3.names path ≡ get s0.names path
  old_counted path old =
      names_counted read job catalog items s0 s1 s2 s3 s4 s5 x can went path (λ within. apart read job catalog items s0 s1 s2 s3 s4 s5 x can went path old (status_below job.new path within _))
      ∙ names_restored read job catalog items s0 s1 s2 s3 s4 s5 x can went path (λ what listed. apart read job catalog items s0 s1 s2 s3 s4 s5 x can went path old (listed_is_new job catalog can.valid s0 can.locations path what listed))

  control_old : IsInside (old_tops job s0) (control_at job.old)
  control_old = inl (codes "global" ∷ codes "pg_control" ∷ [], refl)

  old_disabled : (mode : Mode) → DisablesByMode mode job s3 s4 → (path : Path) (i : ℕ) → IsInside (old_tops job s0) path → get s4.names path ≡ Some (File i) → IsOldFile i
  old_disabled Copy same path i old named = (path, old, sym (old_counted path old) ∙ sym (ap (λ (state : FsState). get state.names path) same) ∙ named)
  old_disabled Link disables path i old named =
      by_disabled (same_path path (disabled_at job.old)) (sym is ∙ named)
    where
      is : get s4.names path ≡ cond (same_path path (disabled_at job.old)) (Some (File disables.renamed.inode)) (cond (same_path path (control_at job.old)) None (get s3.names path))
      is =
          ap (λ names. get names path) disables.renamed.names
          ∙ get-set_name (set_name s3.names (control_at job.old) None) (disabled_at job.old) (Some (File disables.renamed.inode)) path
          ∙ ap (cond (same_path path (disabled_at job.old)) (Some (File disables.renamed.inode))) (get-set_name s3.names (control_at job.old) None path)

      by_control : (b : Bool) → cond b None (get s3.names path) ≡ Some (File i) → IsOldFile i
      by_control true e = absurd (cc e)
      by_control false e = (path, old, sym (old_counted path old) ∙ e)

      by_disabled : (b : Bool) → cond b (Some (File disables.renamed.inode)) (cond (same_path path (control_at job.old)) None (get s3.names path)) ≡ Some (File i) → IsOldFile i
      by_disabled true e = (control_at job.old, control_old, sym (old_counted (control_at job.old) control_old) ∙ disables.renamed.named ∙ e)
      by_disabled false e = by_control (same_path path (control_at job.old)) e

  old_named : (path : Path) (i : ℕ) → IsInside (old_tops job s0) path → get x.names path ≡ Some (File i) → IsOldFile i
  old_named path i old named =
      let unmarked : path ≢ mark_at job.new = λ same. apart read job catalog items s0 s1 s2 s3 s4 s5 x can went path old (inl (codes "pg_profile" ∷ codes "done" ∷ [], same ∙ append_assoc job.new (codes "pg_profile" ∷ []) (codes "done" ∷ []))) in
      let untargeted : IsOneOf (targets items) path → ⊥ = λ one. apart read job catalog items s0 s1 s2 s3 s4 s5 x can went path old (target_is_new read job catalog items s0 s1 s2 s3 s4 s5 x can went path one) in
      old_disabled job.mode went.disables path i old (sym (names_transferred read job catalog items s0 s1 s2 s3 s4 s5 x can went path untargeted) ∙ sym (went.mark.rest.names path unmarked) ∙ named)

  -- ---- by mode

  target_unmarked : (path : Path) → IsOneOf (targets items) path → path ≢ mark_at job.new
  target_unmarked path one same =
      let (from, file) = target_is_carried read job catalog items s0 s1 s2 s3 s4 s5 x can went path one in
      new_no_mark read job catalog items s0 s1 s2 s3 s4 s5 x can went file.relation file.listed file.fork file.segment (sym file.to_is ∙ same)

  copied_other : CopiesFiles items s4 s5 → (i : ℕ) → IsOldFile i → (path : Path) → IsOneOf (targets items) path → get x.names path ≡ Some (File i) → ⊥
  copied_other copies i old path one named =
      let (item, among, is) = item_of_target items path one in
      let copied = all_at (IsCopied s4 s5) items item copies.carried.each (from_in items item among) in
      let behind : get s5.names item.to ≡ Some (File i) = ap (get s5.names) (sym is) ∙ sym (went.mark.rest.names path (target_unmarked path one)) ∙ named in
      let same : i ≡ copied.made = same_node i copied.made (get s5.names item.to) behind copied.there in
      let none : get s4.bytes i ≡ None = ap (get s4.bytes) same ∙ copied.unused in
      let known : is_some (get s4.bytes i) ≡ true = ap is_some (kept_before read job catalog items s0 s1 s2 s3 s4 s5 x can went i (old_known i old) (old_other i old)) ∙ old_known i old in
      cc (none, known)

  carried_linked : LinksFiles items s4 s5 → LinksCarried job catalog s0 x
  carried_linked links from to file =
      let (item, among, from_same, to_same) = went.plan.all from to (carried_later read job catalog items s0 s1 s2 s3 s4 s5 x can went from to file) in
      let linked = all_at (IsLinked s4 s5) items item links.carried among in
      let before : get s4.names from ≡ get s0.names from =
      ap (get s4.names) file.from_is ∙ spared_before read job catalog items s0 s1 s2 s3 s4 s5 x can went _ (old_is_spared read job catalog items s0 s1 s2 s3 s4 s5 x can went file.relation file.listed file.fork file.segment) ∙ ap (get s0.names) (sym file.from_is) in
      let unmarked : to ≢ mark_at job.new = λ same. new_no_mark read job catalog items s0 s1 s2 s3 s4 s5 x can went file.relation file.listed file.fork file.segment (sym file.to_is ∙ same) in
      (linked.inode, sym before ∙ ap (get s4.names) (sym from_same) ∙ linked.source, went.mark.rest.names to unmarked ∙ ap (get s5.names) (sym to_same) ∙ linked.there)

  copies_share : CopiesFiles items s4 s5 → ShareOnly (old_tops job s0) (new_tops job s0) (λ path. ⊥) x.names
  copies_share copies path other i old new named named_new =
      let file = old_named path i old named in
      elim (one_or_none (targets items) other) [ inl one ↦ copied_other copies i file other one named_new | inr others ↦ not_other i file other new others named_new ]

  links_share : ShareOnly (old_tops job s0) (new_tops job s0) (IsCarriedName job catalog s0) x.names
  links_share path other i old new named named_new =
      elim (one_or_none (targets items) other) [
        | inl one ↦ target_is_carried read job catalog items s0 s1 s2 s3 s4 s5 x can went other one
        | inr others ↦ absurd (not_other i (old_named path i old named) other new others named_new)
      ]

  by_mode : (mode : Mode) → TransfersByMode mode items s4 s5 → SharesByMode mode job catalog s0 x
  by_mode Copy copies = copies_share copies
  by_mode Link links = (carried_linked links, links_share)

  pub shares_by_mode : SharesByMode job.mode job catalog s0 x
  shares_by_mode = by_mode job.mode went.files
