-- What each effect leaves of the crash invariant.
use Rattle.std.proofs.Common.{◌≡◌, ◌≢◌, ℕ, Bool, true, false, not, cond, List, [], ◌∷◌, ◌++◌, Option, Some, None, refl, sym, ◌∙◌, ap, subst}
use Rattle.std.specs.Prelude.{is_some, ◌&&◌}
use Rattle.std.specs.List.{filter}
use Rattle.std.specs.Ordering.{eq_by_cmp, nat_cmp}
use Rattle.std.specs.Cmp.{nat_cmp_total}
use Rattle.std.specs.FinMap.{get, get-insert, get-remove}
use Rattle.fs_model.specs.declared.node.Node.TheVariants.{Dir, File}
use Rattle.fs_model.specs.declared.effect.Effect.TheVariants.{KeepBytes, KeepNames}
use Rattle.fs_model.specs.Names.{Path, parent}
use Rattle.fs_model.specs.State.{Names, Change, Devices, FsState}
use Rattle.fs_model.specs.Effects.{apply, with_change, with_bytes, bytes_of, is_in, changed}
use Rattle.fs_model.specs.WellFormed.{Each, EachPair, IsKnown}
use Rattle.fs_model.proofs.Lookups.{each_changed, each_all_changed, insert_other, same_number_or}
use Rattle.fs_model.proofs.Runs.{all_append}
use Rattle.crash_safety.specs.Frame.{ChangesInside}
use Rattle.crash_safety.specs.Upgrade.{Upgrade, renaming, IsOldInode, IsReady}
use Rattle.crash_safety.specs.Sound.{Stage, Whole, Moving, Moved, is_moved, is_moved_kept, is_moving, AsAtStart, Waits, KeepsOld, IsNoOldFile, StaysApart}
use Rattle.crash_safety.proofs.Keeping.{all_filter, whole, cleaned}
use Rattle.crash_safety.proofs.Waiting.{waits_push_new, waits_push_rename, waits_filter, waits_names, new_as, renamed_as, other_kept, other_waits, own_kept}

module _ (u : Upgrade) (ready : IsReady u) (stage : Stage) (s : FsState) (k : KeepsOld u stage s) where
  pub change_keeps : (change : Change) → ChangesInside u.new_tops change → KeepsOld u stage (with_change s change)
  change_keeps change inside = record {
    in_mode = k.in_mode;
    names = each_changed (AsAtStart u (is_moved stage)) s.names change k.names (new_as u (is_moved stage) change inside);
    names_kept = k.names_kept;
    pending = waits_push_new u (is_moving stage) s.pending change k.pending inside;
    files = k.files;
    inodes = k.inodes;
  }

  still_some : (b : Bool) (bytes : List ℕ) (found : Option (List ℕ)) → is_some found ≡ true → is_some (cond b (Some bytes) found) ≡ true
  still_some true bytes found has = refl
  still_some false bytes found has = has

  pub bytes_keep : (inode : ℕ) (bytes : List ℕ) → (IsOldInode u inode → ⊥) → KeepsOld u stage (with_bytes s inode bytes)
  bytes_keep inode bytes not_old = record {
    in_mode = k.in_mode;
    names = k.names;
    names_kept = k.names_kept;
    pending = k.pending;
    files = λ i old.
        let f = k.files i old in
        let other : i ≢ inode = λ e. not_old (subst (IsOldInode u) e old) in
        record {
          clean = ap is_some (insert_other s.dirty inode tt i other) ∙ f.clean;
          now = insert_other s.bytes inode bytes i other ∙ f.now;
          kept = f.kept;
        };
    inodes = λ i has. ap is_some (get-insert nat_cmp_total s.bytes inode bytes i) ∙ still_some (eq_by_cmp nat_cmp i inode) bytes (get s.bytes i) (k.inodes i has);
  }

  pub devices_keep : (devices : Devices) → KeepsOld u stage (record s { devices = devices })
  devices_keep devices = record { in_mode = k.in_mode; names = k.names; names_kept = k.names_kept; pending = k.pending; files = k.files; inodes = k.inodes }

  -- a file of the old cluster has bytes, so what has none is another
  has_bytes : (inode : ℕ) → IsOldInode u inode → is_some (get s.bytes inode) ≡ true
  has_bytes inode old = k.inodes inode (subst (IsKnown u.start.bytes u.start.devices old.0) old.2 (ready.well_formed.names old.0))

  pub fresh : (inode : ℕ) → get s.bytes inode ≡ None → IsOldInode u inode → ⊥
  fresh inode none old = let has = has_bytes inode old in cc (has, none)

  pub keep_bytes_keeps : (inode : ℕ) → KeepsOld u stage (apply s (KeepBytes inode))
  keep_bytes_keeps inode = record {
    in_mode = k.in_mode;
    names = k.names;
    names_kept = k.names_kept;
    pending = k.pending;
    files = λ i old.
        let f = k.files i old in
        record {
          clean = ap is_some (get-remove nat_cmp_total s.dirty inode i) ∙ cleaned (eq_by_cmp nat_cmp i inode) (get s.dirty i) f.clean;
          now = f.now;
          kept =
              get-insert nat_cmp_total s.bytes_kept inode (bytes_of s.bytes inode) i
              ∙ same_number_or i inode (λ b. cond b (Some (bytes_of s.bytes inode)) (get s.bytes_kept i) ≡ get u.start.bytes i)
              (λ e. ap (λ j. Some (bytes_of s.bytes j)) (sym e) ∙ whole (get s.bytes i) (has_bytes i old) ∙ f.now) f.kept;
        };
    inodes = k.inodes;
  }

  pub keep_names_keeps : (dir : Path) → (stage ≡ Moving → dir ≢ parent u.control) → KeepsOld u stage (apply s (KeepNames dir))
  keep_names_keeps dir other = record {
    in_mode = k.in_mode;
    names = k.names;
    names_kept = subst (λ b. Each (AsAtStart u b) (apply s (KeepNames dir)).names_kept) (other_kept u stage dir other)
        (waits_names u (is_moved_kept stage) (is_moving stage && is_in dir (renaming u)) s.names_kept (filter (is_in dir) s.pending) k.names_kept (waits_filter u (is_in dir) (is_moving stage) s.pending k.pending));
    pending = subst (λ b. Waits u b (apply s (KeepNames dir)).pending) (other_waits u stage dir other)
        (waits_filter u (λ change. not (is_in dir change)) (is_moving stage) s.pending k.pending);
    files = k.files;
    inodes = k.inodes;
  }

-- the rename begins
pub rename_keeps : (u : Upgrade) (s : FsState) → KeepsOld u Whole s → u.disables ≡ true → KeepsOld u Moving (with_change s (renaming u))
rename_keeps u s k disables = record {
  in_mode = λ _. disables;
  names = renamed_as u false s.names k.names;
  names_kept = k.names_kept;
  pending = waits_push_rename u s.pending k.pending;
  files = k.files;
  inodes = k.inodes;
}

-- and comes onto the disk
pub rename_kept : (u : Upgrade) (s : FsState) → KeepsOld u Moving s → KeepsOld u Moved (apply s (KeepNames (parent u.control)))
rename_kept u s k = record {
  in_mode = k.in_mode;
  names = k.names;
  names_kept = subst (λ b. Each (AsAtStart u b) (apply s (KeepNames (parent u.control))).names_kept) (own_kept u)
      (waits_names u false (is_in (parent u.control) (renaming u)) s.names_kept (filter (is_in (parent u.control)) s.pending) k.names_kept (waits_filter u (is_in (parent u.control)) true s.pending k.pending));
  pending = subst (λ b. Waits u (not b) (apply s (KeepNames (parent u.control))).pending) (own_kept u) (waits_filter u (λ change. not (is_in (parent u.control) change)) true s.pending k.pending);
  files = k.files;
  inodes = k.inodes;
}

-- the same of the clusters' being apart
module _ (u : Upgrade) where
  pub change_apart : (names names_kept : Names) (pending : List Change) (change : Change) → EachPair (IsNoOldFile u) change → StaysApart u names names_kept pending → StaysApart u (changed names change) names_kept (pending ++ change ∷ [])
  change_apart names names_kept pending change none a = record {
    now = each_changed (IsNoOldFile u) names change a.now none;
    kept = a.kept;
    waiting = all_append (EachPair (IsNoOldFile u)) pending (change ∷ []) a.waiting (none, tt);
  }

  pub keep_names_apart : (s : FsState) (dir : Path) → StaysApart u s.names s.names_kept s.pending → StaysApart u s.names (apply s (KeepNames dir)).names_kept (apply s (KeepNames dir)).pending
  keep_names_apart s dir a = record {
    now = a.now;
    kept = each_all_changed (IsNoOldFile u) s.names_kept (filter (is_in dir) s.pending) a.kept (all_filter (EachPair (IsNoOldFile u)) (is_in dir) s.pending a.waiting);
    waiting = all_filter (EachPair (IsNoOldFile u)) (λ change. not (is_in dir change)) s.pending a.waiting;
  }

  pub nothing_apart : (path : Path) → IsNoOldFile u path None
  nothing_apart path inside inode is = absurd (cc is)

  pub dir_apart : (path : Path) → IsNoOldFile u path (Some Dir)
  dir_apart path inside inode is = absurd (cc is)

  pub file_apart : (path : Path) (inode : ℕ) → (IsOldInode u inode → ⊥) → IsNoOldFile u path (Some (File inode))
  file_apart path inode not_old inside i is old = not_old (subst (IsOldInode u) (let e : i ≡ inode = cc is in e) old)

  -- the rename is of old places alone
  pub renaming_apart : IsReady u → u.disables ≡ true → EachPair (IsNoOldFile u) (renaming u)
  renaming_apart ready disables =
      let can = ready.can_disable disables in (
        (λ inside. absurd (ready.apart u.control ready.control_old inside)),
        ((λ inside. absurd (ready.apart u.renamed can.renamed_old inside)), tt),
      )
