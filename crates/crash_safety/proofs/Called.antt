-- Each call that an upgrade may make keeps the crash invariant, whether it succeeds or fails.
use Rattle.std.proofs.Common.{◌≡◌, ◌≢◌, ◌⊎◌, inl, inr, ℕ, true, false, List, [], ◌∷◌, Option, Some, None, refl, sym, ◌∙◌, ap, subst, MatchOption}
use Rattle.std.specs.FinMap.{get}
use Rattle.fs_model.specs.declared.node.Node.TheVariants.{Dir, File, Sym}
use Rattle.fs_model.specs.declared.effect.Effect.{Effect}
use Rattle.fs_model.specs.declared.effect.Effect.TheVariants.{Nothing, Names as ChangeNames, NewFile, NewDir, Bytes, KeepBytes, KeepNames}
use Rattle.fs_model.specs.declared.error.FsError.{FsError}
use Rattle.fs_model.specs.declared.error.FsError.TheVariants.{Failed}
use Rattle.fs_model.specs.Names.{Path, parent}
use Rattle.fs_model.specs.State.{Change, FsState}
use Rattle.fs_model.specs.Effects.{apply, with_change}
use Rattle.fs_model.specs.Calls.{Call, Stats, Lists, ReadsAt, ReadsLink, Creates, WritesAt, MakesDir, MakesSymlink, Links, Renames, Unlinks, RemovesDir, SyncsFile, SyncsDir, Does, MayFail, MayDo, refusal}
use Rattle.fs_model.specs.WellFormed.{EachPair}
use Rattle.crash_safety.specs.Frame.{IsInside, ChangesInside}
use Rattle.crash_safety.specs.Upgrade.{Upgrade, renaming, IsOldInode, IsReady, CanDisable}
use Rattle.crash_safety.specs.Sound.{Stage, Whole, Moving, Moved, is_moved_kept, IsNoOldFile, Sound, IsSafeCall, HasNoOldFile}
use Rattle.crash_safety.proofs.Sounds.{change_keeps, bytes_keep, devices_keep, fresh, keep_bytes_keeps, keep_names_keeps, rename_keeps, rename_kept, change_apart, keep_names_apart, nothing_apart, dir_apart, file_apart, renaming_apart}

-- an effect that was done, or was not
pub same_effect : (P : FsState → Type 0) (s : FsState) (effect e : Effect) → effect ≡ e → P (apply s e) → P (apply s effect)
same_effect P s effect e is holds = subst (λ x. P (apply s x)) (sym is) holds

module _ (u : Upgrade) (ready : IsReady u) (stage : Stage) (s : FsState) (sound : Sound u stage s) where
  change_sound : (change : Change) → ChangesInside u.new_tops change → (is_moved_kept stage ≡ false → EachPair (IsNoOldFile u) change) → Sound u stage (with_change s change)
  change_sound change inside none = record {
    keeps = change_keeps u ready stage s sound.keeps change inside;
    apart = λ e. change_apart u s.names s.names_kept s.pending change (none e) (sound.apart e);
  }

  write_sound : (inode : ℕ) (bytes : List ℕ) → (IsOldInode u inode → ⊥) → Sound u stage (apply s (Bytes inode bytes))
  write_sound inode bytes not_old = record { keeps = bytes_keep u ready stage s sound.keeps inode bytes not_old; apart = sound.apart }

  fresh_inode : (inode : ℕ) → get s.bytes inode ≡ None → IsOldInode u inode → ⊥
  fresh_inode = fresh u ready stage s sound.keeps

  create_sound : (path : Path) (inode : ℕ) → IsInside u.new_tops path → get s.bytes inode ≡ None → Sound u stage (apply s (NewFile path inode))
  create_sound path inode inside none =
      let not_old = fresh_inode inode none in
      let change : Change = (path, Some (File inode)) ∷ [] in
      let there = change_sound change (inside, tt) (λ _. (file_apart u path inode not_old, tt)) in
      record { keeps = bytes_keep u ready stage (with_change s change) there.keeps inode [] not_old; apart = there.apart }

  make_dir_sound : (path : Path) (device : ℕ) → IsInside u.new_tops path → Sound u stage (apply s (NewDir path device))
  make_dir_sound path device inside =
      let change : Change = (path, Some Dir) ∷ [] in
      let there = change_sound change (inside, tt) (λ _. (dir_apart u path, tt)) in
      record { keeps = devices_keep u ready stage (with_change s change) there.keeps _; apart = there.apart }

  symlink_sound : (path target : Path) → IsInside u.new_tops path → Sound u stage (apply s (ChangeNames ((path, Some (Sym target)) ∷ [])))
  symlink_sound path target inside = change_sound ((path, Some (Sym target)) ∷ []) (inside, tt) (λ _. ((λ _ inode is. absurd (cc is)), tt))

  remove_sound : (path : Path) → IsInside u.new_tops path → Sound u stage (apply s (ChangeNames ((path, None) ∷ [])))
  remove_sound path inside = change_sound ((path, None) ∷ []) (inside, tt) (λ _. (nothing_apart u path, tt))

  link_sound : (from to : Path) (inode : ℕ) → get s.names from ≡ Some (File inode) → IsInside u.new_tops to → (stage ≡ Moved) ⊎ HasNoOldFile u s from → Sound u stage (apply s (ChangeNames ((to, Some (File inode)) ∷ [])))
  link_sound from to inode named inside permit =
      change_sound ((to, Some (File inode)) ∷ []) (inside, tt)
      (λ e. elim permit [ inl moved ↦ absurd (let kept : is_moved_kept stage ≡ true = ap is_moved_kept moved in cc (kept, e)) | inr none ↦ (file_apart u to inode (none inode named), tt) ])

  move_sound : (from to : Path) (inode : ℕ) → get s.names from ≡ Some (File inode) → IsInside u.new_tops from → IsInside u.new_tops to → Sound u stage (apply s (ChangeNames ((from, None) ∷ (to, Some (File inode)) ∷ [])))
  move_sound from to inode named inside inside_to =
      change_sound ((from, None) ∷ (to, Some (File inode)) ∷ []) (inside, (inside_to, tt))
      (λ e. (nothing_apart u from, (file_apart u to inode ((sound.apart e).now from inside inode named), tt)))

  sync_file_sound : (inode : ℕ) → Sound u stage (apply s (KeepBytes inode))
  sync_file_sound inode = record { keeps = keep_bytes_keeps u ready stage s sound.keeps inode; apart = sound.apart }

  sync_dir_sound : (dir : Path) → (stage ≡ Moving → dir ≢ parent u.control) → Sound u stage (apply s (KeepNames dir))
  sync_dir_sound dir other = record { keeps = keep_names_keeps u ready stage s sound.keeps dir other; apart = λ e. keep_names_apart u s dir (sound.apart e) }

  does_sound : (call : Call) (effect : Effect) → IsSafeCall u stage s call → Does s call effect → Sound u stage (apply s effect)
  does_sound (Stats path) effect safe does = same_effect (Sound u stage) s effect Nothing does sound
  does_sound (Lists path) effect safe does = same_effect (Sound u stage) s effect Nothing does sound
  does_sound (ReadsAt path) effect safe does = same_effect (Sound u stage) s effect Nothing does sound
  does_sound (ReadsLink path) effect safe does = same_effect (Sound u stage) s effect Nothing does sound
  does_sound (Creates path) effect safe (inode, none, is) = same_effect (Sound u stage) s effect _ is (create_sound path inode safe none)
  does_sound (WritesAt path from bytes) effect safe (inode, named, is) = same_effect (Sound u stage) s effect _ is (write_sound inode _ (safe inode named))
  does_sound (MakesDir path) effect safe does = same_effect (Sound u stage) s effect _ does (make_dir_sound path _ safe)
  does_sound (MakesSymlink path target) effect safe does = same_effect (Sound u stage) s effect _ does (symlink_sound path target safe)
  does_sound (Links from to) effect safe (inode, named, is) = same_effect (Sound u stage) s effect _ is (link_sound from to inode named safe.0 safe.1)
  does_sound (Renames from to) effect safe (inode, named, is) = same_effect (Sound u stage) s effect _ is (move_sound from to inode named safe.0 safe.1)
  does_sound (Unlinks path) effect safe does = same_effect (Sound u stage) s effect _ does (remove_sound path safe)
  does_sound (RemovesDir path) effect safe does = same_effect (Sound u stage) s effect _ does (remove_sound path safe)
  does_sound (SyncsFile path) effect safe (inode, named, is) = same_effect (Sound u stage) s effect _ is (sync_file_sound inode)
  does_sound (SyncsDir dir) effect safe does = same_effect (Sound u stage) s effect _ does (sync_dir_sound dir safe)

  fails_sound : (call : Call) (effect : Effect) → IsSafeCall u stage s call → MayFail s call effect → Sound u stage (apply s effect)
  fails_sound (WritesAt path from bytes) effect safe (inode, any, named, are_bytes, is) = same_effect (Sound u stage) s effect (Bytes inode any) is (write_sound inode any (safe inode named))
  fails_sound call effect safe fails = elim fails [ inl nothing ↦ same_effect (Sound u stage) s effect Nothing nothing sound | inr does ↦ does_sound call effect safe does ]

  failed_sound : (call : Call) (effect : Effect) (refused : Option FsError) → IsSafeCall u stage s call → MatchOption refused (MayFail s call effect) (λ _. effect ≡ Nothing) → Sound u stage (apply s effect)
  failed_sound call effect None safe may = fails_sound call effect safe may
  failed_sound call effect (Some error) safe may = same_effect (Sound u stage) s effect Nothing may sound

  pub call_sound : (call : Call) (answer : Option FsError) (effect : Effect) → IsSafeCall u stage s call → MayDo s call answer effect → Sound u stage (apply s effect)
  call_sound call None effect safe may = does_sound call effect safe may.1
  call_sound call (Some Failed) effect safe may = failed_sound call effect (refusal s call) safe may
  call_sound call (Some error) effect safe may = same_effect (Sound u stage) s effect Nothing may.1 sound

-- a call of which nothing but this is known: it did nothing or its effect
pub nothing_or_done : (s : FsState) (call : Call) (answer : Option FsError) (effect : Effect) → ((path : Path) (from : ℕ) (bytes : List ℕ) → call ≢ WritesAt path from bytes) → MayDo s call answer effect → (effect ≡ Nothing) ⊎ Does s call effect
nothing_or_done s call None effect plain may = inr may.1
nothing_or_done s call (Some Failed) effect plain may = failed (refusal s call) may
  where
    torn : (call : Call) → ((path : Path) (from : ℕ) (bytes : List ℕ) → call ≢ WritesAt path from bytes) → MayFail s call effect → (effect ≡ Nothing) ⊎ Does s call effect
    torn (WritesAt path from bytes) plain fails = absurd (plain path from bytes refl)
    torn call plain fails = fails

    failed : (refused : Option FsError) → MatchOption refused (MayFail s call effect) (λ _. effect ≡ Nothing) → (effect ≡ Nothing) ⊎ Does s call effect
    failed None may = torn call plain may
    failed (Some error) may = inl may
nothing_or_done s call (Some error) effect plain may = inl may.1

-- the rename of the control file, and putting it on the disk
module _ (u : Upgrade) (ready : IsReady u) (disables : u.disables ≡ true) where
  can : CanDisable u
  can = ready.can_disable disables

  -- before it the control file is the one of the start
  pub control_is : (s : FsState) → Sound u Whole s → get s.names u.control ≡ get u.start.names u.control
  control_is s sound = sound.keeps.names u.control (ready.apart u.control ready.control_old)

  rename_sound : (s : FsState) → Sound u Whole s → Sound u Moving (with_change s (renaming u))
  rename_sound s sound = record {
    keeps = rename_keeps u s sound.keeps disables;
    apart = λ e. change_apart u s.names s.names_kept s.pending (renaming u) (renaming_apart u ready disables) (sound.apart refl);
  }

  pub rename_done : (s : FsState) (effect : Effect) → Sound u Whole s → Does s (Renames u.control u.renamed) effect → Sound u Moving (apply s effect)
  rename_done s effect sound (inode, named, is) =
      same_effect (Sound u Moving) s effect _ is (subst (λ node. Sound u Moving (with_change s ((u.control, None) ∷ (u.renamed, node) ∷ []))) (sym (control_is s sound) ∙ named) (rename_sound s sound))

  pub sync_done : (s : FsState) (effect : Effect) → Sound u Moving s → Does s (SyncsDir (parent u.control)) effect → Sound u Moved (apply s effect)
  sync_done s effect sound does =
      same_effect (Sound u Moved) s effect _ does (record { keeps = rename_kept u s sound.keeps; apart = λ e. absurd (cc e) })
