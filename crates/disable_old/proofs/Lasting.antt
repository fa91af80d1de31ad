-- The rename of the control file and its sync, call by call.
use Rattle.std.proofs.Common.{◌≡◌, ◌≢◌, ◌∙◌, ◌++◌, ◌∷◌, [], ◌-◌, ◌+◌, ◌<◌, ℕ, Bool, true, false, cond, List, length, take, drop, Option, Some, None, Result, Ok, Err, OnOk, refl, sym, ap, subst, arith, inl, inr, length-drop}
use Rattle.std.proofs.lemmas.List.{take-append-drop}
use Rattle.std.specs.FinMap.{get}
use Rattle.fs_model.specs.declared.node.Node.{Node}
use Rattle.fs_model.specs.declared.node.Node.TheVariants.{Dir, File}
use Rattle.fs_model.specs.declared.error.FsError.{FsError}
use Rattle.fs_model.specs.declared.error.FsError.TheVariants.{NotFound, Exists, NotDir, WrongKind, NotEmpty, CrossDevice, CrossDir, Failed, OutOfMemory}
use Rattle.fs_model.specs.Names.{Path, parent, same_path}
use Rattle.fs_model.specs.declared.effect.Effect.TheVariants.{KeepNames}
use Rattle.fs_model.specs.PathLaws.{same_path_refl}
use Rattle.std.proofs.lemmas.List.Elements.{filter-append}
use Rattle.fs_model.specs.State.{FsState, Names, Change}
use Rattle.fs_model.specs.Effects.{apply, with_change, set_name, changed, is_in}
use Rattle.fs_model.specs.Calls.{Renames, SyncsDir, refusal, blocked, blocked_from, or_else, no_dir, is_root}
use Rattle.fs_model.specs.Trail.{Trail, Steps, Goes, on, Since, DecidedBy, error_of}
use Rattle.std.specs.List.{filter}
use Rattle.std.specs.Prelude.{not}
use Rattle.fs_model.proofs.Lookups.{set_name_here, set_name_other}
use Rattle.crash_safety.specs.Tracked.{Tracked}
use Rattle.crash_safety.specs.Lacks.{Lacks}
use Rattle.crash_safety.proofs.Tracking.{goes_tracked}
use Rattle.crash_safety.proofs.Permitting.{synced_lacks}
use Rattle.fs_model.proofs.Runs.{present_after, since_then, steps_decided}
use Rattle.fs_model.proofs.Ways.{none_first}
use Rattle.fs_model.proofs.Going.{goes_one}
use Rattle.crash_safety.specs.Upgrade.{Upgrade, IsReady}
use Rattle.crash_safety.specs.Sound.{Stage, Whole, Moving, Moved, Sound, IsSound}
use Rattle.disable_old.specs.Renamed.{IsRenamed, Disables}
use Rattle.crash_safety.proofs.Renamed.{MayRename, may_rename, file_there, blocked_same, dir_on_way}
use Rattle.crash_safety.specs.Lasting.{Lasts, IsOffDisk}
use Rattle.crash_safety.proofs.Persisting.{lasts_then, rename_lasts, sync_lasts}
use Rattle.crash_safety.proofs.SoundRuns.{rename_since, sync_since, renamed_moving, synced_moved}

append-nil : (path : Path) → path ++ [] ≡ path
append-nil [] = refl
append-nil (name ∷ path) = ap (λ rest. name ∷ rest) (append-nil path)

-- the beginning of a free way is free
blocked_front : (names : Names) (done front back : Path) → blocked_from names done (front ++ back) ≡ None → blocked_from names done front ≡ None
blocked_front names done [] back free = refl
blocked_front names done (name ∷ front) back free =
    both (no_dir (get names done)) (blocked_from names (done ++ name ∷ []) (front ++ back)) (blocked_from names (done ++ name ∷ []) front) free (blocked_front names (done ++ name ∷ []) front back)
  where
    both : (a b c : Option FsError) → or_else a b ≡ None → (b ≡ None → c ≡ None) → or_else a c ≡ None
    both None b c free gives = gives free
    both (Some error) b c free gives = absurd (cc free)

-- the directory of a path whose way is free
module _ (names : Names) (path : Path) (free : blocked names path ≡ None) where
  some_name : (path : Path) → is_root path ≡ false → 0 ≢ length (drop (length path - 1) path)
  some_name [] e z = absurd (cc e)
  some_name (name ∷ rest) e z = absurd (omega (arith, length-drop {A = List ℕ}))

  whole : path ≡ parent path ++ drop (length path - 1) path
  whole = sym (take-append-drop (length path - 1) path)

  pub parent_is_dir : is_root path ≡ false → get names (parent path) ≡ Some Dir
  parent_is_dir below = dir_on_way names [] path (parent path) (drop (length path - 1) path) whole (some_name path below) free

  pub parent_way : blocked names (parent path) ≡ None
  parent_way = blocked_front names [] (parent path) (drop (length path - 1) path) (ap (blocked names) (sym whole) ∙ free)

module _ (s : FsState) (from to : Path) (may : MayRename s from to) (node : Option Node) where
  -- a directory is neither of the two names
  still_dir : (path : Path) → get s.names path ≡ Some Dir → get (changed s.names ((from, None) ∷ (to, node) ∷ [])) path ≡ Some Dir
  still_dir path dir =
      let (inode, file) = file_there (get s.names from) may.file in
      let not_to : path ≢ to = λ same. (let there : get s.names path ≡ None = ap (get s.names) same ∙ may.free in cc (there, dir)) in
      let not_from : path ≢ from = λ same. (let there : get s.names path ≡ Some (File inode) = ap (get s.names) same ∙ file in cc (there, dir)) in
      set_name_other (set_name s.names from None) to node path not_to ∙ set_name_other s.names from None path not_from ∙ dir

  still_free : (path : Path) → blocked s.names path ≡ None → blocked (changed s.names ((from, None) ∷ (to, node) ∷ [])) path ≡ None
  still_free path free =
      blocked_same (changed s.names ((from, None) ∷ (to, node) ∷ [])) s.names [] path
      (λ front back whole filled. let dir = dir_on_way s.names [] path front back whole filled free in still_dir front dir ∙ sym dir) ∙ free

  -- after the rename the directory may be put on the disk
  pub sync_free : or_else (blocked (changed s.names ((from, None) ∷ (to, node) ∷ [])) (parent from)) (no_dir (get (changed s.names ((from, None) ∷ (to, node) ∷ [])) (parent from))) ≡ None
  sync_free = λ i. or_else (still_free (parent from) (parent_way s.names from may.way) i) (no_dir (still_dir (parent from) (parent_is_dir s.names from may.way may.below_root) i))

module _ (control renamed dir : Path) (dir_is : dir ≡ parent control) (old mid : Trail) (free : refusal old.present (Renames control renamed) ≡ None) (renames : Steps (Renames control renamed) None old mid) where
  pub sync_allowed : refusal mid.present (SyncsDir dir) ≡ None
  sync_allowed =
      let (effect, _, (inode, named, is), present) = present_after (Renames control renamed) old mid renames in
      (λ i. refusal ((present ∙ ap (apply old.present) is) i) (SyncsDir (dir_is i))) ∙ sync_free old.present control renamed (may_rename old.present control renamed free) (Some (File inode))

  pub sync_decided : {T : Type 0} (result : Result T FsError) (new : Trail) → Steps (SyncsDir dir) (error_of result) mid new → DecidedBy None result
  sync_decided result new steps = subst (λ refused. DecidedBy refused result) sync_allowed (steps_decided (SyncsDir dir) result mid new steps)

pub rename_calls : (control renamed dir : Path) (old new : Trail) (answer : Option FsError) → Steps (Renames control renamed) answer old new → Goes (Disables control renamed dir) old new
rename_calls control renamed dir old new answer steps = goes_one (Disables control renamed dir) (Renames control renamed) answer old new (refl, refl) steps

pub both_calls : (control renamed dir : Path) (old mid new : Trail) (answer : Option FsError) → Steps (Renames control renamed) None old mid → Steps (SyncsDir dir) answer mid new → Goes (Disables control renamed dir) old new
both_calls control renamed dir old mid new answer renames syncs = on (rename_calls control renamed dir old mid None renames) (SyncsDir dir) answer refl syncs

pub both_renamed : (control renamed dir : Path) → dir ≡ parent control → (old mid new : Trail) → Steps (Renames control renamed) None old mid → Steps (SyncsDir dir) None mid new → IsRenamed old.present control renamed dir new.present
both_renamed control renamed dir dir_is old mid new renames syncs =
    let (effect, _, (inode, named, is), present) = present_after (Renames control renamed) old mid renames in
    let (later, _, kept, after) = present_after (SyncsDir dir) mid new syncs in
    let change : Change = (control, None) ∷ (renamed, Some (File inode)) ∷ [] in
    let first : mid.present ≡ with_change old.present change = present ∙ ap (apply old.present) is in
    let last : new.present ≡ apply mid.present (KeepNames dir) = after ∙ ap (apply mid.present) kept in
    record {
      inode = inode;
      named = named;
      names = ap (λ (s : FsState). s.names) last ∙ ap (λ (s : FsState). s.names) first;
      pending =
          ap (λ (s : FsState). s.pending) last ∙ ap (λ (s : FsState). filter (λ c. not (is_in dir c)) s.pending) first
          ∙ filter-append (λ c. not (is_in dir c)) old.present.pending (change ∷ [])
          ∙ ap (λ b. filter (λ c. not (is_in dir c)) old.present.pending ++ cond (not b) (change ∷ []) []) (ap (same_path (parent control)) dir_is ∙ same_path_refl (parent control))
          ∙ append-nil-changes (filter (λ c. not (is_in dir c)) old.present.pending);
      dirty = ap (λ (s : FsState). s.dirty) last ∙ ap (λ (s : FsState). s.dirty) first;
    }
  where
    append-nil-changes : (changes : List Change) → changes ++ [] ≡ changes
    append-nil-changes [] = refl
    append-nil-changes (c ∷ changes) = ap (λ rest. c ∷ rest) (append-nil-changes changes)

-- the same for an upgrade
module _ (u : Upgrade) (ready : IsReady u) (disables : u.disables ≡ true) (control renamed dir : Path) (dir_is : dir ≡ parent control) (is_control : u.control ≡ control) (is_renamed : u.renamed ≡ renamed) where
  renames_of : (answer : Option FsError) (old new : Trail) → Steps (Renames control renamed) answer old new → Steps (Renames u.control u.renamed) answer old new
  renames_of answer old new steps = subst (λ to. Steps (Renames u.control to) answer old new) (sym is_renamed) (subst (λ from. Steps (Renames from renamed) answer old new) (sym is_control) steps)

  syncs_of : (answer : Option FsError) (old new : Trail) → Steps (SyncsDir dir) answer old new → Steps (SyncsDir (parent u.control)) answer old new
  syncs_of answer old new steps = subst (λ d. Steps (SyncsDir d) answer old new) (dir_is ∙ ap parent (sym is_control)) steps

  pub rename_sound : (answer : Option FsError) (old new : Trail) → Sound u Whole old.present → Steps (Renames control renamed) answer old new → Since (IsSound u) old new
  rename_sound answer old new sound steps = rename_since u ready disables answer old new sound (renames_of answer old new steps)

  pub both_sound : (answer : Option FsError) (old mid new : Trail) → Sound u Whole old.present → Steps (Renames control renamed) None old mid → Steps (SyncsDir dir) answer mid new → Since (IsSound u) old new
  both_sound answer old mid new sound renames syncs =
      let first = renames_of None old mid renames in
      since_then (IsSound u) old mid new (rename_since u ready disables None old mid sound first) (sync_since u ready disables answer mid new (renamed_moving u ready disables old mid sound first) (syncs_of answer mid new syncs))

  pub both_moved : (old mid new : Trail) → Sound u Whole old.present → Steps (Renames control renamed) None old mid → Steps (SyncsDir dir) None mid new → Sound u Moved new.present
  both_moved old mid new sound renames syncs = synced_moved u ready disables mid new (renamed_moving u ready disables old mid sound (renames_of None old mid renames)) (syncs_of None mid new syncs)

  pub rename_persists : (answer : Option FsError) (old new : Trail) → Sound u Whole old.present → Steps (Renames control renamed) answer old new → Lasts (IsOffDisk u.control) old new
  rename_persists answer old new sound steps = rename_lasts u ready disables answer old new sound (renames_of answer old new steps)

  pub both_persist : (answer : Option FsError) (old mid new : Trail) → Sound u Whole old.present → Steps (Renames control renamed) None old mid → Steps (SyncsDir dir) answer mid new → Lasts (IsOffDisk u.control) old new
  both_persist answer old mid new sound renames syncs =
      let first = renames_of None old mid renames in
      lasts_then (IsOffDisk u.control) old mid new (rename_lasts u ready disables None old mid sound first) (sync_lasts u ready disables answer mid new (renamed_moving u ready disables old mid sound first) (syncs_of answer mid new syncs))

-- an error that is handed on is decided by the same refusal
pub decided_on : {T U : Type 0} (refused : Option FsError) (result : Result T FsError) (out : Result U FsError) (error : FsError) → result ≡ Err error → out ≡ Err error → DecidedBy refused result → DecidedBy refused out
decided_on {T} {U} refused result out error is out_is decided = subst (DecidedBy refused) (sym out_is) (moves error (subst (DecidedBy refused) is decided))
  where
    moves : (error : FsError) → DecidedBy {T = T} refused (Err error) → DecidedBy {T = U} refused (Err error)
    moves NotFound by = by
    moves Exists by = by
    moves NotDir by = by
    moves WrongKind by = by
    moves NotEmpty by = by
    moves CrossDevice by = by
    moves CrossDir by = by
    moves Failed by = by
    moves OutOfMemory by = by

-- no crash brings the control file back
pub both_lacks : (control renamed dir : Path) → dir ≡ parent control → (old mid new : Trail) → refusal old.present (Renames control renamed) ≡ None → Tracked old.present → Steps (Renames control renamed) None old mid → Steps (SyncsDir dir) None mid new → Lacks control new.present
both_lacks control renamed dir dir_is old mid new free tracked renames syncs =
    let (effect, _, (inode, named, is), present) = present_after (Renames control renamed) old mid renames in
    let may = may_rename old.present control renamed free in
    let differ : control ≢ renamed = λ same. (let there : get old.present.names control ≡ None = ap (get old.present.names) same ∙ may.free in cc (there, named)) in
    let middle = (goes_tracked (Disables control renamed dir) tracked (rename_calls control renamed dir old mid None renames)).present in
    let gone : get mid.present.names control ≡ None =
    ap (λ (s : FsState). get s.names control) (present ∙ ap (apply old.present) is) ∙ set_name_other (set_name old.present.names control None) renamed (Some (File inode)) control differ ∙ set_name_here old.present.names control None in
    synced_lacks control mid new middle gone (subst (λ d. Steps (SyncsDir d) None mid new) dir_is syncs)
