-- What syncs leave, one after another.
use Rattle.std.proofs.Common.{◌≡◌, inl, inr, ◌∙◌, ℕ, Bool, true, false, not, cond, List, [], ◌∷◌, Option, Some, None, Result, Ok, Err, OnOk, refl, sym, ap, subst, MatchOption}
use Rattle.std.proofs.Common.{◌≤◌, ◌<◌, ◌+◌, ◌++◌, length, take, get_or, map, append_assoc}
use Rattle.std.proofs.lemmas.List.{take_all}
use Rattle.std.specs.Prelude.{is_some}
use Rattle.std.specs.List.{AllByRecursion, filter}
use Rattle.std.specs.Ordering.{nat_cmp, eq_by_cmp, is_eq}
use Rattle.std.specs.Cmp.{tied_itself, nat_cmp_total}
use Rattle.std.specs.FinMap.{FinMap, get, contains_key, remove, get-remove}
use Rattle.fs_model.specs.declared.node.Node.TheVariants.{Dir, File}
use Rattle.fs_model.specs.declared.effect.Effect.{Effect}
use Rattle.fs_model.specs.declared.effect.Effect.TheVariants.{Nothing, KeepBytes, KeepNames}
use Rattle.fs_model.specs.declared.error.FsError.{FsError}
use Rattle.fs_model.specs.declared.error.FsError.TheVariants.{Failed}
use Rattle.fs_model.specs.Names.{Path, IsUnder}
use Rattle.fs_model.specs.State.{FsState, Change}
use Rattle.fs_model.specs.Effects.{apply, is_in}
use Rattle.fs_model.specs.WellFormed.{IsTree}
use Rattle.fs_model.specs.Calls.{Lists, blocked, or_else, missing, no_dir, Call, Stats, ReadsAt, ReadsLink, SyncsFile, SyncsDir, MayDo, MayFail, Does, refusal}
use Rattle.fs_model.specs.Trail.{Trail, Steps, Goes, Since, error_of}
use Rattle.fs_model.proofs.Going.{goes_since, goes_then, goes_weaker}
use Rattle.fs_model.proofs.Runs.{present_after, all_append, all_weaker}
use Rattle.crash_safety.specs.Calling.{Syncs}
use Rattle.fs_tools.specs.Children.{child_of, paths_in, IsIn}
use Rattle.fs_tools.specs.Walked.{IsAmong}
use Rattle.fs_tools.proofs.Making.{append-nil}
use Rattle.fs_tools.proofs.Naming.{among_all, path_among}
use Rattle.fs_tools.proofs.Walking.{taken_next}
use Rattle.fs_tools.specs.TreeSync.{SyncsFiles, SyncsDirs, SyncsTree, IsCleanAt, IsQuiet, OnlySyncs}

-- these calls are ones that only read or put on the disk
pub files_sync : (top : Path) (s : FsState) (call : Call) → SyncsFiles top s call → Syncs s call
files_sync top s (Stats path) allowed = tt
files_sync top s (Lists path) allowed = tt
files_sync top s (SyncsFile path) allowed = tt
files_sync top s call allowed = absurd allowed

pub dirs_sync : (top : Path) (s : FsState) (call : Call) → SyncsDirs top s call → Syncs s call
dirs_sync top s (SyncsDir path) allowed = tt
dirs_sync top s call allowed = absurd allowed

-- what an effect of such a call keeps
module _ (P : FsState → Type 0) (s : FsState) (here : P s) (bytes : (inode : ℕ) → P (apply s (KeepBytes inode))) (names : (dir : Path) → P (apply s (KeepNames dir))) where
  done : (call : Call) (effect : Effect) → Syncs s call → Does s call effect → P (apply s effect)
  done (Stats path) effect syncs does = subst (λ e. P (apply s e)) (sym does) here
  done (Lists path) effect syncs does = subst (λ e. P (apply s e)) (sym does) here
  done (ReadsAt path) effect syncs does = subst (λ e. P (apply s e)) (sym does) here
  done (ReadsLink path) effect syncs does = subst (λ e. P (apply s e)) (sym does) here
  done (SyncsFile path) effect syncs (inode, named, is) = subst (λ e. P (apply s e)) (sym is) (bytes inode)
  done (SyncsDir path) effect syncs does = subst (λ e. P (apply s e)) (sym does) (names path)
  done call effect syncs does = absurd syncs

  failed : (call : Call) (effect : Effect) → Syncs s call → MayFail s call effect → P (apply s effect)
  failed (Stats path) effect syncs fails = elim fails [ inl nothing ↦ subst (λ e. P (apply s e)) (sym nothing) here | inr does ↦ done (Stats path) effect syncs does ]
  failed (Lists path) effect syncs fails = elim fails [ inl nothing ↦ subst (λ e. P (apply s e)) (sym nothing) here | inr does ↦ done (Lists path) effect syncs does ]
  failed (ReadsAt path) effect syncs fails = elim fails [ inl nothing ↦ subst (λ e. P (apply s e)) (sym nothing) here | inr does ↦ done (ReadsAt path) effect syncs does ]
  failed (ReadsLink path) effect syncs fails = elim fails [ inl nothing ↦ subst (λ e. P (apply s e)) (sym nothing) here | inr does ↦ done (ReadsLink path) effect syncs does ]
  failed (SyncsFile path) effect syncs fails = elim fails [ inl nothing ↦ subst (λ e. P (apply s e)) (sym nothing) here | inr does ↦ done (SyncsFile path) effect syncs does ]
  failed (SyncsDir path) effect syncs fails = elim fails [ inl nothing ↦ subst (λ e. P (apply s e)) (sym nothing) here | inr does ↦ done (SyncsDir path) effect syncs does ]
  failed call effect syncs fails = absurd syncs

  refused_or : (call : Call) (effect : Effect) (refused : Option FsError) → Syncs s call → MatchOption refused (MayFail s call effect) (λ _. effect ≡ Nothing) → P (apply s effect)
  refused_or call effect None syncs may = failed call effect syncs may
  refused_or call effect (Some error) syncs may = subst (λ e. P (apply s e)) (sym may) here

  sync_kept : (call : Call) (answer : Option FsError) (effect : Effect) → Syncs s call → MayDo s call answer effect → P (apply s effect)
  sync_kept call None effect syncs may = done call effect syncs may.1
  sync_kept call (Some Failed) effect syncs may = refused_or call effect (refusal s call) syncs may
  sync_kept call (Some error) effect syncs may = subst (λ e. P (apply s e)) (sym may.1) here

removed_clean : (dirty : FinMap nat_cmp (Unit {0})) (inode i : ℕ) → contains_key dirty i ≡ false → contains_key (remove dirty inode) i ≡ false
removed_clean dirty inode i clean =
    ap is_some (get-remove nat_cmp_total dirty inode i)
    ∙ elim (eq_by_cmp nat_cmp i inode) as (λ b. is_some (cond b None (get dirty i)) ≡ false) [ true ↦ refl | false ↦ clean ]

removed_itself : (dirty : FinMap nat_cmp (Unit {0})) (inode : ℕ) → contains_key (remove dirty inode) inode ≡ false
removed_itself dirty inode =
    ap is_some (get-remove nat_cmp_total dirty inode inode) ∙ ap (λ r. is_some (cond (is_eq r) None (get dirty inode))) (tied_itself nat_cmp_total inode)

pub filter_keeps : (P : Change → Type 0) (test : Change → Bool) (changes : List Change) → AllByRecursion P changes → AllByRecursion P (filter test changes)
filter_keeps P test [] all = tt
filter_keeps P test (change ∷ changes) all =
    elim (test change) as (λ b. AllByRecursion P (cond b (change ∷ filter test changes) (filter test changes))) [ true ↦ (all.0, filter_keeps P test changes all.1) | false ↦ filter_keeps P test changes all.1 ]

filter_quiet : (dir : Path) (changes : List Change) → IsQuiet dir (filter (λ change. not (is_in dir change)) changes)
filter_quiet dir [] = tt
filter_quiet dir (change ∷ changes) =
    elim (is_in dir change) as (λ b. is_in dir change ≡ b → IsQuiet dir (cond (not b) (change ∷ filter (λ change. not (is_in dir change)) changes) (filter (λ change. not (is_in dir change)) changes))) [
      | true ↦ λ _. filter_quiet dir changes
      | false ↦ λ e. (e, filter_quiet dir changes)
    ] refl

only_syncs_start : (a : FsState) → OnlySyncs a a
only_syncs_start a = record { names = refl; bytes = refl; devices = refl; clean = λ _ clean. clean; quiet = λ _ quiet. quiet }

only_syncs_step : (a s : FsState) (call : Call) (answer : Option FsError) (effect : Effect) → OnlySyncs a s → Syncs s call → MayDo s call answer effect → OnlySyncs a (apply s effect)
only_syncs_step a s call answer effect here syncs may =
    sync_kept (OnlySyncs a) s here
    (λ inode. record { names = here.names; bytes = here.bytes; devices = here.devices; clean = λ i clean. removed_clean s.dirty inode i (here.clean i clean); quiet = here.quiet })
    (λ dir. record {
      names = here.names;
      bytes = here.bytes;
      devices = here.devices;
      clean = here.clean;
      quiet = λ other quiet. filter_keeps (λ change. is_in other change ≡ false) (λ change. not (is_in dir change)) s.pending (here.quiet other quiet);
    })
    call answer effect syncs may

pub only_syncs : (a b : Trail) → Goes Syncs a b → Since (OnlySyncs a.present) a b
only_syncs a b goes = goes_since Syncs (OnlySyncs a.present) (λ s call answer effect here allowed may. only_syncs_step a.present s call answer effect here allowed may) (only_syncs_start a.present) goes

pub file_syncs : (top : Path) (a b : Trail) → Goes (SyncsFiles top) a b → OnlySyncs a.present b.present
file_syncs top a b goes = (only_syncs a b (goes_weaker (SyncsFiles top) Syncs (files_sync top) goes)).present

pub dir_syncs : (top : Path) (a b : Trail) → Goes (SyncsDirs top) a b → OnlySyncs a.present b.present
dir_syncs top a b goes = (only_syncs a b (goes_weaker (SyncsDirs top) Syncs (dirs_sync top) goes)).present

-- a file that was synced is clean, and stays so
pub file_clean : (path : Path) (old new : Trail) → Steps (SyncsFile path) None old new → IsCleanAt path new.present
file_clean path old new steps inode named =
    let (effect, free, (kept, is_named, is), present) = present_after (SyncsFile path) old new steps in
    let whole : new.present ≡ apply old.present (KeepBytes kept) = present ∙ ap (apply old.present) is in
    let here : get old.present.names path ≡ Some (File inode) = sym (ap (λ s. get s.names path) whole) ∙ named in
    let same : inode ≡ kept = (let e = sym here ∙ is_named in cc) in
    ap (λ s. contains_key s.dirty inode) whole ∙ ap (λ i. contains_key (remove old.present.dirty kept) i) same ∙ removed_itself old.present.dirty kept

pub ok_clean : {T : Type 0} (result : Result T FsError) (path : Path) (old new : Trail) → Steps (SyncsFile path) (error_of result) old new → OnOk result (IsCleanAt path new.present)
ok_clean (Ok value) path old new steps = file_clean path old new steps
ok_clean (Err error) path old new steps = tt

pub clean_stays : (path : Path) (a b : FsState) → OnlySyncs a b → IsCleanAt path a → IsCleanAt path b
clean_stays path a b syncs clean inode named = syncs.clean inode (clean inode (ap (λ m. get m path) (sym syncs.names) ∙ named))

pub dir_quiet : (dir : Path) (old new : Trail) → Steps (SyncsDir dir) None old new → IsQuiet dir new.present.pending
dir_quiet dir old new steps =
    let (effect, free, is, present) = present_after (SyncsDir dir) old new steps in
    subst (λ s. IsQuiet dir s.pending) (sym (present ∙ ap (apply old.present) is)) (filter_quiet dir old.present.pending)

-- places under a path
pub under_itself : (path : Path) → IsUnder path path
under_itself path = ([], sym (append-nil path))

pub all_under_root : (paths : List Path) → AllByRecursion (IsUnder []) paths
all_under_root [] = tt
all_under_root (path ∷ paths) = ((path, refl), all_under_root paths)

pub under_deeper : (top dir path : Path) → IsUnder top dir → IsIn dir path → IsUnder top path
under_deeper top dir path (rest, below) (name, is) = (rest ++ name ∷ [], is ∙ ap (λ d. child_of d name) below ∙ append_assoc top rest (name ∷ []))

pub children_in : (dir : Path) (names : List (List ℕ)) → AllByRecursion (IsIn dir) (map (child_of dir) names)
children_in dir [] = tt
children_in dir (name ∷ names) = ((name, refl), children_in dir names)

-- what holds of the paths so far, with the next one
pub grown_by : (P Q : Path → Type 0) (paths : List Path) (i : ℕ) (path : Path) → i < length paths → path ≡ get_or paths i path → ((p : Path) → P p → Q p) → AllByRecursion P (take i paths) → Q path → AllByRecursion Q (take (i + 1) paths)
grown_by P Q paths i path below is stays front here =
    subst (AllByRecursion Q) (sym (taken_next paths i path below is)) (all_append Q (take i paths) (path ∷ []) (all_weaker P Q stays (take i paths) front) (here, tt))

pub whole_of : (P : Path → Type 0) (paths : List Path) (i : ℕ) → length paths ≤ i → AllByRecursion P (take i paths) → AllByRecursion P paths
whole_of P paths i all front = subst (AllByRecursion P) (take_all i paths all) front

-- refusals depend on the names alone
pub stat_still : (a b : FsState) (path : Path) → b.names ≡ a.names → refusal a (Stats path) ≡ None → refusal b (Stats path) ≡ None
stat_still a b path same free = ap (λ names. or_else (blocked names path) (missing (get names path))) same ∙ free

pub dir_still : (a b : FsState) (path : Path) → b.names ≡ a.names → refusal a (SyncsDir path) ≡ None → refusal b (SyncsDir path) ≡ None
dir_still a b path same free = ap (λ names. or_else (blocked names path) (no_dir (get names path))) same ∙ free

-- in a tree a directory that stands may be listed and put on the disk
pub dir_free : (s : FsState) (path : Path) → IsTree s.names → get s.names path ≡ Some Dir → (refusal s (Lists path) ≡ None) × (refusal s (SyncsDir path) ≡ None)
dir_free s path tree is = (λ i. or_else (tree path (ap is_some is) i) (no_dir (is i)), λ i. or_else (tree path (ap is_some is) i) (no_dir (is i)))

-- where each name of a directory was put on the disk, its files are clean
pub dir_clean : (a b : FsState) (dir : Path) (paths : List Path) → paths ≡ paths_in a.names dir → b.names ≡ a.names → AllByRecursion (λ path. IsCleanAt path b) paths → (path : Path) → IsIn dir path → IsCleanAt path b
dir_clean a b dir paths names same clean path (name, is) inode named =
    let stands : is_some (get a.names (child_of dir name)) ≡ true = ap is_some (ap (get a.names) (sym is) ∙ ap (λ m. get m path) (sym same) ∙ named) in
    among_all (λ p. IsCleanAt p b) paths clean path (subst (IsAmong paths) (sym is) (subst (λ l. IsAmong l (child_of dir name)) (sym names) (path_among a.names dir name stands))) inode named

pub all_under : (top : Path) (s : FsState) (dirs : List Path) → AllByRecursion (λ dir. IsUnder top dir × (get s.names dir ≡ Some Dir)) dirs → AllByRecursion (IsUnder top) dirs
all_under top s dirs each = all_weaker (λ dir. IsUnder top dir × (get s.names dir ≡ Some Dir)) (IsUnder top) (λ dir both. both.0) dirs each

-- directories that stood stand still
pub all_stand : (top : Path) (s t : FsState) (dirs : List Path) → t.names ≡ s.names → AllByRecursion (λ dir. IsUnder top dir × (get s.names dir ≡ Some Dir)) dirs → AllByRecursion (λ dir. get t.names dir ≡ Some Dir) dirs
all_stand top s t dirs same each =
    all_weaker (λ dir. IsUnder top dir × (get s.names dir ≡ Some Dir)) (λ dir. get t.names dir ≡ Some Dir) (λ dir both. ap (λ m. get m dir) same ∙ both.1) dirs each

pub all_free : (top : Path) (s t : FsState) (dirs : List Path) → IsTree s.names → t.names ≡ s.names → AllByRecursion (λ dir. IsUnder top dir × (get s.names dir ≡ Some Dir)) dirs → AllByRecursion (λ dir. refusal t (SyncsDir dir) ≡ None) dirs
all_free top s t dirs tree same each =
    all_weaker (λ dir. IsUnder top dir × (get s.names dir ≡ Some Dir)) (λ dir. refusal t (SyncsDir dir) ≡ None) (λ dir both. dir_still s t dir same (dir_free s dir tree both.1).1) dirs each

-- what the sync of a tree leaves in every state on the way
pub tree_syncs : (top : Path) (a b : Trail) → SyncsTree top a b → Since (OnlySyncs a.present) a b
tree_syncs top a b (mid, files, dirs) = only_syncs a b (goes_then Syncs (goes_weaker (SyncsFiles top) Syncs (files_sync top) files) (goes_weaker (SyncsDirs top) Syncs (dirs_sync top) dirs))
