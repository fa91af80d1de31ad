-- Runs of allowed calls: what each state on the way has.
use Rattle.std.proofs.Common.{◌≡◌, ◌≢◌, inl, inr, false, List, [], Option, Some, None, refl, sym, ◌∙◌, ap, subst, MatchOption}
use Rattle.std.specs.FinMap.{get}
use Rattle.fs_model.specs.declared.effect.Effect.{Effect}
use Rattle.fs_model.specs.declared.effect.Effect.TheVariants.{Nothing}
use Rattle.fs_model.specs.declared.error.FsError.{FsError}
use Rattle.fs_model.specs.declared.error.FsError.TheVariants.{Failed}
use Rattle.fs_model.specs.Names.{Path}
use Rattle.fs_model.specs.State.{FsState}
use Rattle.fs_model.specs.Effects.{apply}
use Rattle.fs_model.specs.Calls.{Call, Stats, Lists, ReadsAt, ReadsLink, Creates, WritesAt, MakesDir, MakesSymlink, Links, Renames, Unlinks, RemovesDir, SyncsFile, SyncsDir, MayDo, MayFail, Does, refusal}
use Rattle.fs_model.specs.WellFormed.{IsKnown}
use Rattle.fs_model.specs.Trail.{Trail, Goes, Since}
use Rattle.fs_model.proofs.Runs.{since_weaker}
use Rattle.fs_model.proofs.Going.{goes_then, goes_since, goes_weaker}
use Rattle.crash_safety.specs.Frame.{IsInside, IsOutside, IsMadeSince, Within, StaysWithin}
use Rattle.crash_safety.specs.Calling.{MakesWithin, KeepsWithin, Syncs, Rewrites, LinksInside}
use Rattle.crash_safety.specs.Upgrade.{Upgrade, IsReady}
use Rattle.crash_safety.specs.Sound.{Stage, Moving, Moved, is_moved_kept, Sound, IsSafeCall, HasNoOldFile}
use Rattle.crash_safety.specs.Lacks.{Lacks, MakesNone}
use Rattle.crash_safety.proofs.Keeping.{call_within, within_start, inside_differs, none_before}
use Rattle.crash_safety.proofs.Called.{call_sound}
use Rattle.crash_safety.proofs.Lacking.{call_lacks}

pub goes_within : (tops : List Path) (a b : Trail) → Goes (StaysWithin tops a.present) a b → Since (Within tops a.present) a b
goes_within tops a b goes =
    goes_since (StaysWithin tops a.present) (Within tops a.present)
    (λ s call answer effect within allowed may. call_within tops a.present s within call answer effect allowed may) (within_start tops a.present) goes

-- names outside are not made
module _ (tops : List Path) (gone : Path) (outside : IsOutside tops gone) (a : FsState) where
  differs : (path : Path) → IsInside tops path → path ≢ gone
  differs path inside = inside_differs tops gone outside path inside

  makes_none : (s : FsState) (call : Call) → StaysWithin tops a s call → MakesNone gone call
  makes_none s (Stats path) allowed = tt
  makes_none s (Lists path) allowed = tt
  makes_none s (ReadsAt path) allowed = tt
  makes_none s (ReadsLink path) allowed = tt
  makes_none s (Creates path) allowed = differs path allowed
  makes_none s (WritesAt path from bytes) allowed = tt
  makes_none s (MakesDir path) allowed = differs path allowed
  makes_none s (MakesSymlink path target) allowed = differs path allowed
  makes_none s (Links from to) allowed = differs to allowed
  makes_none s (Renames from to) allowed = differs to allowed.1
  makes_none s (Unlinks path) allowed = tt
  makes_none s (RemovesDir path) allowed = tt
  makes_none s (SyncsFile path) allowed = tt
  makes_none s (SyncsDir path) allowed = tt

pub goes_lacks : (tops : List Path) (gone : Path) → IsOutside tops gone → (a b : Trail) → Lacks gone a.present → Goes (StaysWithin tops a.present) a b → Since (Lacks gone) a b
goes_lacks tops gone outside a b lacks goes =
    goes_since (StaysWithin tops a.present) (Lacks gone)
    (λ s call answer effect here allowed may. call_lacks gone s here call answer effect (makes_none tops gone outside a.present s call allowed) may) lacks goes

-- such a run keeps an upgrade sound
module _ (u : Upgrade) (ready : IsReady u) (stage : Stage) (tops : List Path) (inside : (path : Path) → IsInside tops path → IsInside u.new_tops path) (still : stage ≡ Moving → ⊥) where
  -- a new file is none of the old cluster
  made_no_old : (a s : FsState) (path : Path) → Sound u stage a → IsMadeSince a s path → HasNoOldFile u s path
  made_no_old a s path sound made inode named old =
      let has = sound.keeps.inodes inode (subst (IsKnown u.start.bytes u.start.devices old.0) old.2 (ready.well_formed.names old.0)) in
      let none = made inode named in
      cc (has, none)

  safe_call : (a s : FsState) (call : Call) → Sound u stage a → MakesWithin tops a s call → IsSafeCall u stage s call
  safe_call a s (Stats path) sound allowed = tt
  safe_call a s (Lists path) sound allowed = tt
  safe_call a s (ReadsAt path) sound allowed = tt
  safe_call a s (ReadsLink path) sound allowed = tt
  safe_call a s (Creates path) sound allowed = inside path allowed.0
  safe_call a s (WritesAt path from bytes) sound allowed = made_no_old a s path sound allowed.0
  safe_call a s (MakesDir path) sound allowed = inside path allowed.0
  safe_call a s (MakesSymlink path target) sound allowed = inside path allowed.0
  safe_call a s (Links from to) sound allowed = absurd allowed.1
  safe_call a s (Renames from to) sound allowed = (inside from allowed.0.0, inside to allowed.0.1)
  safe_call a s (Unlinks path) sound allowed = inside path allowed.0
  safe_call a s (RemovesDir path) sound allowed = absurd allowed.1
  safe_call a s (SyncsFile path) sound allowed = tt
  safe_call a s (SyncsDir path) sound allowed = λ moving. absurd (still moving)

  pub goes_sound : (a b : Trail) → Sound u stage a.present → Goes (MakesWithin tops a.present) a b → Since (Sound u stage) a b
  goes_sound a b sound goes =
      goes_since (MakesWithin tops a.present) (Sound u stage)
      (λ s call answer effect here allowed may. call_sound u ready stage s here call answer effect (safe_call a.present s call sound allowed) may) sound goes

-- a run that only puts things on the disk is one within no directory at all
pub syncs_within : (s t : FsState) (call : Call) → Syncs t call → MakesWithin [] s t call
syncs_within s t (Stats path) syncs = (tt, tt)
syncs_within s t (Lists path) syncs = (tt, tt)
syncs_within s t (ReadsAt path) syncs = (tt, tt)
syncs_within s t (ReadsLink path) syncs = (tt, tt)
syncs_within s t (SyncsFile path) syncs = (tt, tt)
syncs_within s t (SyncsDir path) syncs = (tt, tt)
syncs_within s t call syncs = absurd syncs

-- a run of safe calls
pub safe_run : (u : Upgrade) → IsReady u → (stage : Stage) (a b : Trail) → Sound u stage a.present → Goes (IsSafeCall u stage) a b → Since (Sound u stage) a b
safe_run u ready stage a b sound goes = goes_since (IsSafeCall u stage) (Sound u stage) (λ s call answer effect here allowed may. call_sound u ready stage s here call answer effect allowed may) sound goes

-- the new cluster's control file is none of the old one's files, until the rename is on the disk
pub control_apart : (u : Upgrade) → IsReady u → (stage : Stage) (s : FsState) → is_moved_kept stage ≡ false → Sound u stage s → HasNoOldFile u s u.new_control
control_apart u ready stage s before sound = (sound.apart before).now u.new_control ready.control_new

-- once the rename is on the disk, files may get second names in the new cluster
pub links_sound : (u : Upgrade) → IsReady u → (tops : List Path) → ((path : Path) → IsInside tops path → IsInside u.new_tops path) → (a b : Trail) → Sound u Moved a.present → Goes (LinksInside tops) a b → Since (Sound u Moved) a b
links_sound u ready tops inside a b sound goes =
    goes_since (LinksInside tops) (Sound u Moved) (λ s call answer effect here allowed may. call_sound u ready Moved s here call answer effect (safe_link s call allowed) may) sound goes
  where
    safe_link : (s : FsState) (call : Call) → LinksInside tops s call → IsSafeCall u Moved s call
    safe_link s (Stats path) allowed = tt
    safe_link s (Lists path) allowed = tt
    safe_link s (ReadsAt path) allowed = tt
    safe_link s (ReadsLink path) allowed = tt
    safe_link s (Links from to) allowed = (inside to allowed, inl refl)
    safe_link s (Unlinks path) allowed = inside path allowed
    safe_link s call allowed = absurd allowed

-- a file of the new cluster that is none of the old one may be written to
pub rewrites_sound : (u : Upgrade) → IsReady u → (stage : Stage) (at : Path) (a b : Trail) → Sound u stage a.present → HasNoOldFile u a.present at → Goes (Rewrites at) a b → Since (Sound u stage) a b
rewrites_sound u ready stage at a b sound apart goes =
    since_weaker (λ s. Sound u stage s × (s.names ≡ a.present.names)) (Sound u stage) (λ s both. both.0) a b
    (goes_since (Rewrites at) (λ s. Sound u stage s × (s.names ≡ a.present.names)) (λ s call answer effect here allowed may. step s call answer effect here.0 here.1 allowed may) (sound, refl) goes)
  where
    safe_write : (s : FsState) (call : Call) → s.names ≡ a.present.names → Rewrites at s call → IsSafeCall u stage s call
    safe_write s (Stats path) same allowed = tt
    safe_write s (Lists path) same allowed = tt
    safe_write s (ReadsAt path) same allowed = tt
    safe_write s (ReadsLink path) same allowed = tt
    safe_write s (SyncsFile path) same allowed = tt
    safe_write s (WritesAt path from bytes) same allowed = λ inode named. apart inode ((λ i. get (sym same i) (sym allowed i)) ∙ named)
    safe_write s call same allowed = absurd allowed

    same_names : (s : FsState) (call : Call) (effect : Effect) → Rewrites at s call → Does s call effect → (apply s effect).names ≡ s.names
    same_names s (Stats path) effect allowed does = ap (λ (e : Effect). (apply s e).names) does
    same_names s (Lists path) effect allowed does = ap (λ (e : Effect). (apply s e).names) does
    same_names s (ReadsAt path) effect allowed does = ap (λ (e : Effect). (apply s e).names) does
    same_names s (ReadsLink path) effect allowed does = ap (λ (e : Effect). (apply s e).names) does
    same_names s (SyncsFile path) effect allowed (inode, named, is) = ap (λ (e : Effect). (apply s e).names) is
    same_names s (WritesAt path from bytes) effect allowed (inode, named, is) = ap (λ (e : Effect). (apply s e).names) is
    same_names s call effect allowed does = absurd allowed

    failed_names : (s : FsState) (call : Call) (effect : Effect) → Rewrites at s call → MayFail s call effect → (apply s effect).names ≡ s.names
    failed_names s (WritesAt path from bytes) effect allowed (inode, any, named, are_bytes, is) = ap (λ (e : Effect). (apply s e).names) is
    failed_names s call effect allowed fails = elim fails [ inl nothing ↦ ap (λ (e : Effect). (apply s e).names) nothing | inr does ↦ same_names s call effect allowed does ]

    refused_names : (s : FsState) (call : Call) (effect : Effect) (refused : Option FsError) → Rewrites at s call → MatchOption refused (MayFail s call effect) (λ _. effect ≡ Nothing) → (apply s effect).names ≡ s.names
    refused_names s call effect None allowed may = failed_names s call effect allowed may
    refused_names s call effect (Some error) allowed may = ap (λ (e : Effect). (apply s e).names) may

    names_stay : (s : FsState) (call : Call) (answer : Option FsError) (effect : Effect) → Rewrites at s call → MayDo s call answer effect → (apply s effect).names ≡ s.names
    names_stay s call None effect allowed may = same_names s call effect allowed may.1
    names_stay s call (Some Failed) effect allowed may = refused_names s call effect (refusal s call) allowed may
    names_stay s call (Some error) effect allowed may = ap (λ (e : Effect). (apply s e).names) may.1

    step : (s : FsState) (call : Call) (answer : Option FsError) (effect : Effect) → Sound u stage s → s.names ≡ a.present.names → Rewrites at s call → MayDo s call answer effect → Sound u stage (apply s effect) × ((apply s effect).names ≡ a.present.names)
    step s call answer effect here same allowed may = (call_sound u ready stage s here call answer effect (safe_write s call same allowed) may, names_stay s call answer effect allowed may ∙ same)

-- two runs after each other, of which the second speaks of its own beginning
module _ (tops inner : List Path) (inside : (path : Path) → IsInside inner path → IsInside tops path) where
  made_before : (a b s : FsState) (path : Path) → Within tops a b → IsMadeSince b s path → IsMadeSince a s path
  made_before a b s path within made inode named = none_before tops a b within inode (made inode named)

  rebased : (a b s : FsState) (call : Call) → Within tops a b → MakesWithin inner b s call → MakesWithin tops a s call
  rebased a b s (Stats path) within allowed = (tt, tt)
  rebased a b s (Lists path) within allowed = (tt, tt)
  rebased a b s (ReadsAt path) within allowed = (tt, tt)
  rebased a b s (ReadsLink path) within allowed = (tt, tt)
  rebased a b s (Creates path) within allowed = (inside path allowed.0, tt)
  rebased a b s (WritesAt path from bytes) within allowed = (made_before a b s path within allowed.0, tt)
  rebased a b s (MakesDir path) within allowed = (inside path allowed.0, tt)
  rebased a b s (MakesSymlink path target) within allowed = (inside path allowed.0, tt)
  rebased a b s (Links from to) within allowed = absurd allowed.1
  rebased a b s (Renames from to) within allowed = ((inside from allowed.0.0, inside to allowed.0.1), tt)
  rebased a b s (Unlinks path) within allowed = (inside path allowed.0, tt)
  rebased a b s (RemovesDir path) within allowed = absurd allowed.1
  rebased a b s (SyncsFile path) within allowed = (tt, tt)
  rebased a b s (SyncsDir path) within allowed = (tt, tt)

  pub goes_joined : (a b c : Trail) → Goes (MakesWithin tops a.present) a b → Goes (MakesWithin inner b.present) b c → Goes (MakesWithin tops a.present) a c
  goes_joined a b c front back =
      let within = (goes_within tops a b (goes_weaker (MakesWithin tops a.present) (StaysWithin tops a.present) (λ s call allowed. allowed.0) front)).present in
      goes_then (MakesWithin tops a.present) front (goes_weaker (MakesWithin inner b.present) (MakesWithin tops a.present) (λ s call allowed. rebased a.present b.present s call within allowed) back)

-- what makes names within keeps within and removes no directory, and so does what links there
pub makes_keeps : (tops : List Path) (a s : FsState) (call : Call) → MakesWithin tops a s call → KeepsWithin tops a s call
makes_keeps tops a s (RemovesDir path) allowed = absurd allowed.1
makes_keeps tops a s (Links from to) allowed = absurd allowed.1
makes_keeps tops a s call allowed = (allowed.0, tt)

pub links_keeps : (tops : List Path) (a s : FsState) (call : Call) → LinksInside tops s call → KeepsWithin tops a s call
links_keeps tops a s (Stats path) allowed = (tt, tt)
links_keeps tops a s (Lists path) allowed = (tt, tt)
links_keeps tops a s (ReadsAt path) allowed = (tt, tt)
links_keeps tops a s (ReadsLink path) allowed = (tt, tt)
links_keeps tops a s (Links from to) allowed = (allowed, tt)
links_keeps tops a s (Unlinks path) allowed = (allowed, tt)
links_keeps tops a s call allowed = absurd allowed
