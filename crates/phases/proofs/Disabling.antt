-- Disabling the old cluster, as a phase does it.
use Rattle.std.proofs.Common.{◌≡◌, ◌∙◌, inl, inr, true, Option, Some, None, Err, refl, sym, ap, subst, MatchOption}
use Rattle.fs_model.specs.declared.effect.Effect.{Effect}
use Rattle.fs_model.specs.declared.effect.Effect.TheVariants.{Nothing, KeepNames}
use Rattle.fs_model.specs.declared.error.FsError.{FsError}
use Rattle.fs_model.specs.declared.error.FsError.TheVariants.{NotFound, Exists, NotDir, WrongKind, NotEmpty, CrossDevice, CrossDir, Failed, OutOfMemory}
use Rattle.fs_model.specs.Names.{Path}
use Rattle.fs_model.specs.State.{FsState, Contents}
use Rattle.fs_model.specs.Effects.{apply}
use Rattle.fs_model.specs.Calls.{Call, Renames, SyncsDir, Does, MayFail, MayDo, refusal}
use Rattle.fs_model.specs.Trail.{Trail, Goes, DecidedBy}
use Rattle.fs_model.proofs.Going.{goes_since}
use Rattle.control_file.specs.declared.job.Job.{Job}
use Rattle.control_file.specs.declared.modes.Mode.TheVariants.{Link}
use Rattle.crash_safety.specs.Upgrade.{Upgrade}
use Rattle.disable_old.specs.Renamed.{Disables, IsRenamed}
use Rattle.phase_facts.specs.Places.{disables}
use Rattle.phase_facts.specs.Disabling.{ForEachUpgrade}
use Rattle.phases.specs.Faults.{files_fault, IsNoChange}

-- ---- no file is written to

module _ (control renamed dir : Path) (start : Contents) where
  at_effect : (s : FsState) (effect e : Effect) → effect ≡ e → (apply s e).bytes ≡ start → (apply s effect).bytes ≡ start
  at_effect s effect e is has = ap (λ f. (apply s f).bytes) is ∙ has

  does_keep : (s : FsState) (call : Call) (effect : Effect) → s.bytes ≡ start → Disables control renamed dir s call → Does s call effect → (apply s effect).bytes ≡ start
  does_keep s (Renames from to) effect has allowed (inode, named, is) = at_effect s effect _ is has
  does_keep s (SyncsDir path) effect has allowed does = at_effect s effect (KeepNames path) does has
  does_keep s call effect has allowed does = absurd allowed

  fails_keep : (s : FsState) (call : Call) (effect : Effect) → s.bytes ≡ start → Disables control renamed dir s call → MayFail s call effect → (apply s effect).bytes ≡ start
  fails_keep s (Renames from to) effect has allowed fails = elim fails [ inl nothing ↦ at_effect s effect Nothing nothing has | inr does ↦ does_keep s (Renames from to) effect has allowed does ]
  fails_keep s (SyncsDir path) effect has allowed fails = elim fails [ inl nothing ↦ at_effect s effect Nothing nothing has | inr does ↦ does_keep s (SyncsDir path) effect has allowed does ]
  fails_keep s call effect has allowed fails = absurd allowed

  failed_keep : (s : FsState) (call : Call) (effect : Effect) (refused : Option FsError) → s.bytes ≡ start → Disables control renamed dir s call → MatchOption refused (MayFail s call effect) (λ _. effect ≡ Nothing) → (apply s effect).bytes ≡ start
  failed_keep s call effect None has allowed may = fails_keep s call effect has allowed may
  failed_keep s call effect (Some error) has allowed may = at_effect s effect Nothing may has

  call_keeps : (s : FsState) (call : Call) (answer : Option FsError) (effect : Effect) → s.bytes ≡ start → Disables control renamed dir s call → MayDo s call answer effect → (apply s effect).bytes ≡ start
  call_keeps s call None effect has allowed may = does_keep s call effect has allowed may.1
  call_keeps s call (Some Failed) effect has allowed may = failed_keep s call effect (refusal s call) has allowed may
  call_keeps s call (Some error) effect has allowed may = at_effect s effect Nothing may.1 has

pub disabled_bytes : (control renamed dir : Path) (a b : Trail) → Goes (Disables control renamed dir) a b → b.present.bytes ≡ a.present.bytes
disabled_bytes control renamed dir a b goes = (goes_since (Disables control renamed dir) (λ s. s.bytes ≡ a.present.bytes) (λ s call answer effect has allowed may. call_keeps control renamed dir a.present.bytes s call answer effect has allowed may) refl goes).present

-- ---- the paths

-- what is said of the paths that a call is given, of those that they are
module _ (control renamed dir from to at : Path) (is_control : control ≡ from) (is_renamed : renamed ≡ to) (is_dir : dir ≡ at) where
  pub free_of : (s : FsState) → refusal s (Renames from to) ≡ None → refusal s (Renames control renamed) ≡ None
  free_of s free = (λ i. refusal s (Renames (is_control i) (is_renamed i))) ∙ free

  pub goes_of : (a b : Trail) → Goes (Disables control renamed dir) a b → Goes (Disables from to at) a b
  goes_of a b goes = subst (λ path. Goes (Disables from to path) a b) is_dir (subst (λ path. Goes (Disables path to dir) a b) is_control (subst (λ path. Goes (Disables control path dir) a b) is_renamed goes))

  pub renamed_of : (s t : FsState) → IsRenamed s control renamed dir t → IsRenamed s from to at t
  renamed_of s t done = subst (λ path. IsRenamed s from to path t) is_dir (subst (λ path. IsRenamed s path to dir t) is_control (subst (λ path. IsRenamed s control path dir t) is_renamed done))

  pub each_of : (s : FsState) (P : Upgrade → Type 0) → ForEachUpgrade control renamed s P → ForEachUpgrade from to s P
  each_of s P each u ready disables at_control at_renamed sound = each u ready disables (at_control ∙ sym is_control) (at_renamed ∙ sym is_renamed) sound

-- a failure, or want of memory
pub decided_no_change : (T : Type 0) (root : Path) (error : FsError) → DecidedBy {T = T} None (Err error) → IsNoChange (files_fault root error)
decided_no_change T root NotFound is = absurd (cc is)
decided_no_change T root Exists is = absurd (cc is)
decided_no_change T root NotDir is = absurd (cc is)
decided_no_change T root WrongKind is = absurd (cc is)
decided_no_change T root NotEmpty is = absurd (cc is)
decided_no_change T root CrossDevice is = absurd (cc is)
decided_no_change T root CrossDir is = absurd (cc is)
decided_no_change T root Failed is = tt
decided_no_change T root OutOfMemory is = tt

pub link_disables : (job : Job) → job.mode ≡ Link → disables job.mode ≡ true
link_disables job is = ap disables is
