-- The answer after the phases behind the checks.
use Rattle.std.proofs.Common.{◌≡◌, ◌≤◌, ◌∙◌, ℕ, Bool, false, Option, Some, None, Result, Ok, Err, IfOk, IfErr, inl, inr, refl, sym, subst, arith}
use Rattle.std.specs.Prelude.{IsErrAnd}
use Rattle.fs_model.specs.declared.error.FsError.{FsError}
use Rattle.fs_model.specs.declared.error.FsError.TheVariants.{NotFound, Exists, NotDir, WrongKind, NotEmpty, CrossDevice, CrossDir, Failed, OutOfMemory}
use Rattle.fs_model.specs.Names.{Path}
use Rattle.fs_model.specs.State.{FsState}
use Rattle.fs_model.specs.Trail.{Counts, Rose, RoseFor, HasCause, unless_lack}
use Rattle.fs_model.proofs.Causes.{cause_then}
use Rattle.control_file.specs.declared.job.Job.{Job}
use Rattle.control_file.specs.declared.modes.Mode.{Mode}
use Rattle.control_file.specs.declared.modes.Side.{Side}
use Rattle.control_file.specs.declared.modes.Side.TheVariants.{Old, New}
use Rattle.catalog_server.specs.Answers.{ServerCounts}
use Rattle.compat_checks.specs.declared.answer.Change.TheVariants as change
use Rattle.phase_names.specs.declared.names.PhaseName.{PhaseName}
use Rattle.phase_names.specs.declared.names.PhaseName.TheVariants.{Words, Check, Restore, Status, Disable, Transfer, Finish, Report, Make, Count}
use Rattle.phase_names.specs.declared.summary.Summary.{Summary}
use Rattle.phases.specs.declared.error.PhaseError.{PhaseError}
use Rattle.phases.specs.declared.error.PhaseFault.{PhaseFault}
use Rattle.phases.specs.declared.error.PhaseFault.TheVariants as fault
use Rattle.phases.specs.Faults.{fault_in, files_error, root_of, IsInCluster, IsOfFiles, IsNoChange, RoseForPhase, ServerFaultsStay, HasPhaseCause}
use Rattle.upgrade_checks.specs.Findings.{Reader}
use Rattle.upgrade_checks.specs.Answers.{HasServerPart}
use Rattle.upgrade_answers.specs.declared.answer.Answer.{Answer}
use Rattle.upgrade_answers.specs.declared.answer.Answer.TheVariants.{Done, Checked, Reported, Tested, TestFailed, Usage, Refused, FsFault, ServerFault, Moved, NoMemory}
use Rattle.upgrade_run.specs.Answers.{phases_answer, fault_answer, files_answer}
use Rattle.upgrade_run.specs.Causes.{IsLater, LackRose, IsRoot, UpgradeHasCause, ServerCounted, failure_in}
use Rattle.upgrade_run.specs.Means.{Passes, Reached, LeavesAll, IsEarly, IfDone, HasBegun, UpgradeMeans}
use Rattle.upgrade_run.specs.Ends.{IsFailedIn, ServerFailsIn, IsLackCounted}
use Rattle.upgrade_run.proofs.Causing.{files_counts, change_begun}

reached : (read : Reader) (s : FsState) (job : Job) (at : PhaseName) → Passes read s job → Reached read s job at
reached read s job Words passes = tt
reached read s job Check passes = tt
reached read s job Restore passes = passes
reached read s job Status passes = passes
reached read s job Disable passes = passes
reached read s job Transfer passes = passes
reached read s job Finish passes = passes
reached read s job Report passes = passes
reached read s job Make passes = passes
reached read s job Count passes = passes

pub phases_means : (read : Reader) (s : FsState) (job : Job) (result : Result Summary PhaseError) → IfErr result (λ error. IsNoChange error.kind) → Passes read s job → UpgradeMeans read s job (phases_answer result)
phases_means read s job (Ok summary) none passes = passes
phases_means read s job (Err error) none passes = means error.kind none
  where
    means : (kind : PhaseFault) → IsNoChange kind → UpgradeMeans read s job (fault_answer error.at kind)
    means fault.Fs none = reached read s job error.at passes
    means fault.Server none = reached read s job error.at passes
    means (fault.Changed root found) none = absurd none
    means fault.NoMemory none = reached read s job error.at passes

-- want of memory in a phase that takes some, and in one that takes none
pub takes_memory : {T : Type 0} (result : Result T PhaseError) (at : PhaseName) (before now : Counts) → LackRose at before now → IfErr result (λ error. error.at ≡ at) → IfErr result (IsLackCounted before now)
takes_memory (Ok value) at before now rose is = tt
takes_memory (Err error) at before now rose is = λ lack. subst (λ name. LackRose name before now) (sym is) rose

pub takes_none_at : (error : PhaseError) (at : PhaseName) (firm : Bool) (before now : Counts) → (Rose before.lacks now.lacks → LackRose at before now) → error.at ≡ at → HasCause firm before now (files_error (Some error.kind)) → IsLackCounted before now error
takes_none_at error at firm before now rose is cause lack = subst (λ name. LackRose name before now) (sym is) (rose (subst (λ e. RoseFor e before now) lack cause.rose))

pub takes_none : {T : Type 0} (result : Result T PhaseError) (at : PhaseName) (firm : Bool) (before now : Counts) → (Rose before.lacks now.lacks → LackRose at before now) → IfErr result (λ error. error.at ≡ at) → HasCause firm before now (files_error (fault_in result)) → IfErr result (IsLackCounted before now)
takes_none (Ok value) at firm before now rose is cause = tt
takes_none (Err error) at firm before now rose is cause = takes_none_at error at firm before now rose is cause

lack_since : (a b c : ℕ) → a ≤ b → Rose b c → Rose a c
lack_since a b c first rose = omega arith

pub lacked_later : (a b c : Counts) (at : PhaseName) → a.lacks ≤ b.lacks → LackRose at b c → LackRose at a c
lacked_later a b c Words first rose = tt
lacked_later a b c Check first rose = tt
lacked_later a b c Restore first rose = tt
lacked_later a b c Status first rose = tt
lacked_later a b c Disable first rose = lack_since a.lacks b.lacks c.lacks first rose
lacked_later a b c Transfer first rose = lack_since a.lacks b.lacks c.lacks first rose
lacked_later a b c Finish first rose = tt
lacked_later a b c Report first rose = tt
lacked_later a b c Make first rose = tt
lacked_later a b c Count first rose = tt

pub lacks_later : {T : Type 0} (result : Result T PhaseError) (a b c : Counts) → a.lacks ≤ b.lacks → IfErr result (IsLackCounted b c) → IfErr result (IsLackCounted a c)
lacks_later (Ok value) a b c first lacked = tt
lacks_later (Err error) a b c first lacked = λ lack. lacked_later a b c error.at first (lacked lack)

-- an error that is handed on
pub handed_on : {T : Type 0} (P : PhaseError → Type 0) (result : Result T PhaseError) (error : PhaseError) → IsErrAnd result (λ e. e ≡ error) → P error → IfErr result P
handed_on P (Ok value) error is holds = tt
handed_on P (Err e) error is holds = subst P (sym is) holds

not_early : (mode : Mode) (at : PhaseName) → IsLater mode at → IsEarly at → ⊥
not_early mode Words later early = later
not_early mode Check later early = later
not_early mode Restore later early = early
not_early mode Status later early = early
not_early mode Disable later early = early
not_early mode Transfer later early = early
not_early mode Finish later early = early
not_early mode Report later early = later
not_early mode Make later early = later
not_early mode Count later early = later

files_late : (mode : Mode) (at : PhaseName) (root : Path) (error : FsError) → IsLater mode at → LeavesAll (files_answer at root error) → ⊥
files_late mode at root Failed later leaves = not_early mode at later leaves
files_late mode at root OutOfMemory later leaves = not_early mode at later leaves
files_late mode at root NotFound later leaves = leaves
files_late mode at root Exists later leaves = leaves
files_late mode at root NotDir later leaves = leaves
files_late mode at root WrongKind later leaves = leaves
files_late mode at root NotEmpty later leaves = leaves
files_late mode at root CrossDevice later leaves = leaves
files_late mode at root CrossDir later leaves = leaves

pub phases_late : (job : Job) (result : Result Summary PhaseError) → IfErr result (IsFailedIn job) → LeavesAll (phases_answer result) → ⊥
phases_late job (Ok summary) failed leaves = leaves
phases_late job (Err error) failed leaves = late error.kind leaves
  where
    late : (kind : PhaseFault) → LeavesAll (fault_answer error.at kind) → ⊥
    late fault.Fs leaves = not_early job.mode error.at failed.phase leaves
    late fault.Server leaves = not_early job.mode error.at failed.phase leaves
    late (fault.Changed root (change.Refused e)) leaves = files_late job.mode error.at root e failed.phase leaves
    late (fault.Changed root (change.Text line)) leaves = leaves
    late (fault.Changed root change.Differs) leaves = leaves
    late fault.NoMemory leaves = not_early job.mode error.at failed.phase leaves

in_root : (job : Job) (root : Path) → (side : Side) × (root ≡ root_of job side) → IsRoot job root
in_root job root (Old, is) = inl is
in_root job root (New, is) = inr is

pub phases_cause : (job : Job) (result : Result Summary PhaseError) (firm : Bool) (before now : Counts) (server_before server_now : ServerCounts) → IfErr result (IsFailedIn job) → IfErr result (IsLackCounted before now) → HasPhaseCause firm before now server_before server_now (fault_in result)
    → UpgradeHasCause job false (phases_answer result) before now server_before server_now
phases_cause job (Ok summary) firm before now server_before server_now failed lacked cause = refl
phases_cause job (Err error) firm before now server_before server_now failed lacked cause = by error.kind failed.place failed.server lacked cause
  where
    by : (kind : PhaseFault) → IsInCluster job kind → ServerFailsIn error kind → (files_error (Some kind) ≡ Some OutOfMemory → LackRose error.at before now) → HasPhaseCause firm before now server_before server_now (Some kind) → UpgradeHasCause job false (fault_answer error.at kind) before now server_before server_now
    by fault.Fs place server lacked cause = (inr failed.phase, cause.files.rose)
    by fault.Server place server lacked cause = (inr server, cause.rose)
    by (fault.Changed root (change.Refused Failed)) place server lacked cause = (inr failed.phase, cause.files.rose)
    by (fault.Changed root (change.Refused OutOfMemory)) place server lacked cause = inr (inr failed.phase, lacked refl)
    by (fault.Changed root (change.Refused NotFound)) place server lacked cause = (in_root job root place, ((λ e. cc e), (λ e. cc e), cause.files.rose))
    by (fault.Changed root (change.Refused Exists)) place server lacked cause = (in_root job root place, ((λ e. cc e), (λ e. cc e), cause.files.rose))
    by (fault.Changed root (change.Refused NotDir)) place server lacked cause = (in_root job root place, ((λ e. cc e), (λ e. cc e), cause.files.rose))
    by (fault.Changed root (change.Refused WrongKind)) place server lacked cause = (in_root job root place, ((λ e. cc e), (λ e. cc e), cause.files.rose))
    by (fault.Changed root (change.Refused NotEmpty)) place server lacked cause = (in_root job root place, ((λ e. cc e), (λ e. cc e), cause.files.rose))
    by (fault.Changed root (change.Refused CrossDevice)) place server lacked cause = (in_root job root place, ((λ e. cc e), (λ e. cc e), cause.files.rose))
    by (fault.Changed root (change.Refused CrossDir)) place server lacked cause = (in_root job root place, ((λ e. cc e), (λ e. cc e), cause.files.rose))
    by (fault.Changed root (change.Text line)) place server lacked cause = (in_root job root place, cause.rose)
    by (fault.Changed root change.Differs) place server lacked cause = (in_root job root place, tt)
    by fault.NoMemory place server lacked cause = inr (inr failed.phase, lacked refl)

pub phases_counts : (result : Result Summary PhaseError) (firm : Bool) (before now : Counts) → HasCause firm before now (unless_lack (files_error (fault_in result))) → HasCause firm before now (failure_in (phases_answer result))
phases_counts (Ok summary) firm before now cause = cause
phases_counts (Err error) firm before now cause = by error.kind cause
  where
    by : (kind : PhaseFault) → HasCause firm before now (unless_lack (files_error (Some kind))) → HasCause firm before now (failure_in (fault_answer error.at kind))
    by fault.Fs cause = cause
    by fault.Server cause = cause
    by (fault.Changed root (change.Refused e)) cause = files_counts firm before now error.at root e cause
    by (fault.Changed root (change.Text line)) cause = cause
    by (fault.Changed root change.Differs) cause = cause
    by fault.NoMemory cause = cause

pub phases_server : (result : Result Summary PhaseError) (firm : Bool) (files_before files_now : Counts) (before now : ServerCounts) → HasPhaseCause firm files_before files_now before now (fault_in result) → ServerCounted before now (phases_answer result)
phases_server (Ok summary) firm files_before files_now before now cause = record { faults = cause.faults; texts = cause.texts; told = λ other. cause.told }
phases_server (Err error) firm files_before files_now before now cause = by error.kind cause
  where
    by : (kind : PhaseFault) → HasPhaseCause firm files_before files_now before now (Some kind) → ServerCounted before now (fault_answer error.at kind)
    by fault.Fs cause = record { faults = cause.faults; texts = cause.texts; told = λ other. cause.told }
    by fault.Server cause = record { faults = cause.faults; texts = cause.texts; told = λ other. absurd (other tt) }
    by (fault.Changed root change) cause = record { faults = cause.faults; texts = cause.texts; told = λ other. cause.told }
    by fault.NoMemory cause = record { faults = cause.faults; texts = cause.texts; told = λ other. cause.told }

pub phases_finished : (P : Summary → Type 0) (result : Result Summary PhaseError) → IfOk result P → IfDone (phases_answer result) P
phases_finished P (Ok summary) ends = ends
phases_finished P (Err error) ends = by error.kind
  where
    files : (root : Path) (e : FsError) → IfDone (files_answer error.at root e) P
    files root Failed = tt
    files root OutOfMemory = tt
    files root NotFound = tt
    files root Exists = tt
    files root NotDir = tt
    files root WrongKind = tt
    files root NotEmpty = tt
    files root CrossDevice = tt
    files root CrossDir = tt

    by : (kind : PhaseFault) → IfDone (fault_answer error.at kind) P
    by fault.Fs = tt
    by fault.Server = tt
    by (fault.Changed root (change.Refused e)) = files root e
    by (fault.Changed root (change.Text line)) = tt
    by (fault.Changed root change.Differs) = tt
    by fault.NoMemory = tt

-- an answer that leaves all isn't done
pub leaves_undone : (answer : Answer) (P : Summary → Type 0) → LeavesAll answer → IfDone answer P
leaves_undone (Done summary) P leaves = absurd leaves
leaves_undone Checked P leaves = tt
leaves_undone (Reported verdict) P leaves = tt
leaves_undone (Tested summary rows) P leaves = tt
leaves_undone TestFailed P leaves = tt
leaves_undone (Usage position) P leaves = tt
leaves_undone (Refused refusal) P leaves = tt
leaves_undone (FsFault at) P leaves = tt
leaves_undone (ServerFault at) P leaves = tt
leaves_undone (Moved root found) P leaves = tt
leaves_undone (NoMemory at) P leaves = tt

-- ---- one after another

rose_since : (a b c : ℕ) → a ≤ b → Rose b c → Rose a c
rose_since a b c first rose = omega arith

-- a run before, in which neither the file system nor the server failed
pub after_check : (firm later : Bool) (a b c : Counts) (d e f : ServerCounts) (kind : Option PhaseFault) → later ≡ firm → HasCause firm a b None → HasServerPart false d e → HasPhaseCause later b c e f kind → HasPhaseCause firm a c d f kind
after_check firm later a b c d e f kind same cause part phase = record {
  faults = (let x = part.faults in let y = phase.faults in omega arith);
  texts = (let x = part.texts in let y = phase.texts in omega arith);
  rose = rose kind phase.rose;
  told = stay kind phase.told;
  files = cause_then firm later a b c None (unless_lack (files_error kind)) tt same cause phase.files;
}
  where
    rose : (kind : Option PhaseFault) → RoseForPhase kind e f → RoseForPhase kind d f
    rose None is = tt
    rose (Some fault.Fs) is = tt
    rose (Some fault.Server) is = rose_since d.faults e.faults f.faults part.faults is
    rose (Some (fault.Changed root (change.Refused error))) is = tt
    rose (Some (fault.Changed root (change.Text line))) is = (rose_since d.texts e.texts f.texts part.texts is.0, is.1)
    rose (Some (fault.Changed root change.Differs)) is = tt
    rose (Some fault.NoMemory) is = tt

    stay : (kind : Option PhaseFault) → ServerFaultsStay kind e f → ServerFaultsStay kind d f
    stay None is = is ∙ part.told refl
    stay (Some fault.Fs) is = is ∙ part.told refl
    stay (Some fault.Server) is = tt
    stay (Some (fault.Changed root change)) is = is ∙ part.told refl
    stay (Some fault.NoMemory) is = is ∙ part.told refl

-- behind the carrying of the schema no call is one of the server's
pub after_schema : (firm later : Bool) (a b c : Counts) (d e : ServerCounts) (root : Path) (kind : PhaseFault) → later ≡ firm → IsOfFiles root kind → HasPhaseCause firm a b d e None → HasCause later b c (unless_lack (files_error (Some kind))) → HasPhaseCause firm a c d e (Some kind)
after_schema firm later a b c d e root kind same files schema cause = record {
  faults = schema.faults;
  texts = schema.texts;
  rose = rose kind files;
  told = stay kind files;
  files = cause_then firm later a b c None (unless_lack (files_error (Some kind))) tt same schema.files cause;
}
  where
    rose : (kind : PhaseFault) → IsOfFiles root kind → RoseForPhase (Some kind) d e
    rose fault.Fs is = tt
    rose fault.Server is = absurd is
    rose (fault.Changed path (change.Refused error)) is = tt
    rose (fault.Changed path (change.Text line)) is = absurd is
    rose (fault.Changed path change.Differs) is = absurd is
    rose fault.NoMemory is = tt

    stay : (kind : PhaseFault) → IsOfFiles root kind → ServerFaultsStay (Some kind) d e
    stay fault.Fs is = schema.told
    stay fault.Server is = absurd is
    stay (fault.Changed path change) is = schema.told
    stay fault.NoMemory is = schema.told

pub after_all : (firm later : Bool) (a b c : Counts) (d e : ServerCounts) → later ≡ firm → HasPhaseCause firm a b d e None → HasCause later b c None → HasPhaseCause firm a c d e None
after_all firm later a b c d e same schema cause = record {
  faults = schema.faults;
  texts = schema.texts;
  rose = tt;
  told = schema.told;
  files = cause_then firm later a b c None None tt same schema.files cause;
}

-- a step of files that ended early
pub failed_files : (job : Job) (error : PhaseError) (side : Side) → IsLater job.mode error.at → IsOfFiles (root_of job side) error.kind → IsFailedIn job error
failed_files job error side later files = record { phase = later; place = place error.kind files; server = server error.kind files }
  where
    place : (kind : PhaseFault) → IsOfFiles (root_of job side) kind → IsInCluster job kind
    place fault.Fs is = tt
    place fault.Server is = tt
    place (fault.Changed path (change.Refused error)) is = (side, is)
    place (fault.Changed path (change.Text line)) is = absurd is
    place (fault.Changed path change.Differs) is = absurd is
    place fault.NoMemory is = tt

    server : (kind : PhaseFault) → IsOfFiles (root_of job side) kind → ServerFailsIn error kind
    server fault.Fs is = tt
    server fault.Server is = absurd is
    server (fault.Changed path change) is = tt
    server fault.NoMemory is = tt

-- the carrying of the schema, where it ended early
pub failed_schema : (job : Job) (error : PhaseError) → error.at ≡ Restore → IsInCluster job error.kind → IsFailedIn job error
failed_schema job error at place = record { phase = subst (IsLater job.mode) (sym at) tt; place = place; server = server error.kind }
  where
    server : (kind : PhaseFault) → ServerFailsIn error kind
    server fault.Fs = tt
    server fault.Server = at
    server (fault.Changed path change) = tt
    server fault.NoMemory = tt

-- ---- answers of a step

pub failed_in_files : {T : Type 0} (result : Result T PhaseError) (job : Job) (side : Side) (at : PhaseName) → IsLater job.mode at → IfErr result (λ error. error.at ≡ at) → IfErr result (λ error. IsOfFiles (root_of job side) error.kind) → IfErr result (IsFailedIn job)
failed_in_files (Ok value) job side at later is files = tt
failed_in_files (Err error) job side at later is files = failed_files job error side (subst (IsLater job.mode) (sym is) later) files

pub files_in : {T : Type 0} (result : Result T PhaseError) (job : Job) (side : Side) → IfErr result (λ error. IsOfFiles (root_of job side) error.kind) → IfErr result (λ error. (of : Side) × IsOfFiles (root_of job of) error.kind)
files_in (Ok value) job side files = tt
files_in (Err error) job side files = (side, files)

later_begun : (mode : Mode) (at : PhaseName) → IsLater mode at → HasBegun (NoMemory at)
later_begun mode Words later = later
later_begun mode Check later = tt
later_begun mode Restore later = tt
later_begun mode Status later = tt
later_begun mode Disable later = tt
later_begun mode Transfer later = tt
later_begun mode Finish later = tt
later_begun mode Report later = tt
later_begun mode Make later = tt
later_begun mode Count later = tt

pub phases_begun : (job : Job) (result : Result Summary PhaseError) → IfErr result (IsFailedIn job) → HasBegun (phases_answer result)
phases_begun job (Ok summary) failed = tt
phases_begun job (Err error) failed = by error.kind
  where
    by : (kind : PhaseFault) → HasBegun (fault_answer error.at kind)
    by fault.Fs = tt
    by fault.Server = tt
    by (fault.Changed root found) = change_begun error.at root found (later_begun job.mode error.at failed.phase)
    by fault.NoMemory = later_begun job.mode error.at failed.phase
