-- Carrying the status of transactions, as a phase does it.
use Rattle.std.proofs.Common.{◌≡◌, ℕ, List, Some, None, Result, Ok, Err, OnOk, IfOk, IfErr, refl, sym, ap, subst}
use Rattle.fs_model.specs.declared.error.FsError.{FsError}
use Rattle.fs_model.specs.declared.error.FsError.TheVariants.{OutOfMemory}
use Rattle.fs_model.specs.Names.{Path}
use Rattle.fs_model.specs.State.{FsState}
use Rattle.fs_model.specs.Trail.{Trail, Goes, stays, Since, Unchanged, DecidedBy, error_of, unless_lack}
use Rattle.fs_model.specs.WellFormed.{WellFormed}
use Rattle.fs_model.proofs.Runs.{none_since}
use Rattle.control_file.specs.declared.job.Job.{Job}
use Rattle.crash_safety.specs.Calling.{Rewrites}
use Rattle.crash_safety.specs.Places.{control_at}
use Rattle.crash_safety.specs.Sound.{Whole}
use Rattle.status_transfer.specs.Carried.{CarriesInto, ChangesOnlyIn}
use Rattle.status_transfer.specs.Status.{status_dirs}
use Rattle.status_transfer.specs.Counted.{KeepsAllBut, IsHeadOf}
use Rattle.phase_facts.specs.Held.{Held}
use Rattle.phase_facts.proofs.Reading.{reads_held}
use Rattle.phase_facts.proofs.Statusing.{carried_held, counted_held}
use Rattle.phase_facts.proofs.Kept.{status_head}
use Rattle.phases.specs.Preparing.{CarriesTransactions, CarriesThenReads}

-- ---- answers

pub if_ok : (T : Type 0) (result : Result T FsError) (P Q : T → Type 0) → ((value : T) → P value → Q value) → IfOk result P → IfOk result Q
if_ok T (Ok value) P Q gives holds = gives value holds
if_ok T (Err error) P Q gives holds = tt

pub on_ok : (T : Type 0) (result : Result T FsError) (P Q : Type 0) → (P → Q) → OnOk result P → OnOk result Q
on_ok T (Ok value) P Q gives holds = gives holds
on_ok T (Err error) P Q gives holds = tt

pub always_ok : (T : Type 0) (result : Result T FsError) (P : Type 0) → P → OnOk result P
always_ok T (Ok value) P holds = holds
always_ok T (Err error) P holds = tt

-- ---- the calls

keeps_itself : (at : Path) (s : FsState) → KeepsAllBut at s s
keeps_itself at s = record {
  names = refl;
  names_kept = refl;
  pending = refl;
  devices = refl;
  bytes_kept = refl;
  bytes = λ inode other. refl;
  dirty = λ inode other. refl;
}

-- the counters aren't reached
pub carried_alone : (job : Job) (old new : Trail) → Goes (CarriesInto (status_dirs job.new) old.present) old new → CarriesTransactions job old new
carried_alone job old new carries = record { middle = new; carries = carries; counts = stays; frame = none_since (KeepsAllBut (control_at job.new) new.present) new (keeps_itself (control_at job.new) new.present) }

pub nothing_carried : (job : Job) (old : Trail) → CarriesTransactions job old old
nothing_carried job old = carried_alone job old old stays

pub then_counted : (job : Job) (at : Path) → at ≡ control_at job.new → (old middle new : Trail) → Goes (CarriesInto (status_dirs job.new) old.present) old middle → Goes (Rewrites at) middle new → Since (KeepsAllBut at middle.present) middle new → CarriesTransactions job old new
then_counted job at is old middle new carries counts frame = record {
  middle = middle;
  carries = carries;
  counts = subst (λ path. Goes (Rewrites path) middle new) is counts;
  frame = subst (λ path. Since (KeepsAllBut path middle.present) middle new) is frame;
}

-- the head is still there when the counters are set
pub head_there : (job : Job) (at : Path) → at ≡ control_at job.new → (old middle : Trail) (head : List ℕ) → WellFormed old.present → Since (ChangesOnlyIn (status_dirs job.new) old.present) old middle → IsHeadOf old.present (control_at job.new) head → IsHeadOf middle.present at head
head_there job at is old middle head well_formed frame there =
    subst (λ path. IsHeadOf middle.present path head) (sym is) (status_head old.present middle.present job.new head well_formed frame.present there)

pub unchanged_after : (job : Job) (old middle new : Trail) → CarriesTransactions job old middle → Unchanged middle new → CarriesThenReads job old new
unchanged_after job old middle new transactions unchanged = record { done = middle; transactions = transactions; unchanged = unchanged }

pub not_yet_read : (job : Job) (old new : Trail) → CarriesTransactions job old new → CarriesThenReads job old new
not_yet_read job old new transactions = unchanged_after job old new new transactions (none_since (λ s. s ≡ new.present) new refl)

-- ---- what every phase knows

pub status_held : (job : Job) (opening a b : Trail) → Held job Whole opening a → CarriesThenReads job a b → Held job Whole opening b
status_held job opening a b held run =
    let carries = run.transactions in
    let carried = carried_held job opening a carries.middle held carries.carries in
    let counted = counted_held job opening carries.middle run.done carried carries.counts carries.frame in
    reads_held job Whole (λ moving. cc moving) opening run.done b counted run.unchanged

-- ---- want of memory alone

pub free_answer : (T : Type 0) (result : Result T FsError) → IfErr result (λ error. error ≡ OutOfMemory) → unless_lack (error_of result) ≡ None
free_answer T (Ok value) lack = refl
free_answer T (Err error) lack = ap (λ e. unless_lack (Some e)) lack

pub free_unrefused : (T : Type 0) (result : Result T FsError) → IfErr result (λ error. error ≡ OutOfMemory) → DecidedBy None result
free_unrefused T (Ok value) lack = refl
free_unrefused T (Err error) lack = subst (λ e. DecidedBy {T = T} None (Err e)) (sym lack) tt
