-- The numbers and the answers of a self-test.
use Rattle.std.proofs.Common.{◌≡◌, ◌∙◌, ◌+◌, ◌-◌, ◌<◌, ◌≤◌, ◌⊎◌, ◌∷◌, [], ℕ, zero, suc, Bool, Option, Some, None, Result, Ok, Err, IfOk, inl, inr, refl, sym, ap, subst, arith}
use Rattle.std.specs.Prelude.{◌/◌, ◌%◌, ◌^◌, false, min}
use Rattle.std.specs.List.{sum_by, range_with_len}
use Rattle.std.proofs.lemmas.List.Sums.{sum_by-append, sum_by-cons}
use Rattle.fs_model.specs.Names.{Path}
use Rattle.fs_model.specs.State.{FsState}
use Rattle.fs_model.specs.Trail.{Counts, HasCause}
use Rattle.fs_model.proofs.Causes.{no_cause}
use Rattle.fs_model.specs.WellFormed.{WellFormed}
use Rattle.fs_mem.specs.History.{History, opens, trail_of}
use Rattle.control_file.specs.declared.job.Job.{Job}
use Rattle.control_file.specs.declared.modes.Mode.{Mode}
use Rattle.control_file.specs.declared.releases.Release.TheVariants.{V16}
use Rattle.catalog.specs.Cluster.{Cluster}
use Rattle.catalog_server.specs.Answers.{ServerCounts}
use Rattle.catalog_server.specs.Profile.{profile_of}
use Rattle.cluster_meaning.specs.Cluster.{opened}
use Rattle.cluster_gen.specs.Page.{live_on, live_rows}
use Rattle.cluster_gen.proofs.Ranges.{range_more}
use Rattle.row_counts.specs.Counted.{rows_of_cluster}
use Rattle.upgraded.specs.Upgraded.{ReadsCatalog}
use Rattle.phase_names.specs.declared.names.PhaseName.{PhaseName}
use Rattle.phase_names.specs.declared.summary.Summary.{Summary}
use Rattle.upgrade_answers.specs.declared.answer.Answer.{Answer}
use Rattle.upgrade_answers.specs.declared.answer.Answer.TheVariants.{Done, Checked, Reported, Tested, TestFailed, Usage, Refused, FsFault, ServerFault, Moved, NoMemory}
use Rattle.upgrade_run.specs.Causes.{IsOfUpgrade, UpgradeHasCause, TestHasCause, ServerCounted, failure_in}
use Rattle.upgrade_run.specs.Means.{HasBegun, TestMeans}
use Rattle.upgrade_run.specs.Ends.{EndsFinished}
use Rattle.upgrade_run.specs.SelfTests.{new_root, pair_job, all_ended, HasRows, AreOfPair, IsTestedFrom, IsUnread, IfTested}

-- ---- rows

-- each third row is deleted
pub live_few : (n : ℕ) → n < 7 → live_on n ≡ n - n / 3
live_few zero below = refl
live_few (suc zero) below = refl
live_few (suc (suc zero)) below = refl
live_few (suc (suc (suc zero))) below = refl
live_few (suc (suc (suc (suc zero)))) below = refl
live_few (suc (suc (suc (suc (suc zero))))) below = refl
live_few (suc (suc (suc (suc (suc (suc zero)))))) below = refl
live_few (suc (suc (suc (suc (suc (suc (suc n))))))) below = absurd (omega arith)

abbrev of_table : ℕ → ℕ
of_table table = live_on (table % 7)

one_more : (n : ℕ) → live_rows (n + 1) ≡ live_rows n + live_on (n % 7)
one_more n =
    let alone : of_table n + 0 ≡ of_table n = omega arith in
    ap (sum_by of_table) (range_more n) ∙ sum_by-append of_table (range_with_len 0 n) (n ∷ []) ∙ ap (λ k. sum_by of_table (range_with_len 0 n) + k) (sum_by-cons of_table n [] ∙ alone)

-- one table more
pub live_next : (n rows next : ℕ) → rows ≡ live_rows n → next ≡ rows + (n % 7 - n % 7 / 3) → n % 7 < 7 → next ≡ live_rows (n + 1)
live_next n rows next is more below = more ∙ ap (λ k. k + (n % 7 - n % 7 / 3)) is ∙ ap (λ k. live_rows n + k) (sym (live_few (n % 7) below)) ∙ sym (one_more n)

-- the rows that were counted in the state that the catalog was read in
pub has_rows : (read : ReadsCatalog) (root : Path) (s x : FsState) (catalog : Cluster) (result : Result ℕ Answer) → x ≡ s → read root V16 (profile_of s root) ≡ Ok catalog
    → IfOk result (λ rows. rows ≡ min (rows_of_cluster x (opened x root V16 catalog) all_ended) (2 ^ 64 - 1)) → IfOk result (HasRows read root s)
has_rows read root s x catalog (Ok rows) same reading is = record {
  catalog = catalog;
  reading = reading;
  counted = subst (λ (st : FsState). rows ≡ min (rows_of_cluster st (opened st root V16 catalog) all_ended) (2 ^ 64 - 1)) same is;
}
has_rows read root s x catalog (Err answer) same reading is = tt

-- ---- answers

pub unread_begun : (answer : Answer) → IsUnread answer → HasBegun answer
unread_begun answer (inl is) = subst HasBegun (sym is) tt
unread_begun answer (inr is) = subst HasBegun (sym is) tt

pub unread_cause : (mode : Mode) (answer : Answer) → IsUnread answer → TestHasCause mode answer
unread_cause mode answer (inl is) = subst (TestHasCause mode) (sym is) tt
unread_cause mode answer (inr is) = subst (TestHasCause mode) (sym is) (inr (inr (inl refl)))

pub unread_untested : (P : Summary → ℕ → Type 0) (answer : Answer) → IsUnread answer → IfTested answer P
unread_untested P answer (inl is) = subst (λ a. IfTested a P) (sym is) tt
unread_untested P answer (inr is) = subst (λ a. IfTested a P) (sym is) tt

-- memory lacked in the upgrade
pub lack_cause : (job : Job) (at : PhaseName) (before now : Counts) (server_before server_now : ServerCounts) → UpgradeHasCause job false (NoMemory at) before now server_before server_now → TestHasCause job.mode (NoMemory at)
lack_cause job at before now server_before server_now (inl is) = inl is
lack_cause job at before now server_before server_now (inr (of, rose)) = inr (inr (inr of))

pub test_means : (mode : Mode) (answer : Answer) → TestHasCause mode answer → TestMeans answer
test_means mode (Done summary) cause = cause
test_means mode Checked cause = cause
test_means mode (Reported verdict) cause = cause
test_means mode (Tested summary rows) cause = tt
test_means mode TestFailed cause = tt
test_means mode (Usage position) cause = cause
test_means mode (Refused refusal) cause = cause
test_means mode (FsFault at) cause = cause
test_means mode (ServerFault at) cause = cause
test_means mode (Moved root change) cause = cause
test_means mode (NoMemory at) cause = tt

no_failure : (mode : Mode) (answer : Answer) → TestHasCause mode answer → failure_in answer ≡ None
no_failure mode (Done summary) cause = refl
no_failure mode Checked cause = refl
no_failure mode (Reported verdict) cause = refl
no_failure mode (Tested summary rows) cause = refl
no_failure mode TestFailed cause = refl
no_failure mode (Usage position) cause = refl
no_failure mode (Refused refusal) cause = refl
no_failure mode (FsFault at) cause = absurd cause
no_failure mode (ServerFault at) cause = refl
no_failure mode (Moved root change) cause = refl
no_failure mode (NoMemory at) cause = refl

-- no call of what the run was given
pub test_counts : (mode : Mode) (answer : Answer) (firm : Bool) (counts : Counts) → TestHasCause mode answer → HasCause firm counts counts (failure_in answer)
test_counts mode answer firm counts cause = subst (HasCause firm counts counts) (sym (no_failure mode answer cause)) (no_cause firm counts)

pub test_server : (answer : Answer) (counts : ServerCounts) → ServerCounted counts counts answer
test_server answer counts = record { faults = omega arith; texts = omega arith; told = λ other. refl }

-- ---- the success

module _ (read : ReadsCatalog) (number : ℕ) (mode : Mode) (s x : FsState) (summary : Summary) (rows : Result ℕ Answer) (finished : EndsFinished read (pair_job mode) s x summary) (has : IfOk rows (HasRows read new_root x)) where
  pub tested_from : (answer : Answer) → IfTested answer (λ said seen. (said ≡ summary) × (rows ≡ Ok seen) × AreOfPair number summary seen) → IfTested answer (IsTestedFrom read number mode s)
  tested_from (Done other) is = tt
  tested_from Checked is = tt
  tested_from (Reported verdict) is = tt
  tested_from (Tested said seen) (is, were, numbers) = record {
    numbers = subst (λ (t : Summary). AreOfPair number t seen) (sym is) numbers;
    after = x;
    finished = subst (λ (t : Summary). EndsFinished read (pair_job mode) s x t) (sym is) finished;
    counted = subst (λ (r : Result ℕ Answer). IfOk r (HasRows read new_root x)) were has;
  }
  tested_from TestFailed is = tt
  tested_from (Usage position) is = tt
  tested_from (Refused refusal) is = tt
  tested_from (FsFault at) is = tt
  tested_from (ServerFault at) is = tt
  tested_from (Moved root change) is = tt
  tested_from (NoMemory at) is = tt

-- ---- the pair that is made

pub made_formed : (made : History) (s : FsState) → made ≡ opens s → WellFormed made.opening → WellFormed (trail_of made).present
made_formed made s is formed = subst (λ (h : History). WellFormed h.opening → WellFormed (trail_of h).present) (sym is) (λ w. w) formed

pub made_tested : (read : ReadsCatalog) (number : ℕ) (mode : Mode) (made : History) (s : FsState) (answer : Answer) → made ≡ opens s → IfTested answer (IsTestedFrom read number mode (trail_of made).present) → IfTested answer (IsTestedFrom read number mode s)
made_tested read number mode made s answer is tested = subst (λ (h : History). IfTested answer (IsTestedFrom read number mode (trail_of h).present)) is tested

pub not_more : (n : ℕ) → (200 < n → ⊥) → n ≤ 200
not_more n none = grind (arith, none)
