-- What a server's reading tells, and the part that it has in an answer.
use Rattle.std.proofs.Common.{◌≡◌, ◌≤◌, ◌∙◌, inl, Bool, true, false, [], ◌∷◌, Option, Some, Result, Ok, Err, refl, sym, ap, subst, arith}
use Rattle.std.specs.Prelude.{IsErrAnd, IfOk}
use Rattle.fs_model.specs.declared.error.FsError.{FsError}
use Rattle.fs_model.specs.declared.error.FsError.TheVariants as error
use Rattle.fs_model.specs.State.{FsState}
use Rattle.fs_model.specs.Trail.{Counts, HasCause, Unchanged}
use Rattle.fs_model.specs.Observed.{Observed}
use Rattle.fs_model.proofs.Causes.{cause_so_far}
use Rattle.control_file.specs.declared.job.Job.{Job}
use Rattle.control_file.specs.declared.modes.Side.{Side}
use Rattle.catalog.specs.Cluster.{Cluster}
use Rattle.dump_grammar.specs.declared.error.TextError.{TextError}
use Rattle.catalog_server.specs.declared.error.ServerError.{ServerError}
use Rattle.catalog_server.specs.declared.error.ServerError.TheVariants as server
use Rattle.catalog_server.specs.Answers.{ServerCounts, HasServerCause, server_error_of, files_error, IfText, IsUnrefused}
use Rattle.compat_checks.specs.declared.refusal.Refusal.{Refusal}
use Rattle.compat_checks.specs.Order.{CatalogTextIs}
use Rattle.upgrade_checks.specs.declared.stop.Stop.{Stop}
use Rattle.upgrade_checks.specs.Findings.{Readings, reading_of, catalog_text}
use Rattle.upgrade_checks.specs.Passing.{FindsFirst}
use Rattle.upgrade_checks.specs.Answers.{stop_for, stop_error, stop_of, judged_reading, is_server_stop, server_failed, Stops, Tells, Tested, HasServerPart}
use Rattle.upgrade_checks.proofs.Testing.{handed_on}

-- ---- a server's part

pub no_server_part : (a : ServerCounts) → HasServerPart false a a
no_server_part a = record { faults = omega arith; texts = omega arith; rose = λ e. absurd (cc e); told = λ _. refl }

pub server_then : (failed : Bool) (a b c : ServerCounts) → HasServerPart false a b → HasServerPart failed b c → HasServerPart failed a c
server_then failed a b c front back = record {
  faults = (let x = front.faults in let y = back.faults in omega arith);
  texts = (let x = front.texts in let y = back.texts in omega arith);
  rose = λ is. (let x = front.faults in let y = back.rose is in omega arith);
  told = λ is. back.told is ∙ front.told refl;
}

-- the answer is one of a call that the server takes no part in
pub server_so_far : (failed : Bool) (a b : ServerCounts) → failed ≡ false → HasServerPart false a b → HasServerPart failed a b
server_so_far failed a b is part = subst (λ f. HasServerPart f a b) (sym is) part

pub server_on : {T : Type 0} (a b : ServerCounts) (result : Result T Stop) (stop : Stop) → IsErrAnd result (λ e. e ≡ stop) → HasServerPart (is_server_stop stop) a b → HasServerPart (server_failed result) a b
server_on a b result stop is part = subst (λ r. HasServerPart (server_failed r) a b) (sym (handed_on result stop is)) part

-- ---- a server's reading

reading_cause : (firm : Bool) (a b : Counts) (side : Side) (e : FsError) → HasCause firm a b (Some e) → HasCause firm a b (stop_error (stop_for side e))
reading_cause firm a b side error.Failed cause = cause
reading_cause firm a b side error.OutOfMemory cause = cause_so_far firm a b (Some error.OutOfMemory) tt cause
reading_cause firm a b side error.NotFound cause = cause
reading_cause firm a b side error.Exists cause = cause
reading_cause firm a b side error.NotDir cause = cause
reading_cause firm a b side error.WrongKind cause = cause
reading_cause firm a b side error.NotEmpty cause = cause
reading_cause firm a b side error.CrossDevice cause = cause
reading_cause firm a b side error.CrossDir cause = cause

module _ (job : Job) (readings : Readings) (side : Side) (before after : Observed) (reading : FsState → Result Cluster TextError) where
  -- of what a server answers, where it reads this in each state
  pub reading_tested : (answer : Result Cluster ServerError) (result : Result Cluster Stop) → result ≡ judged_reading side answer
      → after.told ≡ before.told → after.firm ≡ before.firm → (before.told ≡ true → Unchanged before.trail after.trail)
      → HasCause before.firm before.counts after.counts (files_error (server_error_of answer))
      → (before.told ≡ true → reading_of readings side ≡ reading before.trail.present)
      → (before.told ≡ true → IfOk answer (λ c. reading before.trail.present ≡ Ok c)) → (before.told ≡ true → IfText answer (λ e. reading before.trail.present ≡ Err e)) → (before.told ≡ true → IsUnrefused answer)
      → Tested true job readings (CatalogTextIs side ∷ []) before after result
  reading_tested answer result is told firm unchanged cause same catalog text unrefused =
      subst (λ r. Tested true job readings (CatalogTextIs side ∷ []) before after r) (sym is)
      (record { told = told; firm = firm; unchanged = unchanged; cause = caused answer cause; quiet = λ e. absurd (cc e); tells = λ is. tells answer (same is) (catalog is) (text is) (unrefused is) })
    where
      caused : (answer : Result Cluster ServerError) → HasCause before.firm before.counts after.counts (files_error (server_error_of answer)) → HasCause before.firm before.counts after.counts (stop_of (judged_reading side answer))
      caused (Ok c) cause = cause
      caused (Err server.Failed) cause = cause
      caused (Err (server.Text line text)) cause = cause
      caused (Err (server.Fs e)) cause = reading_cause before.firm before.counts after.counts side e cause
      caused (Err server.OutOfMemory) cause = cause

      refused_never : (F : Option Refusal → Type 0) (e : FsError) → e ≡ error.Failed → Stops F (stop_for side e)
      refused_never F e is = subst (λ e. Stops F (stop_for side e)) (sym is) tt

      tells : (answer : Result Cluster ServerError) → reading_of readings side ≡ reading before.trail.present → IfOk answer (λ c. reading before.trail.present ≡ Ok c) → IfText answer (λ e. reading before.trail.present ≡ Err e) → IsUnrefused answer
          → Tells (FindsFirst before.trail.present job readings (CatalogTextIs side ∷ [])) (judged_reading side answer)
      tells (Ok c) same catalog text unrefused = (sym (ap (catalog_text side) (same ∙ catalog)), refl)
      tells (Err server.Failed) same catalog text unrefused = tt
      tells (Err (server.Text line cause)) same catalog text unrefused = inl (sym (ap (catalog_text side) (same ∙ text)))
      tells (Err (server.Fs e)) same catalog text unrefused = refused_never (FindsFirst before.trail.present job readings (CatalogTextIs side ∷ [])) e unrefused
      tells (Err server.OutOfMemory) same catalog text unrefused = tt

pub reading_read : (side : Side) (reading : Result Cluster TextError) (answer : Result Cluster ServerError) (result : Result Cluster Stop) → result ≡ judged_reading side answer → IfOk answer (λ c. reading ≡ Ok c) → IfOk result (λ c. reading ≡ Ok c)
reading_read side reading answer result is catalog = subst (λ r. IfOk r (λ c. reading ≡ Ok c)) (sym is) (of answer catalog)
  where
    of : (answer : Result Cluster ServerError) → IfOk answer (λ c. reading ≡ Ok c) → IfOk (judged_reading side answer) (λ c. reading ≡ Ok c)
    of (Ok c) catalog = catalog
    of (Err e) catalog = tt

pub reading_server : (firm : Bool) (files_before files_now : Counts) (before now : ServerCounts) (side : Side) (answer : Result Cluster ServerError) (result : Result Cluster Stop) → result ≡ judged_reading side answer
    → HasServerCause firm files_before files_now before now (server_error_of answer) → HasServerPart (server_failed result) before now
reading_server firm files_before files_now before now side answer result is cause = subst (λ r. HasServerPart (server_failed r) before now) (sym is) (of answer cause)
  where
    quiet : (e : FsError) → now.faults ≡ before.faults → before.faults ≤ now.faults → before.texts ≤ now.texts → HasServerPart (is_server_stop (stop_for side e)) before now
    quiet error.Failed same faults texts = record { faults = faults; texts = texts; rose = λ e. absurd (cc e); told = λ _. same }
    quiet error.OutOfMemory same faults texts = record { faults = faults; texts = texts; rose = λ e. absurd (cc e); told = λ _. same }
    quiet error.NotFound same faults texts = record { faults = faults; texts = texts; rose = λ e. absurd (cc e); told = λ _. same }
    quiet error.Exists same faults texts = record { faults = faults; texts = texts; rose = λ e. absurd (cc e); told = λ _. same }
    quiet error.NotDir same faults texts = record { faults = faults; texts = texts; rose = λ e. absurd (cc e); told = λ _. same }
    quiet error.WrongKind same faults texts = record { faults = faults; texts = texts; rose = λ e. absurd (cc e); told = λ _. same }
    quiet error.NotEmpty same faults texts = record { faults = faults; texts = texts; rose = λ e. absurd (cc e); told = λ _. same }
    quiet error.CrossDevice same faults texts = record { faults = faults; texts = texts; rose = λ e. absurd (cc e); told = λ _. same }
    quiet error.CrossDir same faults texts = record { faults = faults; texts = texts; rose = λ e. absurd (cc e); told = λ _. same }

    of : (answer : Result Cluster ServerError) → HasServerCause firm files_before files_now before now (server_error_of answer) → HasServerPart (server_failed (judged_reading side answer)) before now
    of (Ok c) cause = record { faults = cause.faults; texts = cause.texts; rose = λ e. absurd (cc e); told = λ _. cause.told }
    of (Err server.Failed) cause = record { faults = cause.faults; texts = cause.texts; rose = λ _. cause.rose; told = λ e. absurd (cc e) }
    of (Err (server.Text line text)) cause = record { faults = cause.faults; texts = cause.texts; rose = λ e. absurd (cc e); told = λ _. cause.told }
    of (Err (server.Fs e)) cause = quiet e cause.told cause.faults cause.texts
    of (Err server.OutOfMemory) cause = record { faults = cause.faults; texts = cause.texts; rose = λ e. absurd (cc e); told = λ _. cause.told }
