-- The answer of the whole check, by that of its tests.
use Rattle.std.proofs.Common.{◌≡◌, inl, inr, Bool, true, Some, None, Result, Ok, Err, refl, sym, ap, subst, arith}
use Rattle.std.specs.Prelude.{IfOk, if◌then◌else◌}
use Rattle.std.specs.Option.{option_map}
use Rattle.fs_model.specs.Names.{Path}
use Rattle.fs_model.specs.State.{FsState}
use Rattle.fs_model.specs.Trail.{Counts, HasCause}
use Rattle.control_file.specs.declared.job.Job.{Job}
use Rattle.control_file.specs.declared.modes.Side.{Side}
use Rattle.control_file.specs.declared.modes.Side.TheVariants.{Old, New}
use Rattle.catalog_server.specs.Answers.{ServerCounts}
use Rattle.compat_checks.specs.declared.answer.Passed.{Passed}
use Rattle.compat_checks.specs.declared.answer.CheckError.{CheckError}
use Rattle.control_checks.specs.Findings.{overlaps}
use Rattle.control_checks.specs.declared.refusal.ControlRefusal.TheVariants as control
use Rattle.compat_checks.specs.Controls.{lifted}
use Rattle.compat_checks.specs.declared.refusal.Refusal.TheVariants.{Overlap}
use Rattle.compat_checks.specs.Order.{order}
use Rattle.upgrade_checks.specs.declared.stop.Stop.{Stop}
use Rattle.upgrade_checks.specs.declared.stop.Stop.TheVariants.{Refused, Failed, ServerFailed, Changed, OutOfMemory}
use Rattle.upgrade_checks.specs.Findings.{Readings}
use Rattle.upgrade_checks.specs.Passing.{IsFirst, Passes, FindsNothing, FindsFirst}
use Rattle.upgrade_checks.specs.Answers.{side_of, judged_all, stop_of, server_failed, Tells, HasServerPart, files_error, is_server_fault, IfRefused, IsNoChange, IsRoot, IsTold}
use Rattle.upgrade_checks.proofs.Firsts.{first_found, nothing_found, nothing_passes}

module _ (old new : Path) where
  cause_judged : (firm : Bool) (a b : Counts) (answer : Result Passed Stop) → HasCause firm a b (stop_of answer) → HasCause firm a b (files_error (judged_all old new answer))
  cause_judged firm a b (Ok passed) cause = cause
  cause_judged firm a b (Err (Refused refusal)) cause = cause
  cause_judged firm a b (Err (Failed side)) cause = cause
  cause_judged firm a b (Err ServerFailed) cause = cause
  cause_judged firm a b (Err (Changed side e)) cause = cause
  cause_judged firm a b (Err OutOfMemory) cause = cause

  server_judged : (a b : ServerCounts) (answer : Result Passed Stop) → HasServerPart (server_failed answer) a b → HasServerPart (is_server_fault (judged_all old new answer)) a b
  server_judged a b (Ok passed) part = part
  server_judged a b (Err (Refused refusal)) part = part
  server_judged a b (Err (Failed side)) part = part
  server_judged a b (Err ServerFailed) part = part
  server_judged a b (Err (Changed side e)) part = part
  server_judged a b (Err OutOfMemory) part = part

  pub cause_so : (firm : Bool) (a b : Counts) (answer : Result Passed Stop) (result : Result Passed CheckError) → result ≡ judged_all old new answer → HasCause firm a b (stop_of answer) → HasCause firm a b (files_error result)
  cause_so firm a b answer result is cause = subst (λ r. HasCause firm a b (files_error r)) (sym is) (cause_judged firm a b answer cause)

  pub server_so : (a b : ServerCounts) (answer : Result Passed Stop) (result : Result Passed CheckError) → result ≡ judged_all old new answer → HasServerPart (server_failed answer) a b → HasServerPart (is_server_fault result) a b
  server_so a b answer result is part = subst (λ r. HasServerPart (is_server_fault r) a b) (sym is) (server_judged a b answer part)

  root_of_side : (job : Job) → old ≡ job.old → new ≡ job.new → (side : Side) → IsRoot job (side_of old new side)
  root_of_side job is_old is_new Old = inl is_old
  root_of_side job is_old is_new New = inr is_new

  pub told_judged : (job : Job) → old ≡ job.old → new ≡ job.new → (answer : Result Passed Stop) → IsTold job (judged_all old new answer)
  told_judged job is_old is_new (Ok passed) = tt
  told_judged job is_old is_new (Err (Refused refusal)) = tt
  told_judged job is_old is_new (Err (Failed side)) = (root_of_side job is_old is_new side, refl)
  told_judged job is_old is_new (Err ServerFailed) = tt
  told_judged job is_old is_new (Err (Changed side e)) = root_of_side job is_old is_new side
  told_judged job is_old is_new (Err OutOfMemory) = tt

  pub ok_judged : (P : Passed → Type 0) (answer : Result Passed Stop) → IfOk answer P → IfOk (judged_all old new answer) P
  ok_judged P (Ok passed) has = has
  ok_judged P (Err stop) has = tt

  module _ (s : FsState) (job : Job) (readings : Readings) where
    pub nothing_judged : (answer : Result Passed Stop) → Tells (FindsFirst s job readings order) answer → IfOk (judged_all old new answer) (λ _. FindsNothing s job readings)
    nothing_judged (Ok passed) tells = nothing_found s job readings tells
    nothing_judged (Err stop) tells = tt

    pub passes_judged : (answer : Result Passed Stop) → Tells (FindsFirst s job readings order) answer → IfOk (judged_all old new answer) (λ _. Passes s job readings)
    passes_judged (Ok passed) tells = nothing_passes s job readings (nothing_found s job readings tells)
    passes_judged (Err stop) tells = tt

    pub first_judged : (answer : Result Passed Stop) → Tells (FindsFirst s job readings order) answer → IfRefused (judged_all old new answer) (IsFirst s job readings)
    first_judged (Ok passed) tells = tt
    first_judged (Err (Refused refusal)) tells = first_found s job readings refusal tells
    first_judged (Err (Failed side)) tells = tt
    first_judged (Err ServerFailed) tells = tt
    first_judged (Err (Changed side e)) tells = tt
    first_judged (Err OutOfMemory) tells = tt

    pub no_change_judged : (answer : Result Passed Stop) → Tells (FindsFirst s job readings order) answer → IsNoChange (judged_all old new answer)
    no_change_judged (Ok passed) tells = tt
    no_change_judged (Err (Refused refusal)) tells = tt
    no_change_judged (Err (Failed side)) tells = tt
    no_change_judged (Err ServerFailed) tells = tt
    no_change_judged (Err (Changed side e)) tells = absurd tells
    no_change_judged (Err OutOfMemory) tells = tt

    -- the directories overlap, which is the first condition
    pub overlap_first : overlaps job ≡ true → IsFirst s job readings Overlap
    overlap_first is = record {
      holds = sym (ap (λ b. option_map lifted (if b then Some control.Overlap else None)) is);
      earlier = λ other below. absurd (omega (arith, below));
    }
