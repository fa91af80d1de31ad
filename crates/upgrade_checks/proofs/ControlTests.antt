-- What the test of directories, releases and control files tells.
use Rattle.std.proofs.Common.{◌≡◌, inl, inr, true, false, List, [], ◌∷◌, map, Option, Some, None, Result, Ok, Err, refl, sym, subst}
use Rattle.std.specs.Option.{option_map}
use Rattle.fs_model.specs.State.{FsState}
use Rattle.fs_model.specs.Observed.{Observed, OnlyReads}
use Rattle.control_file.specs.declared.job.Job.{Job}
use Rattle.control_checks.specs.declared.refusal.ControlRefusal.{ControlRefusal}
use Rattle.control_checks.specs.declared.records.Controls.{Controls}
use Rattle.control_checks.specs.declared.stop.CheckStop.{CheckStop}
use Rattle.control_checks.specs.declared.stop.CheckStop.TheVariants as controls
use Rattle.control_checks.specs.Answers.{stop_of as control_stop_of, Tells as ControlTells}
use Rattle.control_checks.specs.Findings.{ControlCondition, finding, LieApart, HasDir, HasVersion, VersionIs, IsStopped, IsEnabled, HasControl, ControlIsWhole, ControlIsSound, ControlVersionIs as ControlVersionFits, CatalogVersionIs as CatalogVersionFits, IsShutDown, BlocksFit, FieldsAgree, order as control_order, first_of as control_first, or_first as control_or}
use Rattle.compat_checks.specs.Controls.{lifted, lifted_condition}
use Rattle.compat_checks.specs.declared.refusal.Refusal.{Refusal}
use Rattle.upgrade_checks.specs.declared.stop.Stop.{Stop}
use Rattle.upgrade_checks.specs.Findings.{Readings, Finds}
use Rattle.upgrade_checks.specs.Passing.{FindsFirst}
use Rattle.upgrade_checks.specs.Answers.{judged_controls, Tested}

lifted_finds : (s : FsState) (job : Job) (readings : Readings) (c : ControlCondition) → Finds s job readings (lifted_condition c) (option_map lifted (finding s job c))
lifted_finds s job readings LieApart = refl
lifted_finds s job readings (HasDir side) = refl
lifted_finds s job readings (HasVersion side) = refl
lifted_finds s job readings (VersionIs side) = refl
lifted_finds s job readings (IsStopped side) = refl
lifted_finds s job readings IsEnabled = refl
lifted_finds s job readings (HasControl side) = refl
lifted_finds s job readings (ControlIsWhole side) = refl
lifted_finds s job readings (ControlIsSound side) = refl
lifted_finds s job readings (ControlVersionFits side) = refl
lifted_finds s job readings (CatalogVersionFits side) = refl
lifted_finds s job readings (IsShutDown side) = refl
lifted_finds s job readings (BlocksFit side) = refl
lifted_finds s job readings FieldsAgree = refl

-- what the tests of these conditions find first is, as one of all, what theirs do
pub lifted_first : (s : FsState) (job : Job) (readings : Readings) (conditions : List ControlCondition) → FindsFirst s job readings (map lifted_condition conditions) (option_map lifted (control_first s job conditions))
lifted_first s job readings [] = refl
lifted_first s job readings (c ∷ conditions) =
    first_of_two (option_map lifted (finding s job c)) (finding s job c) refl (lifted_finds s job readings c) (lifted_first s job readings conditions)
  where
    first_of_two : (lifted_found : Option Refusal) (found : Option ControlRefusal) → lifted_found ≡ option_map lifted found → Finds s job readings (lifted_condition c) lifted_found
        → FindsFirst s job readings (map lifted_condition conditions) (option_map lifted (control_first s job conditions))
        → FindsFirst s job readings (lifted_condition c ∷ map lifted_condition conditions) (option_map lifted (control_or found (control_first s job conditions)))
    first_of_two lifted_found (Some refusal) is finds rest = inl (subst (Finds s job readings (lifted_condition c)) is finds)
    first_of_two lifted_found None is finds rest = none_then (control_first s job conditions) (subst (Finds s job readings (lifted_condition c)) is finds) rest
      where
        none_then : (later : Option ControlRefusal) → Finds s job readings (lifted_condition c) None → FindsFirst s job readings (map lifted_condition conditions) (option_map lifted later)
            → FindsFirst s job readings (lifted_condition c ∷ map lifted_condition conditions) (option_map lifted later)
        none_then None none rest = (none, rest)
        none_then (Some refusal) none rest = inr (none, rest)

pub controls_tested : (job : Job) (readings : Readings) (before after : Observed) (answer : Result Controls CheckStop) (result : Result Controls Stop) → result ≡ judged_controls answer → OnlyReads before after (control_stop_of answer)
    → (before.told ≡ true → ControlTells (control_first before.trail.present job control_order) answer) → Tested false job readings (map lifted_condition control_order) before after result
controls_tested job readings before after answer result is reads tells = subst (λ r. Tested false job readings (map lifted_condition control_order) before after r) (sym is) (of answer reads tells)
  where
    first : FindsFirst before.trail.present job readings (map lifted_condition control_order) (option_map lifted (control_first before.trail.present job control_order))
    first = lifted_first before.trail.present job readings control_order

    of : (answer : Result Controls CheckStop) → OnlyReads before after (control_stop_of answer) → (before.told ≡ true → ControlTells (control_first before.trail.present job control_order) answer)
        → Tested false job readings (map lifted_condition control_order) before after (judged_controls answer)
    of (Ok read) reads tells = record {
      told = reads.told;
      firm = reads.firm;
      unchanged = reads.unchanged;
      cause = reads.cause;
      quiet = λ _. refl;
      tells = λ is. subst (λ f. FindsFirst before.trail.present job readings (map lifted_condition control_order) (option_map lifted f)) (tells is) first;
    }
    of (Err (controls.Refused refusal)) reads tells = record {
      told = reads.told;
      firm = reads.firm;
      unchanged = reads.unchanged;
      cause = reads.cause;
      quiet = λ _. refl;
      tells = λ is. subst (λ f. FindsFirst before.trail.present job readings (map lifted_condition control_order) (option_map lifted f)) (tells is) first;
    }
    of (Err (controls.Failed side)) reads tells = record { told = reads.told; firm = reads.firm; unchanged = reads.unchanged; cause = reads.cause; quiet = λ _. refl; tells = λ is. tt }
    of (Err controls.OutOfMemory) reads tells = record { told = reads.told; firm = reads.firm; unchanged = reads.unchanged; cause = reads.cause; quiet = λ _. refl; tells = λ is. tt }
