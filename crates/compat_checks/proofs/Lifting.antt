-- The first refusal of directories, releases and control files is the first of all, where there is one.
use Rattle.std.proofs.Common.{◌≡◌, ◌∙◌, List, [], ◌∷◌, ◌++◌, map, Option, Some, None, refl, sym, ap}
use Rattle.std.specs.Option.{option_map}
use Rattle.fs_model.specs.State.{FsState}
use Rattle.control_file.specs.declared.job.Job.{Job}
use Rattle.control_checks.specs.declared.refusal.ControlRefusal.{ControlRefusal}
use Rattle.control_checks.specs.Findings.{ControlCondition, finding, or_first as control_or, first_of as control_first, order as control_order}
use Rattle.compat_checks.specs.declared.refusal.Refusal.{Refusal}
use Rattle.compat_checks.specs.Order.{Condition, order}
use Rattle.compat_checks.specs.First.{Findings, or_first, first_of}
use Rattle.compat_checks.specs.Controls.{lifted, lifted_condition, later_conditions}

or_first_assoc : (a b c : Option Refusal) → or_first (or_first a b) c ≡ or_first a (or_first b c)
or_first_assoc None b c = refl
or_first_assoc (Some refusal) b c = refl

lifted_or : (a b : Option ControlRefusal) → option_map lifted (control_or a b) ≡ or_first (option_map lifted a) (option_map lifted b)
lifted_or None b = refl
lifted_or (Some refusal) b = refl

pub controls_lead : map lifted_condition control_order ++ later_conditions ≡ order
controls_lead = refl

module _ (found : Findings) (s : FsState) (job : Job) (same : (c : ControlCondition) → found (lifted_condition c) ≡ option_map lifted (finding s job c)) where
  lifted_first : (conditions : List ControlCondition) (later : List Condition) → first_of found (map lifted_condition conditions ++ later) ≡ or_first (option_map lifted (control_first s job conditions)) (first_of found later)
  lifted_first [] later = refl
  lifted_first (c ∷ conditions) later =
      (λ i. or_first (same c i) (lifted_first conditions later i))
      ∙ sym (or_first_assoc (option_map lifted (finding s job c)) (option_map lifted (control_first s job conditions)) (first_of found later))
      ∙ ap (λ f. or_first f (first_of found later)) (sym (lifted_or (finding s job c) (control_first s job conditions)))

  pub controls_first : first_of found order ≡ or_first (option_map lifted (control_first s job control_order)) (first_of found later_conditions)
  controls_first = lifted_first control_order later_conditions
