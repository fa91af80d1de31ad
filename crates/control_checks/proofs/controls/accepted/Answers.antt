use Rattle.std.proofs.Common.{◌≡◌, ◌∙◌, Some, ap, sym}
use Rattle.control_file.specs.declared.releases.Release.TheVariants.{V15, V16}
use Rattle.control_file.specs.ControlRecord.{control_in}
use Rattle.control_checks.specs.Findings.{or_first}
use Rattle.control_checks.specs.Causes.{first_by_readings}
use Rattle.control_checks.proofs.Telling.{refused_on}
use Rattle.control_checks.proofs.Contents.{read_fields}
use Rattle.control_checks.proofs.controls.accepted.Goals as goal

pub returns-in_err-controls-clause-refused : goal.returns-in_err-controls-clause-refused
returns-in_err-controls-clause-refused c =
    refused_on c.from_residual.result c.in_err-controls.field-0.0 c.from_residual.ensures.1
    ∙ sym (ap (λ f. or_first f (first_by_readings (Some (control_in c.args.old.now V15)) (Some (control_in c.args.new.now V16)))) c.in_err-controls.ensures)

pub returns-in_err-test_fields-clause-refused : goal.returns-in_err-test_fields-clause-refused
returns-in_err-test_fields-clause-refused c =
    refused_on c.from_residual-in_err-test_fields.result c.in_err-test_fields.field-0.0 c.from_residual-in_err-test_fields.ensures.1
    ∙ c.in_err-test_fields.ensures ∙ sym (read_fields c.args.old.now c.args.new.now _ _ c.in_ok-controls.ensures.0.says c.in_ok-controls.ensures.1.says)

pub returns-clause-refused : goal.returns-clause-refused
returns-clause-refused c = c.in_ok-test_fields.ensures ∙ sym (read_fields c.args.old.now c.args.new.now _ _ c.in_ok-controls.ensures.0.says c.in_ok-controls.ensures.1.says)
