use Rattle.std.proofs.Common.{Ok, sym, subst, ◌++◌}
use Rattle.upgrade_checks.specs.Findings.{Readings}
use Rattle.upgrade_checks.specs.Passing.{FindsFirst}
use Rattle.upgrade_checks.specs.Parts.{owner_part, column_part}
use Rattle.upgrade_checks.specs.Answers.{refused}
use Rattle.upgrade_checks.proofs.Testing.{first_some, first_later, refused_on}
use Rattle.upgrade_checks.proofs.catalogs.test_catalogs.Goals as goal

pub returns-in_err-test_owners : goal.returns-in_err-test_owners
returns-in_err-test_owners c s job =
    let readings : Readings = record { old = Ok c.args.old.now; new = Ok c.args.new.now } in
    subst (FindsFirst s job readings (owner_part ++ column_part)) (sym (refused_on c.from_residual.result c.in_err-test_owners.field-0.0 c.from_residual.ensures.1))
    (first_some job readings s owner_part column_part c.in_err-test_owners.field-0.0 (c.in_err-test_owners.ensures s job))

pub returns : goal.returns
returns c s job =
    let readings : Readings = record { old = Ok c.args.old.now; new = Ok c.args.new.now } in
    first_later job readings s owner_part column_part (refused c.test_columns.result) (c.in_ok-test_owners.ensures s job) (c.test_columns.ensures s job)
