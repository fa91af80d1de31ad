use Rattle.std.proofs.Common.{◌∙◌, ap, sym}
use Rattle.control_checks.specs.declared.stop.CheckStop.TheVariants.{Refused}
use Rattle.control_checks.specs.Findings.{missing_dir}
use Rattle.control_checks.proofs.Telling.{reads_on, tells_on}
use Rattle.control_checks.proofs.clusters.test_dir.Goals as goal

pub returns-in_err-kind-clause-reads : goal.returns-in_err-kind-clause-reads
returns-in_err-kind-clause-reads g c = reads_on _ _ c.from_residual.result c.in_err-kind.field-0.0 c.from_residual.ensures.1 c.in_err-kind.ensures.reads

pub returns-in_err-kind-clause-tells : goal.returns-in_err-kind-clause-tells
returns-in_err-kind-clause-tells g c told formed = tells_on _ c.from_residual.result c.in_err-kind.field-0.0 c.from_residual.ensures.1 (c.in_err-kind.ensures.plain _)

pub returns-in_err-missing_dir-clause-reads : goal.returns-in_err-missing_dir-clause-reads
returns-in_err-missing_dir-clause-reads g c =
    reads_on _ _ c.from_residual-in_err-missing_dir.result (Refused c.in_err-missing_dir.field-0.0) c.from_residual-in_err-missing_dir.ensures.1 c.in_ok-kind.ensures.reads

pub returns-in_err-missing_dir-clause-tells : goal.returns-in_err-missing_dir-clause-tells
returns-in_err-missing_dir-clause-tells g c told formed =
    tells_on _ c.from_residual-in_err-missing_dir.result (Refused c.in_err-missing_dir.field-0.0) c.from_residual-in_err-missing_dir.ensures.1
    (sym (c.in_err-missing_dir.ensures ∙ ap (missing_dir c.args.side) (c.in_ok-kind.ensures.kind told formed)))

pub returns-clause-tells : goal.returns-clause-tells
returns-clause-tells g c told formed = sym (c.in_ok-missing_dir.ensures ∙ ap (missing_dir c.args.side) (c.in_ok-kind.ensures.kind told formed))
