use Rattle.std.proofs.Common.{◌≡◌, sym, subst}
use Rattle.std.specs.Prelude.{is_some}
use Rattle.std.specs.FinMap.{get}
use Rattle.crash_safety.specs.Places.{disabled_at}
use Rattle.control_file.specs.declared.modes.Side.TheVariants.{Old}
use Rattle.compat_checks.specs.declared.refusal.Refusal.TheVariants.{ControlOldExists}
use Rattle.compat_checks.specs.Order.{ControlOldExistsIs}
use Rattle.upgrade_checks.specs.Findings.{refused_if, OfLink}
use Rattle.upgrade_checks.proofs.Testing.{flag_tested}
use Rattle.upgrade_checks.proofs.trees.test_old_control.Goals as goal

pub returns : goal.returns
returns g c = record {
  tested = λ readings link.
      flag_tested c.args.job.now readings ControlOldExistsIs _ _ Old (λ s. is_some (get s.names (disabled_at c.args.job.now.old))) ControlOldExists c.has_disabled_control-answer.result c.judged.result
      (λ s found is. subst (λ mode. OfLink mode (λ found. found ≡ refused_if (is_some (get s.names (disabled_at c.args.job.now.old))) ControlOldExists) found) (sym link) is)
      c.has_disabled_control-answer.ensures.reads c.has_disabled_control-answer.ensures.never_refused c.has_disabled_control-answer.ensures.finds c.judged.ensures;
}
