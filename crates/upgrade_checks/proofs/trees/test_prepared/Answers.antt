use Rattle.std.proofs.Common.{◌∙◌, ap}
use Rattle.tree_checks.specs.Prepared.{is_filled, twophase_at}
use Rattle.compat_checks.specs.declared.refusal.Refusal.TheVariants.{Prepared}
use Rattle.compat_checks.specs.Order.{PreparedIs}
use Rattle.upgrade_checks.specs.Findings.{refused_if}
use Rattle.upgrade_checks.proofs.Testing.{flag_tested}
use Rattle.upgrade_checks.proofs.trees.test_prepared.Goals as goal

pub returns : goal.returns
returns g c = record {
  tested = λ job readings root.
      flag_tested job readings (PreparedIs c.args.side) _ _ c.args.side (λ s. is_filled s.names (twophase_at c.args.root.now)) (Prepared c.args.side) c.has_prepared-answer.result c.judged.result
      (λ s found is. is ∙ ap (λ path. refused_if (is_filled s.names (twophase_at path)) (Prepared c.args.side)) root)
      c.has_prepared-answer.ensures.reads c.has_prepared-answer.ensures.never_refused c.has_prepared-answer.ensures.finds c.judged.ensures;
}
