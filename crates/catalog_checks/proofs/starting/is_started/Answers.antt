use Rattle.std.proofs.Common.{◌∙◌, sym}
use Rattle.catalog_checks.proofs.Fresh.{is_started, started_has}
use Rattle.catalog_checks.proofs.starting.is_started.Goals as goal

pub returns : goal.returns
returns c = (
  λ yes. is_started c.args.catalog.now c.bootstrap-valid.ensures.valid (sym c.has_first_objects.ensures ∙ yes),
  λ same. c.has_first_objects.ensures ∙ started_has c.args.catalog.now same,
)
