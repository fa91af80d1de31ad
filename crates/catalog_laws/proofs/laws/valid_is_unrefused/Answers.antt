use Rattle.catalog_laws.proofs.Whole.{unrefused}
use Rattle.catalog_laws.proofs.laws.valid_is_unrefused.Goals as goal

pub returns : goal.returns
returns c = unrefused
