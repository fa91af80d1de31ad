use Rattle.verdicts.proofs.NamedBack.{restored}
use Rattle.verdicts.proofs.laws.naming_back_restores.Goals as goal

pub returns : goal.returns
returns c start old new ready x safe effect does = restored start old new ready x safe effect does
