use Rattle.std.proofs.Common.{ap, sym}
use Rattle.upgrade_answers.specs.Lines.{change_text}
use Rattle.upgrade_answers.proofs.Pieces.{puts, puts_same}
use Rattle.upgrade_answers.proofs.lines.put_change.Goals as goal

pub returns-in-Differs-clause-appended : goal.returns-in-Differs-clause-appended
returns-in-Differs-clause-appended g c told = puts_same _ _ _ _ _ (ap change_text (sym c.in-Differs.is)) (puts _ _ _ _ (c.put-in-Differs.ensures.appended told) (c.put-in-Differs.ensures.part told))
