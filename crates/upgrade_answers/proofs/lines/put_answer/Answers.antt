use Rattle.std.proofs.Common.{◌++◌, ap}
use Rattle.std.specs.Prelude.{codes}
use Rattle.upgrade_answers.proofs.Pieces.{puts, puts_same, put_for_answer}
use Rattle.upgrade_answers.proofs.lines.put_answer.Goals as goal

pub returns-in-Checked-clause-appended : goal.returns-in-Checked-clause-appended
returns-in-Checked-clause-appended g c told = put_for_answer _ _ _ _ _ c.in-Checked.is (puts _ _ _ _ (c.put.ensures.appended told) (c.put.ensures.part told))

pub returns-in-FsFault-clause-appended : goal.returns-in-FsFault-clause-appended
returns-in-FsFault-clause-appended g c told =
    put_for_answer _ _ _ _ _ c.in-FsFault.is (puts_same _ _ _ _ _ (ap (λ t. (codes "file fault in " ++ t) ++ codes "\n") c.phase_text.ensures) (c.put_three.ensures.appended told))

pub returns-in-ServerFault-clause-appended : goal.returns-in-ServerFault-clause-appended
returns-in-ServerFault-clause-appended g c told =
    put_for_answer _ _ _ _ _ c.in-ServerFault.is (puts_same _ _ _ _ _ (ap (λ t. (codes "server fault in " ++ t) ++ codes "\n") c.phase_text-in-ServerFault.ensures) (c.put_three-in-ServerFault.ensures.appended told))

pub returns-in-NoMemory-clause-appended : goal.returns-in-NoMemory-clause-appended
returns-in-NoMemory-clause-appended g c told =
    put_for_answer _ _ _ _ _ c.in-NoMemory.is (puts_same _ _ _ _ _ (ap (λ t. (codes "out of memory in " ++ t) ++ codes "\n") c.phase_text-in-NoMemory.ensures) (c.put_three-in-NoMemory.ensures.appended told))
