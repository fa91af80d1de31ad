use Rattle.passed_checks.proofs.Finding.{old_read, are_read, passes_files, passes_relations}
use Rattle.passed_checks.proofs.finds.found_nothing_law.Goals as goal

pub returns : goal.returns
returns c = λ read s job none. ((old_read read s job none).0, are_read read s job none, passes_files read s job none, passes_relations read s job none)
