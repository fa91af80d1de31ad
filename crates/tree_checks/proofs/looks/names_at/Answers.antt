use Rattle.std.proofs.Common.{sym, subst}
use Rattle.fs_model.specs.Calls.{Lists}
use Rattle.tree_checks.proofs.Looking.{seen_reads, seen_never}
use Rattle.tree_checks.specs.Looks.{IsNoRefusal}
use Rattle.tree_checks.proofs.looks.names_at.Goals as goal

pub returns-clause-reads : goal.returns-clause-reads
returns-clause-reads g c =
    seen_reads _ _ (Lists c.args.at.now) c.list-answer.result c.seen.result tt c.seen.ensures c.list-answer.ensures.told c.list-answer.ensures.firm c.list-answer.ensures.depth c.list-answer.ensures.steps c.list-answer.ensures.cause

pub returns-clause-never_refused : goal.returns-clause-never_refused
returns-clause-never_refused g c = subst IsNoRefusal (sym c.seen.ensures) (seen_never c.list-answer.result)
