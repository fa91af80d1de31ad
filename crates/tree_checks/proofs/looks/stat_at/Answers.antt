use Rattle.std.proofs.Common.{sym, subst}
use Rattle.fs_model.specs.Calls.{Stats}
use Rattle.tree_checks.proofs.Looking.{seen_reads, seen_never}
use Rattle.tree_checks.specs.Looks.{IsNoRefusal}
use Rattle.tree_checks.proofs.looks.stat_at.Goals as goal

pub returns-clause-reads : goal.returns-clause-reads
returns-clause-reads g c =
    seen_reads _ _ (Stats c.args.at.now) c.stat-answer.result c.seen.result tt c.seen.ensures c.stat-answer.ensures.told c.stat-answer.ensures.firm c.stat-answer.ensures.depth c.stat-answer.ensures.steps c.stat-answer.ensures.cause

pub returns-clause-never_refused : goal.returns-clause-never_refused
returns-clause-never_refused g c = subst IsNoRefusal (sym c.seen.ensures) (seen_never c.stat-answer.result)
