use Rattle.std.proofs.Common.{sym, subst}
use Rattle.fs_model.specs.Calls.{ReadsLink}
use Rattle.tree_checks.proofs.Looking.{seen_reads, seen_never}
use Rattle.tree_checks.specs.Looks.{IsNoRefusal}
use Rattle.tree_checks.proofs.looks.target_at.Goals as goal

pub returns-clause-reads : goal.returns-clause-reads
returns-clause-reads g c =
    seen_reads _ _ (ReadsLink c.args.at.now) c.read_link-answer.result c.seen.result tt c.seen.ensures c.read_link-answer.ensures.told c.read_link-answer.ensures.firm c.read_link-answer.ensures.depth c.read_link-answer.ensures.steps c.read_link-answer.ensures.cause

pub returns-clause-never_refused : goal.returns-clause-never_refused
returns-clause-never_refused g c = subst IsNoRefusal (sym c.seen.ensures) (seen_never c.read_link-answer.result)
