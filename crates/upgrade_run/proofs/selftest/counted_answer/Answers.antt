use Rattle.std.proofs.Common.{ℕ, Result, IfErr, subst}
use Rattle.upgrade_answers.specs.declared.answer.Answer.{Answer}
use Rattle.upgrade_run.specs.SelfTests.{IsUnread}
use Rattle.upgrade_run.proofs.Testing.{unread_begun, unread_cause, unread_untested}
use Rattle.upgrade_run.proofs.selftest.counted_answer.Goals as goal

pub returns-in-Err-clause-begun : goal.returns-in-Err-clause-begun
returns-in-Err-clause-begun c = unread_begun c.in-Err.answer (subst (λ (r : Result ℕ Answer). IfErr r IsUnread) c.in-Err.is c.requires.unread)

pub returns-in-Err-clause-own_cause : goal.returns-in-Err-clause-own_cause
returns-in-Err-clause-own_cause c mode = unread_cause mode c.in-Err.answer (subst (λ (r : Result ℕ Answer). IfErr r IsUnread) c.in-Err.is c.requires.unread)

pub returns-in-Err-clause-tested : goal.returns-in-Err-clause-tested
returns-in-Err-clause-tested c = unread_untested _ c.in-Err.answer (subst (λ (r : Result ℕ Answer). IfErr r IsUnread) c.in-Err.is c.requires.unread)
