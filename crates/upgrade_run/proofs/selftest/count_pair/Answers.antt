use Rattle.std.proofs.Common.{◌≡◌, IfOk, false, sym, subst}
use Rattle.fs_model.specs.Names.{Path}
use Rattle.upgrade_answers.specs.declared.answer.Answer.{Answer}
use Rattle.upgrade_run.specs.Causes.{UpgradeHasCause}
use Rattle.upgrade_run.specs.Means.{IfDone, HasBegun}
use Rattle.upgrade_run.specs.Ends.{EndsFinished}
use Rattle.upgrade_run.specs.SelfTests.{pair_job, HasRows}
use Rattle.upgrade_run.proofs.Testing.{lack_cause, tested_from}
use Rattle.upgrade_run.proofs.selftest.count_pair.Goals as goal

pub returns-in-Done-clause-own_cause : goal.returns-in-Done-clause-own_cause
returns-in-Done-clause-own_cause g c job before now server_before server_now cause = c.counted_answer.ensures.own_cause job.mode

pub returns-in-Done-clause-tested : goal.returns-in-Done-clause-tested
returns-in-Done-clause-tested g c told mode s finished =
    let read = g.S.Server.catalog_of in
    let x = (g.F.Fs.trail c.args.fs.now).present in
    let ends = subst (λ (answer : Answer). IfDone answer (EndsFinished read (pair_job mode) s x)) c.in-Done.is finished in
    let has = subst (λ (root : Path). IfOk c.rows_read-rows.result (HasRows read root x)) c.requires.new (c.rows_read-rows.ensures.rows told) in
    tested_from read c.args.tables mode s x c.in-Done.summary c.rows_read-rows.result ends has c.counted_answer.result c.counted_answer.ensures.tested

pub returns-in-NoMemory-clause-begun : goal.returns-in-NoMemory-clause-begun
returns-in-NoMemory-clause-begun g c = subst HasBegun c.in-NoMemory.is c.requires.begun

pub returns-in-NoMemory-clause-own_cause : goal.returns-in-NoMemory-clause-own_cause
returns-in-NoMemory-clause-own_cause g c job before now server_before server_now cause =
    lack_cause job c.in-NoMemory.at before now server_before server_now (subst (λ (answer : Answer). UpgradeHasCause job false answer before now server_before server_now) c.in-NoMemory.is cause)
