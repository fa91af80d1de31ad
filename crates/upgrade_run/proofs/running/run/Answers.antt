use Rattle.upgrade_run.proofs.Completing.{completes}
use Rattle.upgrade_run.proofs.running.run.Goals as goal

pub returns-clause-completes : goal.returns-clause-completes
returns-clause-completes g c told no_fault no_server_fault line asks =
    completes (g.F.Fs.counts c.args.fs.now) (g.F.Fs.counts c.answer-answer.new.fs) (g.S.Server.counts c.args.server.now) (g.S.Server.counts c.answer-answer.new.server) no_fault no_server_fault
    g.S.Server.catalog_of (g.F.Fs.trail c.args.fs.now).present line c.answer-answer.result (c.answer-answer.ensures.means told line asks) (c.answer-answer.ensures.own_cause line asks)
