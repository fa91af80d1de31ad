use Rattle.std.proofs.Common.{sym, subst, refl}
use Rattle.accepted_words.specs.declared.line.Line.{Line}
use Rattle.fs_model.proofs.Runs.{none_since}
use Rattle.upgrade_run.proofs.Testing.{test_means, test_counts, test_server}
use Rattle.upgrade_run.specs.Means.{Means}
use Rattle.upgrade_run.proofs.running.answer_line.Goals as goal

pub returns-in-SelfTest-clause-unchanged : goal.returns-in-SelfTest-clause-unchanged
returns-in-SelfTest-clause-unchanged g c told leaves = none_since _ (g.F.Fs.trail c.args.fs.now) refl

pub returns-in-SelfTest-clause-means : goal.returns-in-SelfTest-clause-means
returns-in-SelfTest-clause-means g c told =
    subst (λ (line : Line). Means g.S.Server.catalog_of (g.F.Fs.trail c.args.fs.now).present line c.self_test.result) (sym c.in-SelfTest.is) (test_means c.in-SelfTest.mode c.self_test.result c.self_test.ensures.own_cause)

pub returns-in-SelfTest-clause-counts : goal.returns-in-SelfTest-clause-counts
returns-in-SelfTest-clause-counts g c = test_counts c.in-SelfTest.mode c.self_test.result (g.F.Fs.firm c.args.fs.now) (g.F.Fs.counts c.args.fs.now) c.self_test.ensures.own_cause

pub returns-in-SelfTest-clause-server : goal.returns-in-SelfTest-clause-server
returns-in-SelfTest-clause-server g c = test_server c.self_test.result (g.S.Server.counts c.args.server.now)
