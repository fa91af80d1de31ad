use Rattle.std.proofs.Common.{Err, ap, subst}
use Rattle.command_words.specs.Words.{texts}
use Rattle.accepted_words.specs.declared.line.Line.{Line}
use Rattle.accepted_words.specs.declared.line.Line.TheVariants.{Upgrade, SelfTest}
use Rattle.fs_model.proofs.Runs.{none_since}
use Rattle.phase_frames.proofs.Kept.{start_framed}
use Rattle.accepted_words.proofs.Faults.{one_line}
use Rattle.upgrade_run.specs.Causes.{HasOwnCause}
use Rattle.upgrade_run.specs.Means.{Means}
use Rattle.upgrade_run.proofs.running.answer.Goals as goal

pub returns-in-Ok-clause-means : goal.returns-in-Ok-clause-means
returns-in-Ok-clause-means g c told line asks =
    let s = (g.F.Fs.trail c.args.fs.now).present in
    subst (λ (l : Line). Means g.S.Server.catalog_of s l c.answer_line.result) (one_line (texts c.args.words.now) c.in-Ok.line line c.in-Ok.ensures.accepted asks) (c.answer_line.ensures.means told)

pub returns-in-Ok-clause-crashes : goal.returns-in-Ok-clause-crashes
returns-in-Ok-clause-crashes g c told settled late job check asks = c.answer_line.ensures.crashes told settled late job check (one_line (texts c.args.words.now) c.in-Ok.line (Upgrade job check) c.in-Ok.ensures.accepted asks)

pub returns-in-Ok-clause-finished : goal.returns-in-Ok-clause-finished
returns-in-Ok-clause-finished g c told job check asks = c.answer_line.ensures.finished told job check (one_line (texts c.args.words.now) c.in-Ok.line (Upgrade job check) c.in-Ok.ensures.accepted asks)

pub returns-in-Ok-clause-own_cause : goal.returns-in-Ok-clause-own_cause
returns-in-Ok-clause-own_cause g c line asks =
    let before = g.F.Fs.counts c.args.fs.now in
    let now = g.F.Fs.counts c.answer_line.new.fs in
    let server_before = g.S.Server.counts c.args.server.now in
    let server_now = g.S.Server.counts c.answer_line.new.server in
    subst (λ (l : Line). HasOwnCause l c.answer_line.result before now server_before server_now) (one_line (texts c.args.words.now) c.in-Ok.line line c.in-Ok.ensures.accepted asks) c.answer_line.ensures.own_cause

pub returns-in-Err-Usage-clause-means : goal.returns-in-Err-Usage-clause-means
returns-in-Err-Usage-clause-means g c told line asks = absurd ((c.in-Err-Usage.ensures.usage c.in-Err-Usage.position (ap (λ e. Err e) c.in-Err-Usage.field-0-is)).not_accepted line asks)

pub returns-in-Err-Usage-clause-own_cause : goal.returns-in-Err-Usage-clause-own_cause
returns-in-Err-Usage-clause-own_cause g c line asks = absurd ((c.in-Err-Usage.ensures.usage c.in-Err-Usage.position (ap (λ e. Err e) c.in-Err-Usage.field-0-is)).not_accepted line asks)

pub returns-in-Ok-clause-frame : goal.returns-in-Ok-clause-frame
returns-in-Ok-clause-frame g c told job check asks = c.answer_line.ensures.frame told job check (one_line (texts c.args.words.now) c.in-Ok.line (Upgrade job check) c.in-Ok.ensures.accepted asks)

pub returns-in-Err-Usage-clause-frame : goal.returns-in-Err-Usage-clause-frame
returns-in-Err-Usage-clause-frame g c told job check asks = none_since _ (g.F.Fs.trail c.args.fs.now) (start_framed job (g.F.Fs.trail c.args.fs.now).present)

pub returns-in-Err-OutOfMemory-clause-frame : goal.returns-in-Err-OutOfMemory-clause-frame
returns-in-Err-OutOfMemory-clause-frame g c told job check asks = none_since _ (g.F.Fs.trail c.args.fs.now) (start_framed job (g.F.Fs.trail c.args.fs.now).present)

pub returns-in-Ok-clause-apart : goal.returns-in-Ok-clause-apart
returns-in-Ok-clause-apart g c tables mode asks = c.answer_line.ensures.apart tables mode (one_line (texts c.args.words.now) c.in-Ok.line (SelfTest tables mode) c.in-Ok.ensures.accepted asks)

pub returns-in-Ok-clause-tested : goal.returns-in-Ok-clause-tested
returns-in-Ok-clause-tested g c tables mode asks = c.answer_line.ensures.tested tables mode (one_line (texts c.args.words.now) c.in-Ok.line (SelfTest tables mode) c.in-Ok.ensures.accepted asks)
