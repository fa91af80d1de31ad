use Rattle.std.proofs.Common.{◌∙◌, IfErr, sym, subst}
use Rattle.control_file.specs.declared.job.Job.{Job}
use Rattle.control_file.specs.declared.modes.Side.{Side}
use Rattle.control_file.specs.declared.modes.Side.TheVariants.{New}
use Rattle.phase_names.specs.declared.names.PhaseName.TheVariants.{Disable, Transfer}
use Rattle.phase_facts.specs.Held.{IsSafeSince}
use Rattle.phases.specs.Facts.{LinksKnownSince}
use Rattle.phases.specs.Faults.{root_of, IsOfFiles, IsNoChange}
use Rattle.upgrade_run.specs.Ends.{IsFailedIn, IsLackCounted}
use Rattle.upgrade_run.proofs.Ending.{failed_in_files, files_in, handed_on, takes_none, takes_none_at, lacks_later}
use Rattle.upgrade_run.proofs.Framing.{framed_then}
use Rattle.upgrade_run.proofs.upgrade.transfer.Goals as goal

pub link-requires : goal.link-requires
link-requires g c = record {
  fact = λ told.
      let before = sym c.disable.ensures.told ∙ told in
      let (read, opening, fact) = c.requires.fact before in
      (read, opening, c.in_ok-disable-in-Link.ensures.fact before read opening fact);
}

pub returns-in-Copy-clause-fault : goal.returns-in-Copy-clause-fault
returns-in-Copy-clause-fault g c = failed_in_files c.copy.result c.args.statused.job New Transfer tt c.copy.ensures.phase c.copy.ensures.fault

pub returns-in-Copy-clause-files : goal.returns-in-Copy-clause-files
returns-in-Copy-clause-files g c = files_in c.copy.result c.args.statused.job New c.copy.ensures.fault

pub returns-in_ok-disable-in-Link-clause-fact : goal.returns-in_ok-disable-in-Link-clause-fact
returns-in_ok-disable-in-Link-clause-fact g c told read opening fact = c.link.ensures.fact (c.disable.ensures.told ∙ told) read opening (c.in_ok-disable-in-Link.ensures.fact told read opening fact)

pub returns-in_ok-disable-in-Link-clause-safe : goal.returns-in_ok-disable-in-Link-clause-safe
returns-in_ok-disable-in-Link-clause-safe g c told read opening fact =
    subst (λ (job : Job). IsSafeSince job opening (g.F.Fs.trail c.link.new.fs)) c.in_ok-disable-in-Link.ensures.job
    (c.link.ensures.safe (c.disable.ensures.told ∙ told) read opening (c.in_ok-disable-in-Link.ensures.fact told read opening fact))

pub returns-in_ok-disable-in-Link-clause-links : goal.returns-in_ok-disable-in-Link-clause-links
returns-in_ok-disable-in-Link-clause-links g c told read opening fact settled =
    subst (λ (job : Job). LinksKnownSince job opening (g.F.Fs.trail c.link.new.fs)) c.in_ok-disable-in-Link.ensures.job
    (c.link.ensures.links (c.disable.ensures.told ∙ told) read opening (c.in_ok-disable-in-Link.ensures.fact told read opening fact) settled)

pub returns-in_ok-disable-in-Link-clause-fault : goal.returns-in_ok-disable-in-Link-clause-fault
returns-in_ok-disable-in-Link-clause-fault g c =
    let job = c.in_ok-disable-in-Link.ensures.job in
    subst (λ (job : Job). IfErr c.link.result (IsFailedIn job)) job (failed_in_files c.link.result _ New Transfer tt c.link.ensures.phase c.link.ensures.fault)

pub returns-in_ok-disable-in-Link-clause-files : goal.returns-in_ok-disable-in-Link-clause-files
returns-in_ok-disable-in-Link-clause-files g c =
    let job = c.in_ok-disable-in-Link.ensures.job in
    subst (λ (job : Job). IfErr c.link.result (λ error. (of : Side) × IsOfFiles (root_of job of) error.kind)) job (files_in c.link.result c.in_ok-disable-in-Link.field-0.job New c.link.ensures.fault)

pub returns-in-Copy-clause-unrefused : goal.returns-in-Copy-clause-unrefused
returns-in-Copy-clause-unrefused g c told read opening fact = c.copy.ensures.unrefused told read opening fact

pub returns-in_err-disable-in-Link-clause-unrefused : goal.returns-in_err-disable-in-Link-clause-unrefused
returns-in_err-disable-in-Link-clause-unrefused g c told read opening fact =
    handed_on (λ error. IsNoChange error.kind) c.from_residual.result _ c.from_residual.ensures.1 (c.in_err-disable-in-Link.ensures.unrefused told)

pub returns-in_ok-disable-in-Link-clause-unrefused : goal.returns-in_ok-disable-in-Link-clause-unrefused
returns-in_ok-disable-in-Link-clause-unrefused g c told read opening fact =
    c.link.ensures.unrefused (c.disable.ensures.told ∙ told) read opening (c.in_ok-disable-in-Link.ensures.fact told read opening fact)

pub returns-in-Copy-clause-lacked : goal.returns-in-Copy-clause-lacked
returns-in-Copy-clause-lacked g c = takes_none c.copy.result Transfer (g.F.Fs.firm c.args.fs.now) (g.F.Fs.counts c.args.fs.now) (g.F.Fs.counts c.copy.new.fs) (λ rose. rose) c.copy.ensures.phase c.copy.ensures.cause

pub returns-in_err-disable-in-Link-clause-lacked : goal.returns-in_err-disable-in-Link-clause-lacked
returns-in_err-disable-in-Link-clause-lacked g c =
    let before = g.F.Fs.counts c.args.fs.now in
    let now = g.F.Fs.counts c.disable.new.fs in
    handed_on (IsLackCounted before now) c.from_residual.result _ c.from_residual.ensures.1
    (takes_none_at c.in_err-disable-in-Link.field-0.0 Disable (g.F.Fs.firm c.args.fs.now) before now (λ rose. rose) c.in_err-disable-in-Link.ensures.phase c.in_err-disable-in-Link.ensures.cause)

pub returns-in_ok-disable-in-Link-clause-lacked : goal.returns-in_ok-disable-in-Link-clause-lacked
returns-in_ok-disable-in-Link-clause-lacked g c =
    let middle = g.F.Fs.counts c.disable.new.fs in
    let now = g.F.Fs.counts c.link.new.fs in
    lacks_later c.link.result (g.F.Fs.counts c.args.fs.now) middle now c.in_ok-disable-in-Link.ensures.cause.lacks
    (takes_none c.link.result Transfer (g.F.Fs.firm c.disable.new.fs) middle now (λ rose. rose) c.link.ensures.phase c.link.ensures.cause)

pub returns-in_ok-disable-in-Link-clause-frame : goal.returns-in_ok-disable-in-Link-clause-frame
returns-in_ok-disable-in-Link-clause-frame g c told read opening fact framed =
    let front = c.disable.ensures.frame told read opening fact framed in
    framed_then c.args.statused.job c.in_ok-disable-in-Link.field-0.job opening.present (g.F.Fs.trail c.args.fs.now) (g.F.Fs.trail c.disable.new.fs) (g.F.Fs.trail c.link.new.fs) c.in_ok-disable-in-Link.ensures.job front
    (c.link.ensures.frame (c.disable.ensures.told ∙ told) read opening (c.in_ok-disable-in-Link.ensures.fact told read opening fact))
