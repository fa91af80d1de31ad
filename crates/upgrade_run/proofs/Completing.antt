-- Where neither the file system nor the server failed.
use Rattle.std.proofs.Common.{Bool}
use Rattle.fs_model.specs.State.{FsState}
use Rattle.fs_model.specs.Names.{Path}
use Rattle.fs_model.specs.Trail.{Counts, Rose}
use Rattle.control_file.specs.declared.job.Job.{Job}
use Rattle.catalog_server.specs.Answers.{ServerCounts}
use Rattle.accepted_words.specs.declared.line.Line.{Line}
use Rattle.accepted_words.specs.declared.line.Line.TheVariants.{Upgrade, Report, SelfTest}
use Rattle.upgrade_checks.specs.Findings.{Reader}
use Rattle.upgrade_answers.specs.declared.answer.Answer.{Answer}
use Rattle.upgrade_answers.specs.declared.answer.Answer.TheVariants.{Done, Checked, Reported, Tested, TestFailed, Usage, Refused, FsFault, ServerFault, Moved, NoMemory}
use Rattle.upgrade_run.specs.Causes.{UpgradeHasCause, ReportHasCause, HasOwnCause}
use Rattle.upgrade_run.specs.Means.{UpgradeMeans, ReportMeans, Means, UpgradeCompletes, ReportCompletes, Completes}

module _ (before now : Counts) (server_before server_now : ServerCounts) (no_fault : Rose before.faults now.faults → ⊥) (no_server_fault : Rose server_before.faults server_now.faults → ⊥) (read : Reader) (s : FsState) where
  upgrade_completes : (job : Job) (check : Bool) (answer : Answer) → UpgradeMeans read s job answer → UpgradeHasCause job check answer before now server_before server_now → UpgradeCompletes read s job check answer
  upgrade_completes job check (Done summary) means cause = (cause, means)
  upgrade_completes job check Checked means cause = (cause, means)
  upgrade_completes job check (Reported verdict) means cause = means
  upgrade_completes job check (Tested summary rows) means cause = means
  upgrade_completes job check TestFailed means cause = means
  upgrade_completes job check (Usage position) means cause = means
  upgrade_completes job check (Refused refusal) means cause = means
  upgrade_completes job check (FsFault at) means cause = no_fault cause.1
  upgrade_completes job check (ServerFault at) means cause = no_server_fault cause.1
  upgrade_completes job check (Moved root change) means cause = means
  upgrade_completes job check (NoMemory at) means cause = means

  report_completes : (old new : Path) (answer : Answer) → ReportMeans s old new answer → ReportHasCause old answer before now → ReportCompletes s old new answer
  report_completes old new (Done summary) means cause = means
  report_completes old new Checked means cause = means
  report_completes old new (Reported verdict) means cause = means
  report_completes old new (Tested summary rows) means cause = means
  report_completes old new TestFailed means cause = means
  report_completes old new (Usage position) means cause = means
  report_completes old new (Refused refusal) means cause = means
  report_completes old new (FsFault at) means cause = no_fault cause.1
  report_completes old new (ServerFault at) means cause = means
  report_completes old new (Moved root change) means cause = means
  report_completes old new (NoMemory at) means cause = tt

  pub completes : (line : Line) (answer : Answer) → Means read s line answer → HasOwnCause line answer before now server_before server_now → Completes read s line answer
  completes (Upgrade job check) answer means cause = upgrade_completes job check answer means cause
  completes (Report old new) answer means cause = report_completes old new answer means cause
  completes (SelfTest tables mode) answer means cause = means
