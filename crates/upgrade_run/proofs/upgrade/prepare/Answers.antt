use Rattle.control_file.specs.declared.modes.Side.TheVariants.{New}
use Rattle.phase_names.specs.declared.names.PhaseName.TheVariants.{Status}
use Rattle.upgrade_run.proofs.Ending.{failed_in_files, files_in, takes_memory}
use Rattle.upgrade_run.proofs.upgrade.prepare.Goals as goal

pub returns-clause-fault : goal.returns-clause-fault
returns-clause-fault g c = failed_in_files c.status.result c.args.restored.job New Status tt c.status.ensures.phase c.status.ensures.fault

pub returns-clause-files : goal.returns-clause-files
returns-clause-files g c = files_in c.status.result c.args.restored.job New c.status.ensures.fault

pub returns-clause-lacked : goal.returns-clause-lacked
returns-clause-lacked g c = takes_memory c.status.result Status (g.F.Fs.counts c.args.fs.now) (g.F.Fs.counts c.status.new.fs) tt c.status.ensures.phase
