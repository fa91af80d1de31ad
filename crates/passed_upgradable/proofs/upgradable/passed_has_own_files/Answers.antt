use Rattle.passed_checks.proofs.OwnFiles.{own_files}
use Rattle.passed_upgradable.proofs.PlannedFiles.{is_file}
use Rattle.passed_upgradable.proofs.upgradable.passed_has_own_files.Goals as goal

pub returns : goal.returns
returns c = λ read s job catalog can relations. record {
  files = λ relation found fork segment there small is. let (inode, file) = own_files s job.old catalog relations.files relation found fork segment there small is in is_file there inode file;
  free = can.free_files;
}
