use Rattle.catalog_server.proofs.MainFiles.{files_are_main}
use Rattle.catalog_server.proofs.laws.listed_files_are_main_files.Goals as goal

pub returns : goal.returns
returns c root release old d valid found = files_are_main root release old d valid found
