-- The printed lines of an answer.
use Rattle.std.specs.Prelude.{◌++◌, ℕ, List, codes, Result, Ok, Err}
use Rattle.std.specs.Fmt.{decimal}
use Rattle.fs_model.specs.declared.error.FsError.{FsError}
use Rattle.fs_model.specs.declared.error.FsError.TheVariants as error
use Rattle.fs_model.specs.declared.error.SinkError.{SinkError}
use Rattle.fs_model.specs.declared.error.SinkError.TheVariants as sink
use Rattle.fs_model.specs.PathText.{text_of}
use Rattle.fs_model.specs.Output.{SinkCounts}
use Rattle.fs_model.specs.Trail.{Rose}
use Rattle.control_file.specs.declared.modes.Side.{Side}
use Rattle.control_file.specs.declared.modes.Side.TheVariants.{Old, New}
use Rattle.control_checks.specs.declared.refusal.ControlField.{ControlField}
use Rattle.control_checks.specs.declared.refusal.ControlField.TheVariants.{MaxAlign, BlckSz, RelSegSize, XlogBlckSz, XlogSegSize, NameDataLen, IndexMaxKeys, ToastChunk, LoblkSize, Checksums}
use Rattle.compat_checks.specs.declared.answer.Change.{Change}
use Rattle.compat_checks.specs.declared.answer.Change.TheVariants as change
use Rattle.compat_checks.specs.declared.refusal.Refusal.{Refusal}
use Rattle.compat_checks.specs.declared.refusal.Refusal.TheVariants.{Overlap, MissingDir, MissingVersion, WrongVersion, Running, OldDisabled, NoControl, ControlShort, ControlCrc, ControlVersion, CatalogVersion, NotShutDown, BlockSize, ControlDiffers, Prepared, CatalogText, TooMany, InstallUser, NewRoles, ConnectFlag, RegColumn, AclColumn, NewNotEmpty, NewUsed, TablespaceDir, MissingFile, SharedInode, DeviceDiffers, ControlOldExists}
use Rattle.phase_names.specs.declared.names.PhaseName.{PhaseName}
use Rattle.phase_names.specs.declared.names.PhaseName.TheVariants.{Words, Check, Restore, Status, Disable, Transfer, Finish, Report, Make, Count}
use Rattle.upgrade_answers.specs.declared.answer.Verdict.{Verdict}
use Rattle.upgrade_answers.specs.declared.answer.Verdict.TheVariants as verdict
use Rattle.phase_names.specs.declared.summary.Summary.{Summary}
use Rattle.upgrade_answers.specs.declared.answer.Answer.{Answer}
use Rattle.upgrade_answers.specs.declared.answer.Answer.TheVariants.{Done, Checked, Reported, Tested, TestFailed, Usage, Refused, FsFault, ServerFault, Moved, NoMemory}
use Rattle.upgrade_answers.specs.declared.answer.Printed.{Printed}
use Rattle.upgrade_answers.specs.declared.answer.Printed.TheVariants as printed

-- a text and a number behind it
abbrev pub labelled : List ℕ → ℕ → List ℕ
labelled label number = label ++ decimal number

abbrev pub side_text : Side → List ℕ
side_text Old = codes "old"
side_text New = codes "new"

abbrev pub phase_text : PhaseName → List ℕ
phase_text Words = codes "words"
phase_text Check = codes "check"
phase_text Restore = codes "restore"
phase_text Status = codes "status"
phase_text Disable = codes "disable"
phase_text Transfer = codes "transfer"
phase_text Finish = codes "finish"
phase_text Report = codes "report"
phase_text Make = codes "make"
phase_text Count = codes "count"

abbrev pub field_text : ControlField → List ℕ
field_text MaxAlign = codes "maxAlign"
field_text BlckSz = codes "blcksz"
field_text RelSegSize = codes "relseg_size"
field_text XlogBlckSz = codes "xlog_blcksz"
field_text XlogSegSize = codes "xlog_seg_size"
field_text NameDataLen = codes "nameDataLen"
field_text IndexMaxKeys = codes "indexMaxKeys"
field_text ToastChunk = codes "toast_max_chunk_size"
field_text LoblkSize = codes "loblksize"
field_text Checksums = codes "data_checksum_version"

abbrev pub error_text : FsError → List ℕ
error_text error.NotFound = codes "not found"
error_text error.Exists = codes "exists"
error_text error.NotDir = codes "not a directory"
error_text error.WrongKind = codes "wrong kind"
error_text error.NotEmpty = codes "not empty"
error_text error.CrossDevice = codes "cross device"
error_text error.CrossDir = codes "cross directory"
error_text error.Failed = codes "failed"
error_text error.OutOfMemory = codes "out of memory"

abbrev pub change_text : Change → List ℕ
change_text (change.Refused error) = error_text error
change_text (change.Text line) = labelled (codes "text line ") line
change_text change.Differs = codes "catalog differs"

abbrev pub verdict_text : Verdict → List ℕ
verdict_text verdict.Finished = codes "finished"
verdict_text verdict.Untouched = codes "untouched"
verdict_text verdict.Disabled = codes "disabled"
verdict_text (verdict.Linked paths) = labelled (codes "linked ") paths
verdict_text (verdict.Unsafe paths) = labelled (codes "unsafe ") paths
verdict_text verdict.NoControl = codes "no control"

-- ---- refusals

abbrev pub sided : Side → List ℕ → List ℕ
sided side text = side_text side ++ text

abbrev pub numbered : Side → List ℕ → ℕ → List ℕ
numbered side text number = side_text side ++ labelled text number

abbrev pub differing_reason : ControlField → ℕ → ℕ → List ℕ
differing_reason field in_old in_new = field_text field ++ labelled (codes " is ") in_old ++ labelled (codes " in old and ") in_new ++ codes " in new"

abbrev pub catalog_reason : Side → ℕ → ℕ → List ℕ
catalog_reason side line cause = side_text side ++ labelled (codes " catalog text, line ") line ++ labelled (codes ", cause ") cause

abbrev pub column_reason : ℕ → ℕ → ℕ → List ℕ → List ℕ
column_reason database table column text = labelled (codes "database ") database ++ labelled (codes ", table ") table ++ labelled (codes ", column ") column ++ text

abbrev pub reason_of : Refusal → List ℕ
reason_of Overlap = codes "the two directories overlap"
reason_of (MissingDir side) = sided side (codes " directory is missing")
reason_of (MissingVersion side) = sided side (codes " PG_VERSION is missing")
reason_of (WrongVersion side) = sided side (codes " PG_VERSION is of another version")
reason_of (Running side) = sided side (codes " postmaster.pid is present")
reason_of OldDisabled = codes "old cluster is disabled"
reason_of (NoControl side) = sided side (codes " control file is missing")
reason_of (ControlShort side) = sided side (codes " control file is short")
reason_of (ControlCrc side) = sided side (codes " control file has a wrong CRC")
reason_of (ControlVersion side found) = numbered side (codes " control version is ") found
reason_of (CatalogVersion side found) = numbered side (codes " catalog version is ") found
reason_of (NotShutDown side found) = numbered side (codes " state is ") found
reason_of (BlockSize side) = sided side (codes " block or segment size is not supported")
reason_of (ControlDiffers field in_old in_new) = differing_reason field in_old in_new
reason_of (Prepared side) = sided side (codes " has prepared transactions")
reason_of (CatalogText side line cause) = catalog_reason side line cause
reason_of TooMany = codes "old cluster is too large"
reason_of InstallUser = codes "install users differ"
reason_of NewRoles = codes "new cluster has roles"
reason_of (ConnectFlag database) = labelled (codes "connections of database ") database
reason_of (RegColumn database table column) = column_reason database table column (codes " has a reg type")
reason_of (AclColumn database table column) = column_reason database table column (codes " has type aclitem")
reason_of NewNotEmpty = codes "new cluster is not empty"
reason_of (NewUsed path) = text_of path ++ codes " is in the way"
reason_of (TablespaceDir path) = codes "tablespace " ++ text_of path
reason_of (MissingFile path) = text_of path ++ codes " is missing or no file"
reason_of (SharedInode path) = text_of path ++ codes " is shared with the old cluster"
reason_of (DeviceDiffers path) = text_of path ++ codes " is on another device"
reason_of ControlOldExists = codes "pg_control.old is present"

abbrev pub refusal_line : Refusal → List ℕ
refusal_line refusal = codes "refused: " ++ reason_of refusal ++ codes "\n"

-- ---- answers

abbrev pub counted_lines : Summary → List ℕ
counted_lines summary = labelled (codes "databases: ") summary.databases ++ labelled (codes "\ntables: ") summary.tables ++ labelled (codes "\nfiles: ") summary.files ++ codes "\n"

abbrev pub lines_of : Answer → List ℕ
lines_of (Done summary) = codes "checks: ok\n" ++ counted_lines summary ++ codes "upgrade: done\n"
lines_of Checked = codes "checks: ok\n"
lines_of (Reported verdict) = codes "report: " ++ verdict_text verdict ++ codes "\n"
lines_of (Tested summary rows) = counted_lines summary ++ labelled (codes "rows: ") rows ++ codes "\nselftest: done\n"
lines_of TestFailed = codes "selftest: failed\n"
lines_of (Usage position) = labelled (codes "usage fault at word ") position ++ codes "\n"
lines_of (Refused refusal) = refusal_line refusal
lines_of (FsFault phase) = codes "file fault in " ++ phase_text phase ++ codes "\n"
lines_of (ServerFault phase) = codes "server fault in " ++ phase_text phase ++ codes "\n"
lines_of (NoMemory phase) = codes "out of memory in " ++ phase_text phase ++ codes "\n"
lines_of (Moved root change) = codes "changed under the run: " ++ text_of root ++ codes ", " ++ change_text change ++ codes "\n"

-- how a printing ended, from what the sink answered
abbrev pub printed_of : Result (Unit {0}) SinkError → Printed
printed_of (Ok value) = printed.Whole
printed_of (Err sink.Failed) = printed.SinkFailed
printed_of (Err sink.OutOfMemory) = printed.NoMemory

abbrev pub PrintedRose : Printed → SinkCounts → SinkCounts → Type 0
PrintedRose printed.Whole before now = Unit {0}
PrintedRose printed.SinkFailed before now = Rose before.faults now.faults
PrintedRose printed.NoMemory before now = Rose before.lacks now.lacks
