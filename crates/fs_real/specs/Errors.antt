-- What an error of the operating system is called.
use Rattle.std.specs.declared.io.ErrorKind.{ErrorKind}
use Rattle.std.specs.declared.io.ErrorKind.TheVariants.{NotFound, AlreadyExists, NotADirectory, DirectoryNotEmpty, CrossesDevices, OutOfMemory}
use Rattle.fs_model.specs.declared.error.FsError.{FsError}
use Rattle.fs_model.specs.declared.error.FsError.TheVariants.{NotFound as FsNotFound, Exists, NotDir, NotEmpty, CrossDevice, Failed, OutOfMemory as FsOutOfMemory}
use Rattle.fs_model.specs.declared.error.PathError.{PathError}
use Rattle.fs_model.specs.declared.error.PathError.TheVariants.{Bad, OutOfMemory as PathOutOfMemory}
use Rattle.fs_model.specs.declared.error.SinkError.{SinkError}
use Rattle.fs_model.specs.declared.error.SinkError.TheVariants.{Failed as SinkFailed, OutOfMemory as SinkOutOfMemory}

-- each kind of error that the file system's calls tell apart has its answer, and every other is a failure
abbrev pub named : ErrorKind → FsError
named NotFound = FsNotFound
named AlreadyExists = Exists
named NotADirectory = NotDir
named DirectoryNotEmpty = NotEmpty
named CrossesDevices = CrossDevice
named OutOfMemory = FsOutOfMemory
named _ = Failed

-- a text that is no path or no name is a failure
abbrev pub path_named : PathError → FsError
path_named Bad = Failed
path_named PathOutOfMemory = FsOutOfMemory

-- a sink tells want of memory alone apart
abbrev pub sink_named : ErrorKind → SinkError
sink_named OutOfMemory = SinkOutOfMemory
sink_named _ = SinkFailed
