-- What the answer of a test says.
use Rattle.std.specs.Prelude.{◌≡◌, Option, Some, None, Result, Ok, Err}
use Rattle.fs_model.specs.declared.error.FsError.{FsError}
use Rattle.fs_model.specs.declared.error.FsError.TheVariants as error
use Rattle.control_file.specs.declared.modes.Side.{Side}
use Rattle.control_checks.specs.declared.refusal.ControlRefusal.{ControlRefusal}
use Rattle.control_checks.specs.declared.stop.CheckStop.{CheckStop}
use Rattle.control_checks.specs.declared.stop.CheckStop.TheVariants.{Refused, Failed, OutOfMemory}

-- the error behind a stop: a refusal is none, and want of memory is free
abbrev pub stop_error : CheckStop → Option FsError
stop_error (Refused refusal) = None
stop_error (Failed side) = Some error.Failed
stop_error OutOfMemory = None

abbrev pub stop_of : {T : Type 0} → Result T CheckStop → Option FsError
stop_of (Ok value) = None
stop_of (Err stop) = stop_error stop

-- what a call showed: nothing where it was refused
abbrev pub seen_as : {T : Type 0} → Side → Result T FsError → Result (Option T) CheckStop
seen_as side (Ok value) = Ok (Some value)
seen_as side (Err error.Failed) = Err (Failed side)
seen_as side (Err error.OutOfMemory) = Err OutOfMemory
seen_as side (Err error.NotFound) = Ok None
seen_as side (Err error.Exists) = Ok None
seen_as side (Err error.NotDir) = Ok None
seen_as side (Err error.WrongKind) = Ok None
seen_as side (Err error.NotEmpty) = Ok None
seen_as side (Err error.CrossDevice) = Ok None
seen_as side (Err error.CrossDir) = Ok None

-- a refusal is answered only where it is what is found
abbrev pub Stops : Option ControlRefusal → CheckStop → Type 0
Stops found (Refused refusal) = found ≡ Some refusal
Stops found (Failed side) = Unit {0}
Stops found OutOfMemory = Unit {0}

-- and Ok only where nothing is
abbrev pub Tells : {T : Type 0} → Option ControlRefusal → Result T CheckStop → Type 0
Tells found (Ok value) = found ≡ None
Tells found (Err stop) = Stops found stop

-- the refusal that is answered, if any
abbrev pub refused : {T : Type 0} → Result T ControlRefusal → Option ControlRefusal
refused (Ok value) = None
refused (Err refusal) = Some refusal
