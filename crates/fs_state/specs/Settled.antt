-- A state that is on the disk as it is now.
use Rattle.std.specs.Prelude.{[]}
use Rattle.std.specs.FinMap as map
use Rattle.fs_model.specs.State.{Names, Contents, Devices, FsState}

abbrev pub settled : Names → Contents → Devices → FsState
settled names bytes devices = record { names = names; bytes = bytes; names_kept = names; bytes_kept = bytes; pending = []; dirty = map.empty; devices = devices }
