use Rattle.std.proofs.Common.{◌≡◌, take, string_bytes}
use Rattle.fs_model.specs.PathText.{joined}
use Rattle.fs_real.proofs.disk.Disk.place.Given as goal

abbrev pub invariant-loop-above : goal.invariant-loop-above
invariant-loop-above g l = string_bytes l.place.text ≡ joined (take l.above l.name-items)
