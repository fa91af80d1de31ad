use Rattle.std.proofs.Common.{ℕ, arith}
use Rattle.std.proofs.lemmas.List.{length-take}
use Rattle.control_file.proofs.reading.read_control.Goals as goal

pub slice_bounds-crc32c-end : goal.slice_bounds-crc32c-end
slice_bounds-crc32c-end c = omega (arith, length-take {A = ℕ})
