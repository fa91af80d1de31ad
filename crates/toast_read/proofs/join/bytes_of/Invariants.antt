use Rattle.std.proofs.Common.{◌≡◌, ◌-◌, ◌++◌, flat_map}
use Rattle.std.specs.List.{range_with_len}
use Rattle.toast_read.specs.Chunks.{bytes_at}
use Rattle.toast_read.proofs.join.bytes_of.Given as goal

abbrev pub invariant-loop-seq : goal.invariant-loop-seq
invariant-loop-seq l = l.bytes.items ++ flat_map (bytes_at l.parts) (range_with_len l.seq (l.end - l.seq)) ≡ flat_map (bytes_at l.parts) (range_with_len 0 l.end)
