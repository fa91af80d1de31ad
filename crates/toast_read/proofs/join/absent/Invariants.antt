use Rattle.std.proofs.Common.{◌≡◌, ◌-◌, find}
use Rattle.std.specs.List.{range_with_len}
use Rattle.toast_read.specs.Chunks.{is_absent, least_below}
use Rattle.toast_read.proofs.join.absent.Given as goal

abbrev pub invariant-loop-seq : goal.invariant-loop-seq
invariant-loop-seq l = find (is_absent l.parts) (range_with_len l.seq (l.end - l.seq)) ≡ least_below l.end (is_absent l.parts)
