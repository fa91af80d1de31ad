use Rattle.std.proofs.Common.{◌≡◌, ◌≤◌, ◌^◌, max, length}
use Rattle.toast_read.specs.Chunks.{seq_end}
use Rattle.toast_read.proofs.join.end_of.Given as goal

abbrev pub invariant-loop-rest : goal.invariant-loop-rest
invariant-loop-rest l = record { end : max l.end (seq_end l.rest) ≡ seq_end l.parts; within : l.end ≤ 2 ^ 32 }

abbrev pub decreases-loop-rest : goal.decreases-loop-rest
decreases-loop-rest l = length l.rest
