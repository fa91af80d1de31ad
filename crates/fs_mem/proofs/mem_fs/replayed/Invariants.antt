use Rattle.std.proofs.Common.{◌≡◌, drop}
use Rattle.fs_mem.specs.History.{state_after}
use Rattle.fs_mem.specs.Records.{told_from}
use Rattle.fs_mem.proofs.mem_fs.replayed.Given as goal

-- what is left of the record leads to where all of it leads
abbrev pub invariant-loop-r : goal.invariant-loop-r
invariant-loop-r l = state_after l.state (told_from l.state (drop l.r-index l.done)) ≡ state_after l.opening (told_from l.opening l.done)
