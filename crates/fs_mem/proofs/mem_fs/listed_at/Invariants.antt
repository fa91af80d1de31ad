use Rattle.std.proofs.Common.{◌≡◌, drop}
use Rattle.fs_mem.specs.History.{listed}
use Rattle.fs_mem.proofs.mem_fs.listed_at.Given as goal

abbrev pub invariant-loop-f : goal.invariant-loop-f
invariant-loop-f l = listed (drop l.f-index l.failing) l.number ≡ listed l.failing l.number
