use Rattle.std.proofs.Common.{◌≡◌, ◌≤◌, length, take}
use Rattle.std.specs.Io.KnownBytes.{Consumes}
use Rattle.fs_real.proofs.streams.read_up_to.Given as goal

-- what was filled is what the file gave
abbrev pub invariant-loop : goal.invariant-loop
invariant-loop g l = record {
  same_room : length l.into ≡ length l.initial.into;
  within : l.filled ≤ length l.into;
  given : Consumes (g.F.Read.remaining l.initial.file) (g.F.Read.remaining l.file) (take l.filled l.into);
}
