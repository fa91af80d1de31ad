use Rattle.std.proofs.Common.{◌≡◌, ◌≤◌, ◌+◌, ◌-◌, ℕ, List, true, length, None}
use Rattle.fs_model.specs.State.{FsState}
use Rattle.fs_model.specs.Trail.{Goes, HasCause, OthersStay}
use Rattle.fs_tools.specs.Copied.{Copying, Copies}
use Rattle.fs_tools.proofs.copies.write_pieces.Given as goal

abbrev pub invariant-loop-count : goal.invariant-loop-count
invariant-loop-count g l = record {
  within : l.done + l.count ≤ l.size;
  inside : l.count ≤ length l.buffer;
  told : g.F.Fs.told l.fs ≡ g.F.Fs.told l.fn.fs;
  firm : g.F.Fs.firm l.fs ≡ g.F.Fs.firm l.fn.fs;
  going : g.F.Fs.told l.fn.fs ≡ true → (start : FsState) → (bytes : List ℕ) → Copying start l.from l.to bytes 0 l.first l.fn.buffer (g.F.Fs.trail l.fn.fs).present → l.size ≡ length bytes
      → Goes (Copies l.from l.to start) (g.F.Fs.trail l.fn.fs) (g.F.Fs.trail l.fs) × Copying start l.from l.to bytes l.done l.count l.buffer (g.F.Fs.trail l.fs).present;
  cause : HasCause (g.F.Fs.firm l.fn.fs) (g.F.Fs.counts l.fn.fs) (g.F.Fs.counts l.fs) None;
  others : OthersStay (g.F.Fs.counts l.fn.fs) (g.F.Fs.counts l.fs) None;
}

abbrev pub decreases-loop-count : goal.decreases-loop-count
decreases-loop-count g l = l.size - l.done
