use Rattle.std.proofs.Common.{◌≡◌, true, take, None}
use Rattle.std.specs.List.{AllByRecursion}
use Rattle.fs_model.specs.Names.{Path, IsUnder}
use Rattle.fs_model.specs.Trail.{Goes, HasCause, OthersStay}
use Rattle.fs_tools.specs.TreeSync.{SyncsDirs, IsQuiet}
use Rattle.fs_tools.proofs.syncs.sync_dirs.Given as goal

abbrev pub invariant-loop-dir : goal.invariant-loop-dir
invariant-loop-dir g l = record {
  told : g.F.Fs.told l.fs ≡ g.F.Fs.told l.fn.fs;
  firm : g.F.Fs.firm l.fs ≡ g.F.Fs.firm l.fn.fs;
  calls : g.F.Fs.told l.fn.fs ≡ true → (top : Path) → AllByRecursion (IsUnder top) l.dirs → Goes (SyncsDirs top) (g.F.Fs.trail l.fn.fs) (g.F.Fs.trail l.fs);
  quiet : g.F.Fs.told l.fn.fs ≡ true → AllByRecursion (λ dir. IsQuiet dir (g.F.Fs.trail l.fs).present.pending) (take l.dir-index l.dirs);
  cause : HasCause (g.F.Fs.firm l.fn.fs) (g.F.Fs.counts l.fn.fs) (g.F.Fs.counts l.fs) None;
  others : OthersStay (g.F.Fs.counts l.fn.fs) (g.F.Fs.counts l.fs) None;
}
