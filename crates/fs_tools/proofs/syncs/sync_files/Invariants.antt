use Rattle.std.proofs.Common.{◌≡◌, true, take, None}
use Rattle.std.specs.List.{AllByRecursion}
use Rattle.fs_model.specs.Names.{Path, IsUnder}
use Rattle.fs_model.specs.Trail.{Goes, HasCause, OthersStay}
use Rattle.fs_tools.specs.Children.{IsIn}
use Rattle.fs_tools.specs.TreeSync.{SyncsFiles, IsCleanAt}
use Rattle.fs_tools.proofs.syncs.sync_files.Given as goal

abbrev pub invariant-loop-dir : goal.invariant-loop-dir
invariant-loop-dir g l = record {
  told : g.F.Fs.told l.fs ≡ g.F.Fs.told l.fn.fs;
  firm : g.F.Fs.firm l.fs ≡ g.F.Fs.firm l.fn.fs;
  calls : g.F.Fs.told l.fn.fs ≡ true → (top : Path) → AllByRecursion (IsUnder top) l.dirs → Goes (SyncsFiles top) (g.F.Fs.trail l.fn.fs) (g.F.Fs.trail l.fs);
  clean : g.F.Fs.told l.fn.fs ≡ true → AllByRecursion (λ dir. (path : Path) → IsIn dir path → IsCleanAt path (g.F.Fs.trail l.fs).present) (take l.dir-index l.dirs);
  cause : HasCause (g.F.Fs.firm l.fn.fs) (g.F.Fs.counts l.fn.fs) (g.F.Fs.counts l.fs) None;
  others : OthersStay (g.F.Fs.counts l.fn.fs) (g.F.Fs.counts l.fs) None;
}
