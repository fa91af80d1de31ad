use Rattle.std.proofs.Common.{◌≡◌, true, take, None}
use Rattle.std.specs.List.{AllByRecursion}
use Rattle.fs_model.specs.Names.{Path, IsUnder}
use Rattle.fs_model.specs.Trail.{Goes, HasCause, OthersStay}
use Rattle.fs_tools.specs.TreeSync.{SyncsFiles, IsCleanAt}
use Rattle.fs_tools.proofs.syncs.sync_files_in.Given as goal

abbrev pub invariant-loop-path : goal.invariant-loop-path
invariant-loop-path g l = record {
  told : g.F.Fs.told l.fs ≡ g.F.Fs.told l.fn.fs;
  firm : g.F.Fs.firm l.fs ≡ g.F.Fs.firm l.fn.fs;
  calls : g.F.Fs.told l.fn.fs ≡ true → (top : Path) → IsUnder top l.dir → Goes (SyncsFiles top) (g.F.Fs.trail l.fn.fs) (g.F.Fs.trail l.fs);
  clean : g.F.Fs.told l.fn.fs ≡ true → AllByRecursion (λ path. IsCleanAt path (g.F.Fs.trail l.fs).present) (take l.path-index l.path-items);
  cause : HasCause (g.F.Fs.firm l.fn.fs) (g.F.Fs.counts l.fn.fs) (g.F.Fs.counts l.fs) None;
  others : OthersStay (g.F.Fs.counts l.fn.fs) (g.F.Fs.counts l.fs) None;
}
