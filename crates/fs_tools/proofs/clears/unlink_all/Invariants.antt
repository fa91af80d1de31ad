use Rattle.std.proofs.Common.{◌≡◌, true, drop, None}
use Rattle.std.specs.List.{AllByRecursion}
use Rattle.fs_model.specs.Names.{Path}
use Rattle.fs_model.specs.Trail.{Goes, HasCause, OthersStay}
use Rattle.fs_tools.specs.Children.{IsIn}
use Rattle.fs_tools.specs.Cleared.{unlinked, AreFree, Clears}
use Rattle.fs_tools.proofs.clears.unlink_all.Given as goal

abbrev pub invariant-loop-path : goal.invariant-loop-path
invariant-loop-path g l = record {
  told : g.F.Fs.told l.fs ≡ g.F.Fs.told l.fn.fs;
  firm : g.F.Fs.firm l.fs ≡ g.F.Fs.firm l.fn.fs;
  calls : g.F.Fs.told l.fn.fs ≡ true → (at : Path) → AllByRecursion (IsIn at) l.paths → Goes (Clears at) (g.F.Fs.trail l.fn.fs) (g.F.Fs.trail l.fs) × AllByRecursion (IsIn at) (drop l.path-index l.paths);
  free : g.F.Fs.told l.fn.fs ≡ true → AreFree (g.F.Fs.trail l.fn.fs).present l.paths → AreFree (g.F.Fs.trail l.fs).present (drop l.path-index l.paths);
  unlinked : g.F.Fs.told l.fn.fs ≡ true → unlinked (g.F.Fs.trail l.fs).present (drop l.path-index l.paths) ≡ unlinked (g.F.Fs.trail l.fn.fs).present l.paths;
  cause : HasCause (g.F.Fs.firm l.fn.fs) (g.F.Fs.counts l.fn.fs) (g.F.Fs.counts l.fs) None;
  others : OthersStay (g.F.Fs.counts l.fn.fs) (g.F.Fs.counts l.fs) None;
}
