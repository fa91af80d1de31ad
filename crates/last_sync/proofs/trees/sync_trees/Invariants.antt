use Rattle.std.proofs.Common.{◌≡◌, ◌∷◌, [], true, take, None}
use Rattle.std.specs.List.{AllByRecursion}
use Rattle.fs_model.specs.Trail.{Goes, HasCause, OthersStay}
use Rattle.crash_safety.specs.Calling.{Syncs}
use Rattle.crash_safety.specs.Synced.{IsSynced}
use Rattle.last_sync.proofs.trees.sync_trees.Given as goal

abbrev pub invariant-loop-top : goal.invariant-loop-top
invariant-loop-top g l = record {
  told : g.F.Fs.told l.fs ≡ g.F.Fs.told l.fn.fs;
  firm : g.F.Fs.firm l.fs ≡ g.F.Fs.firm l.fn.fs;
  calls : g.F.Fs.told l.fn.fs ≡ true → Goes Syncs (g.F.Fs.trail l.fn.fs) (g.F.Fs.trail l.fs);
  synced : g.F.Fs.told l.fn.fs ≡ true → AllByRecursion (λ top. IsSynced (top ∷ []) (g.F.Fs.trail l.fs).present) (take l.top-index l.tops);
  cause : HasCause (g.F.Fs.firm l.fn.fs) (g.F.Fs.counts l.fn.fs) (g.F.Fs.counts l.fs) None;
  others : OthersStay (g.F.Fs.counts l.fn.fs) (g.F.Fs.counts l.fs) None;
}
