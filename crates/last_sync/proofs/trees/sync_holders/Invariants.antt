use Rattle.std.proofs.Common.{◌≡◌, true, take, None}
use Rattle.std.specs.List.{AllByRecursion}
use Rattle.fs_model.specs.Trail.{Goes, HasCause, OthersStay}
use Rattle.crash_safety.specs.Calling.{Syncs}
use Rattle.fs_tools.specs.TreeSync.{IsQuiet}
use Rattle.last_sync.proofs.trees.sync_holders.Given as goal

abbrev pub invariant-loop-holder : goal.invariant-loop-holder
invariant-loop-holder g l = record {
  told : g.F.Fs.told l.fs ≡ g.F.Fs.told l.fn.fs;
  firm : g.F.Fs.firm l.fs ≡ g.F.Fs.firm l.fn.fs;
  calls : g.F.Fs.told l.fn.fs ≡ true → Goes Syncs (g.F.Fs.trail l.fn.fs) (g.F.Fs.trail l.fs);
  quiet : g.F.Fs.told l.fn.fs ≡ true → AllByRecursion (λ holder. IsQuiet holder (g.F.Fs.trail l.fs).present.pending) (take l.holder-index l.holders);
  cause : HasCause (g.F.Fs.firm l.fn.fs) (g.F.Fs.counts l.fn.fs) (g.F.Fs.counts l.fs) None;
  others : OthersStay (g.F.Fs.counts l.fn.fs) (g.F.Fs.counts l.fs) None;
}
