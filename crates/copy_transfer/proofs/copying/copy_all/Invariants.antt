use Rattle.std.proofs.Common.{◌≡◌, ◌<◌, true, drop, take, length, None}
use Rattle.std.specs.List.{AllByRecursion}
use Rattle.std.specs.FinMap.{get}
use Rattle.fs_model.specs.Trail.{Goes, HasCause, OthersStay}
use Rattle.transfer_plan.specs.Carriable.{targets, CanBeCarried}
use Rattle.copy_transfer.specs.CopiedFiles.{CopiesTo, AreCopied}
use Rattle.copy_transfer.proofs.copying.copy_all.Given as goal

abbrev pub invariant-loop-item : goal.invariant-loop-item
invariant-loop-item g l = record {
  told : g.F.Fs.told l.fs ≡ g.F.Fs.told l.fn.fs;
  firm : g.F.Fs.firm l.fs ≡ g.F.Fs.firm l.fn.fs;
  room : 0 < length l.buffer;
  calls : g.F.Fs.told l.fn.fs ≡ true → Goes (CopiesTo (targets l.plan) (g.F.Fs.trail l.fn.fs).present) (g.F.Fs.trail l.fn.fs) (g.F.Fs.trail l.fs);
  ready : g.F.Fs.told l.fn.fs ≡ true → CanBeCarried (g.F.Fs.trail l.fn.fs).present.names l.plan → CanBeCarried (g.F.Fs.trail l.fs).present.names (drop l.item-index l.plan);
  done : g.F.Fs.told l.fn.fs ≡ true → CanBeCarried (g.F.Fs.trail l.fn.fs).present.names l.plan → AreCopied (g.F.Fs.trail l.fn.fs).present (g.F.Fs.trail l.fs).present (take l.item-index l.plan);
  waits : g.F.Fs.told l.fn.fs ≡ true → CanBeCarried (g.F.Fs.trail l.fn.fs).present.names l.plan → AllByRecursion (λ x. get (g.F.Fs.trail l.fs).present.names x.to ≡ get (g.F.Fs.trail l.fn.fs).present.names x.to) (drop l.item-index l.plan);
  cause : HasCause (g.F.Fs.firm l.fn.fs) (g.F.Fs.counts l.fn.fs) (g.F.Fs.counts l.fs) None;
  others : OthersStay (g.F.Fs.counts l.fn.fs) (g.F.Fs.counts l.fs) None;
}
