use Rattle.std.proofs.Common.{◌≡◌, true, drop, take, None}
use Rattle.std.specs.List.{AllByRecursion}
use Rattle.std.specs.FinMap.{get}
use Rattle.fs_model.specs.Trail.{Goes, HasCause, OthersStay}
use Rattle.transfer_plan.specs.Carriable.{CanBeCarried, HaveOneDevice}
use Rattle.link_transfer.specs.LinkedFiles.{LinksItems, AreLinked}
use Rattle.link_transfer.proofs.linking.link_all.Given as goal

abbrev pub invariant-loop-item : goal.invariant-loop-item
invariant-loop-item g l = record {
  told : g.F.Fs.told l.fs ≡ g.F.Fs.told l.fn.fs;
  firm : g.F.Fs.firm l.fs ≡ g.F.Fs.firm l.fn.fs;
  calls : g.F.Fs.told l.fn.fs ≡ true → Goes (LinksItems l.plan) (g.F.Fs.trail l.fn.fs) (g.F.Fs.trail l.fs);
  ready : g.F.Fs.told l.fn.fs ≡ true → CanBeCarried (g.F.Fs.trail l.fn.fs).present.names l.plan → CanBeCarried (g.F.Fs.trail l.fs).present.names (drop l.item-index l.plan);
  devices : g.F.Fs.told l.fn.fs ≡ true → HaveOneDevice (g.F.Fs.trail l.fn.fs).present l.plan → HaveOneDevice (g.F.Fs.trail l.fs).present (drop l.item-index l.plan);
  done : g.F.Fs.told l.fn.fs ≡ true → CanBeCarried (g.F.Fs.trail l.fn.fs).present.names l.plan → AreLinked (g.F.Fs.trail l.fn.fs).present (g.F.Fs.trail l.fs).present (take l.item-index l.plan);
  waits : g.F.Fs.told l.fn.fs ≡ true → CanBeCarried (g.F.Fs.trail l.fn.fs).present.names l.plan → AllByRecursion (λ x. get (g.F.Fs.trail l.fs).present.names x.to ≡ get (g.F.Fs.trail l.fn.fs).present.names x.to) (drop l.item-index l.plan);
  cause : HasCause (g.F.Fs.firm l.fn.fs) (g.F.Fs.counts l.fn.fs) (g.F.Fs.counts l.fs) None;
  others : OthersStay (g.F.Fs.counts l.fn.fs) (g.F.Fs.counts l.fs) None;
}
