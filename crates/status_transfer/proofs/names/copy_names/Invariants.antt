use Rattle.std.proofs.Common.{◌≡◌, ◌<◌, [], ◌∷◌, true, drop, length, None}
use Rattle.std.specs.List.{AllByRecursion}
use Rattle.fs_model.specs.State.{FsState}
use Rattle.fs_model.specs.Trail.{Goes, HasCause, OthersStay}
use Rattle.status_transfer.specs.Carried.{CarriesInto, CopiesNames, IsReady, AreApart}
use Rattle.status_transfer.proofs.names.copy_names.Given as goal

abbrev pub invariant-loop-name : goal.invariant-loop-name
invariant-loop-name g l = record {
  told : g.F.Fs.told l.fs ≡ g.F.Fs.told l.fn.fs;
  firm : g.F.Fs.firm l.fs ≡ g.F.Fs.firm l.fn.fs;
  room : 0 < length l.buffer;
  calls : g.F.Fs.told l.fn.fs ≡ true → Goes (CarriesInto (l.to ∷ []) (g.F.Fs.trail l.fn.fs).present) (g.F.Fs.trail l.fn.fs) (g.F.Fs.trail l.fs);
  ready : g.F.Fs.told l.fn.fs ≡ true → AllByRecursion (IsReady (g.F.Fs.trail l.fn.fs).present l.from l.to) l.names → AreApart l.names
      → AllByRecursion (IsReady (g.F.Fs.trail l.fs).present l.from l.to) (drop l.name-index l.names) × AreApart (drop l.name-index l.names);
  copied : g.F.Fs.told l.fn.fs ≡ true → (t : FsState) → CopiesNames (g.F.Fs.trail l.fs).present l.from l.to (drop l.name-index l.names) t → CopiesNames (g.F.Fs.trail l.fn.fs).present l.from l.to l.names t;
  cause : HasCause (g.F.Fs.firm l.fn.fs) (g.F.Fs.counts l.fn.fs) (g.F.Fs.counts l.fs) None;
  others : OthersStay (g.F.Fs.counts l.fn.fs) (g.F.Fs.counts l.fs) None;
}
