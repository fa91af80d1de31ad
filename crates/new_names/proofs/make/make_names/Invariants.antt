use Rattle.std.proofs.Common.{◌≡◌, ◌<◌, ℕ, List, true, None, slice_index_or, drop}
use Rattle.std.specs.List.{Contains}
use Rattle.std.specs.FinMap.{get}
use Rattle.fs_model.specs.Trail.{Goes, HasCause}
use Rattle.new_names.specs.declared.names.NewName.{NewName}
use Rattle.new_names.specs.Frame.{MakesListed}
use Rattle.new_names.specs.Room.{HasRoomFor}
use Rattle.new_names.specs.Standing.{Has, Adds}
use Rattle.new_names.proofs.make.make_names.Given as goal

abbrev pub invariant-loop-name : goal.invariant-loop-name
invariant-loop-name g l = record {
  told : g.F.Fs.told l.fs ≡ g.F.Fs.told l.fn.fs;
  firm : g.F.Fs.firm l.fs ≡ g.F.Fs.firm l.fn.fs;
  calls : g.F.Fs.told l.fn.fs ≡ true → (listed : List NewName) → ((name : NewName) → Contains l.names name → Contains listed name) → Goes (MakesListed listed (g.F.Fs.trail l.fn.fs).present) (g.F.Fs.trail l.fn.fs) (g.F.Fs.trail l.fs);
  room : g.F.Fs.told l.fn.fs ≡ true → HasRoomFor (g.F.Fs.trail l.fn.fs).present l.names → HasRoomFor (g.F.Fs.trail l.fs).present (drop l.name-index l.names);
  stands : g.F.Fs.told l.fn.fs ≡ true → (k : ℕ) (name : NewName) → k < l.name-index → slice_index_or l.names k name ≡ name → Has (g.F.Fs.trail l.fs).present name.path name.node;
  absent : g.F.Fs.told l.fn.fs ≡ true → (k : ℕ) (name : NewName) → k < l.name-index → slice_index_or l.names k name ≡ name → get (g.F.Fs.trail l.fn.fs).present.names name.path ≡ None;
  adds : g.F.Fs.told l.fn.fs ≡ true → Adds (g.F.Fs.trail l.fn.fs).present (g.F.Fs.trail l.fs).present;
  cause : HasCause (g.F.Fs.firm l.fn.fs) (g.F.Fs.counts l.fn.fs) (g.F.Fs.counts l.fs) None;
}
