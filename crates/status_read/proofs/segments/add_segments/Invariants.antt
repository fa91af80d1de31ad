use Rattle.std.proofs.Common.{◌≡◌, true, None, take, drop}
use Rattle.fs_model.specs.State.{FsState}
use Rattle.fs_model.specs.Observed.{Observed, OnlyReads}
use Rattle.status_read.specs.Segments.{first_refusal, Gathers}
use Rattle.status_read.proofs.segments.add_segments.Given as goal

abbrev pub invariant-loop-name : goal.invariant-loop-name
invariant-loop-name g l =
    let s : FsState = (g.F.Fs.trail l.fn.fs).present in
    record {
      reads : OnlyReads (record { told = g.F.Fs.told l.fn.fs; firm = g.F.Fs.firm l.fn.fs; depth = g.F.Fs.depth l.fn.fs; trail = g.F.Fs.trail l.fn.fs; counts = g.F.Fs.counts l.fn.fs })
          (record { told = g.F.Fs.told l.fs; firm = g.F.Fs.firm l.fs; depth = g.F.Fs.depth l.fs; trail = g.F.Fs.trail l.fs; counts = g.F.Fs.counts l.fs }) None;
      rest : g.F.Fs.told l.fn.fs ≡ true → first_refusal s l.dir l.names ≡ first_refusal s l.dir (drop l.name-index l.names);
      gathers : g.F.Fs.told l.fn.fs ≡ true → Gathers s l.dir (take l.name-index l.names) l.parts.items;
    }
