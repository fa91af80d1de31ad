use Rattle.std.proofs.Common.{◌≡◌, ◌≤◌, ◌+◌, ◌-◌, ◌^◌, true, drop, None}
use Rattle.std.specs.Prelude.{min}
use Rattle.std.specs.List.{sum_by}
use Rattle.fs_model.specs.Observed.{OnlyReads}
use Rattle.cluster_meaning.specs.Cluster.{opened}
use Rattle.row_counts.specs.Counted.{rows_of_database, rows_of_cluster}
use Rattle.row_counts.proofs.counting.count_rows.Given as goal

abbrev pub invariant-loop-i : goal.invariant-loop-i
invariant-loop-i g l = record {
  small : l.rows ≤ 2 ^ 64 - 1;
  reads : OnlyReads (record { told = g.F.Fs.told l.fn.fs; firm = g.F.Fs.firm l.fn.fs; depth = g.F.Fs.depth l.fn.fs; trail = g.F.Fs.trail l.fn.fs; counts = g.F.Fs.counts l.fn.fs })
      (record { told = g.F.Fs.told l.fs; firm = g.F.Fs.firm l.fs; depth = g.F.Fs.depth l.fs; trail = g.F.Fs.trail l.fs; counts = g.F.Fs.counts l.fs }) None;
  counted : g.F.Fs.told l.fn.fs ≡ true → min (l.rows + sum_by (rows_of_database (g.F.Fs.trail l.fn.fs).present (opened (g.F.Fs.trail l.fn.fs).present l.root l.fn.release l.catalog) l.snapshot) (drop l.i l.catalog.databases)) (2 ^ 64 - 1)
      ≡ min (rows_of_cluster (g.F.Fs.trail l.fn.fs).present (opened (g.F.Fs.trail l.fn.fs).present l.root l.fn.release l.catalog) l.snapshot) (2 ^ 64 - 1);
}
