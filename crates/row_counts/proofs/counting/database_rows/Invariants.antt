use Rattle.std.proofs.Common.{◌≡◌, ◌≤◌, ◌+◌, ◌-◌, ◌^◌, true, drop, None}
use Rattle.std.specs.Prelude.{min}
use Rattle.std.specs.List.{sum_by}
use Rattle.fs_model.specs.Observed.{OnlyReads}
use Rattle.cluster_meaning.specs.Cluster.{opened}
use Rattle.row_counts.specs.Counted.{rows_of_table, rows_of_database}
use Rattle.row_counts.proofs.counting.database_rows.Given as goal

abbrev pub invariant-loop-i : goal.invariant-loop-i
invariant-loop-i g l = record {
  small : l.rows ≤ 2 ^ 64 - 1;
  reads : OnlyReads (record { told = g.F.Fs.told l.fn.fs; firm = g.F.Fs.firm l.fn.fs; depth = g.F.Fs.depth l.fn.fs; trail = g.F.Fs.trail l.fn.fs; counts = g.F.Fs.counts l.fn.fs })
      (record { told = g.F.Fs.told l.fs; firm = g.F.Fs.firm l.fs; depth = g.F.Fs.depth l.fs; trail = g.F.Fs.trail l.fs; counts = g.F.Fs.counts l.fs }) None;
  counted : g.F.Fs.told l.fn.fs ≡ true → min (l.rows + sum_by (λ table. rows_of_table (g.F.Fs.trail l.fn.fs).present (opened (g.F.Fs.trail l.fn.fs).present l.site.root.now l.site.release l.site.catalog.now) l.snapshot l.database.oid table.oid) (drop l.i l.database.tables)) (2 ^ 64 - 1)
      ≡ min (rows_of_database (g.F.Fs.trail l.fn.fs).present (opened (g.F.Fs.trail l.fn.fs).present l.site.root.now l.site.release l.site.catalog.now) l.snapshot l.database) (2 ^ 64 - 1);
}
