use Rattle.std.proofs.Common.{◌≡◌, ◌∙◌, ◌-◌, ◌^◌, ℕ, None, sym, subst, arith}
use Rattle.std.specs.Prelude.{min}
use Rattle.fs_model.specs.State.{FsState}
use Rattle.fs_model.proofs.Observing.{no_reads, reads_then}
use Rattle.catalog.specs.Cluster.{DatabaseObjects}
use Rattle.cluster_meaning.specs.Cluster.{opened}
use Rattle.row_counts.specs.Counted.{rows_of_database, IsOfTable}
use Rattle.row_counts.proofs.Adding.{none_added, capped, adding, added_all}
use Rattle.row_counts.proofs.counting.count_rows.Goals as goal

pub loop-i-init : goal.loop-i-init
loop-i-init g c = record { small = omega arith; reads = no_reads _; counted = λ told. none_added (rows_of_database (g.F.Fs.trail c.args.fs.now).present (opened (g.F.Fs.trail c.args.fs.now).present c.args.root.now c.args.release c.args.catalog.now) c.args.snapshot.now) c.args.catalog.now.databases (2 ^ 64 - 1) }

pub loop-i-preserved : goal.loop-i-preserved
loop-i-preserved g c = record {
  small = (let s = c.saturating_add-rows.ensures in omega arith);
  reads = reads_then _ _ _ None None tt c.loop-i.invariant.reads c.in-Ok.ensures.reads;
  counted = λ told.
      let s = (g.F.Fs.trail c.args.fs.now).present in
      let f : DatabaseObjects → ℕ = rows_of_database s (opened s c.args.root.now c.args.release c.args.catalog.now) c.args.snapshot.now in
      let d : DatabaseObjects = c.in-Some.database.now in
      let there = (c.loop-i.invariant.reads.unchanged told).present in
      let found = subst (λ (st : FsState). c.in-Ok.found ≡ min (rows_of_database st (opened st c.args.root.now c.args.release c.args.catalog.now) c.args.snapshot.now d) (2 ^ 64 - 1)) there (c.in-Ok.ensures.counted (c.loop-i.invariant.reads.told ∙ told)) in
      adding f c.args.catalog.now.databases c.loop-i.i d c.loop-i.rows c.saturating_add-rows.result _ (2 ^ 64 - 1) (sym c.in-Some.ensures) (capped c.loop-i.rows (f d) c.in-Ok.found c.saturating_add-rows.result (2 ^ 64 - 1) found c.saturating_add-rows.ensures) (c.loop-i.invariant.counted told);
}

pub returns-in-Err-clause-reads : goal.returns-in-Err-clause-reads
returns-in-Err-clause-reads g c = reads_then _ _ _ None _ tt c.loop-i.invariant.reads c.in-Err.ensures.reads

pub returns-in-Err-clause-refused : goal.returns-in-Err-clause-refused
returns-in-Err-clause-refused g c told =
    subst (λ (s : FsState). IsOfTable s c.args.root.now c.args.release c.args.catalog.now c.in-Err.error) (c.loop-i.invariant.reads.unchanged told).present (c.in-Err.ensures.refused (c.loop-i.invariant.reads.told ∙ told))

pub returns-clause-counted : goal.returns-clause-counted
returns-clause-counted g c told =
    let s = (g.F.Fs.trail c.args.fs.now).present in
    let f : DatabaseObjects → ℕ = rows_of_database s (opened s c.args.root.now c.args.release c.args.catalog.now) c.args.snapshot.now in
    added_all f c.args.catalog.now.databases c.loop-i.i c.loop-i.rows _ (2 ^ 64 - 1) (let t = c.loop-i-test.false in let n = c.database_count-count.ensures in omega arith) c.loop-i.invariant.small (c.loop-i.invariant.counted told)
