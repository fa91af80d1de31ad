use Rattle.std.proofs.Common.{◌≡◌, ◌∙◌, ◌+◌, ◌-◌, ◌^◌, ℕ, None, sym, ap, subst, arith}
use Rattle.std.specs.Prelude.{min}
use Rattle.fs_model.specs.State.{FsState}
use Rattle.fs_model.proofs.Observing.{no_reads, reads_then}
use Rattle.catalog.specs.declared.relations.Table.{Table}
use Rattle.catalog.specs.Cluster.{DatabaseObjects}
use Rattle.cluster_meaning.specs.Cluster.{opened}
use Rattle.row_counts.specs.Counted.{rows_of_table, IsOfTable}
use Rattle.row_counts.proofs.Adding.{none_added, adding, added_all}
use Rattle.row_counts.proofs.counting.database_rows.Goals as goal

pub loop-i-init : goal.loop-i-init
loop-i-init g c = record { small = omega arith; reads = no_reads _; counted = λ told. none_added (λ (table : Table). rows_of_table (g.F.Fs.trail c.args.fs.now).present (opened (g.F.Fs.trail c.args.fs.now).present c.args.site.now.root.now c.args.site.now.release c.args.site.now.catalog.now) c.args.snapshot.now c.args.database.now.oid table.oid) c.args.database.now.tables (2 ^ 64 - 1) }

pub loop-i-preserved : goal.loop-i-preserved
loop-i-preserved g c = record {
  small = (let s = c.saturating_add-rows.ensures in omega arith);
  reads = reads_then _ _ _ None None tt c.loop-i.invariant.reads c.in-Ok.ensures.reads;
  counted = λ told.
      let s = (g.F.Fs.trail c.args.fs.now).present in
      let site = c.args.site.now in
      let d : DatabaseObjects = c.args.database.now in
      let f : Table → ℕ = λ table. rows_of_table s (opened s site.root.now site.release site.catalog.now) c.args.snapshot.now d.oid table.oid in
      let there = (c.loop-i.invariant.reads.unchanged told).present in
      let same : c.database.inside.oid ≡ d.oid = ap (λ (x : DatabaseObjects). x.oid) c.database.view_is in
      let here = subst (λ (oid : ℕ). c.in-Ok.found ≡ rows_of_table (g.F.Fs.trail c.loop-i.fs).present (opened (g.F.Fs.trail c.loop-i.fs).present site.root.now site.release site.catalog.now) c.args.snapshot.now oid c.in-Some.table.now.oid) same
      (c.in-Ok.ensures.counted (c.loop-i.invariant.reads.told ∙ told)) in
      let found = subst (λ (st : FsState). c.in-Ok.found ≡ rows_of_table st (opened st site.root.now site.release site.catalog.now) c.args.snapshot.now d.oid c.in-Some.table.now.oid) there here in
      adding f d.tables c.loop-i.i c.in-Some.table.now c.loop-i.rows c.saturating_add-rows.result _ (2 ^ 64 - 1) (sym c.in-Some.ensures) (c.saturating_add-rows.ensures ∙ ap (λ n. min (c.loop-i.rows + n) (2 ^ 64 - 1)) found) (c.loop-i.invariant.counted told);
}

pub returns-in-Err-clause-reads : goal.returns-in-Err-clause-reads
returns-in-Err-clause-reads g c = reads_then _ _ _ None _ tt c.loop-i.invariant.reads c.in-Err.ensures.reads

pub returns-in-Err-clause-refused : goal.returns-in-Err-clause-refused
returns-in-Err-clause-refused g c told =
    let site = c.args.site.now in
    subst (λ (s : FsState). IsOfTable s site.root.now site.release site.catalog.now c.in-Err.error) (c.loop-i.invariant.reads.unchanged told).present (c.in-Err.ensures.refused (c.loop-i.invariant.reads.told ∙ told))

pub returns-clause-counted : goal.returns-clause-counted
returns-clause-counted g c told =
    let s = (g.F.Fs.trail c.args.fs.now).present in
    let site = c.args.site.now in
    let d : DatabaseObjects = c.args.database.now in
    let f : Table → ℕ = λ table. rows_of_table s (opened s site.root.now site.release site.catalog.now) c.args.snapshot.now d.oid table.oid in
    added_all f d.tables c.loop-i.i c.loop-i.rows _ (2 ^ 64 - 1) (let t = c.loop-i-test.false in let n = c.table_count-count.ensures in omega arith) c.loop-i.invariant.small (c.loop-i.invariant.counted told)
