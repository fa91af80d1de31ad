use Rattle.std.proofs.Common.{◌≡◌, ◌∙◌, length, vec_len, rules}
use Rattle.cluster_meaning.specs.Cluster.{opened}
use Rattle.cluster_read.specs.Causes.{cluster_refusal}
use Rattle.row_counts.proofs.TableRows.{counted_rows}
use Rattle.row_counts.proofs.counting.table_rows.Goals as goal

pub returns-in-Ok-clause-counted : goal.returns-in-Ok-clause-counted
returns-in-Ok-clause-counted g c told =
    let s = (g.F.Fs.trail c.args.fs.now).present in
    let site = c.args.site.now in
    let len : vec_len c.in-Ok.found.rows ≡ length c.in-Ok.found.rows.items = search rules in
    c.len.ensures ∙ len
    ∙ counted_rows s (opened s site.root.now site.release site.catalog.now) c.args.snapshot.now c.in-Ok.found c.args.database c.args.table (cluster_refusal s site.root.now site.release) (c.in-Ok.ensures.decided told) (c.in-Ok.ensures.rows told)

pub returns-in-Err-clause-refused : goal.returns-in-Err-clause-refused
returns-in-Err-clause-refused g c told = (c.args.database, c.args.table, c.in-Err.ensures.decided told)
