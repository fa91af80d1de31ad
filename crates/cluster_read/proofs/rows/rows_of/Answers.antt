use Rattle.std.proofs.Common.{◌≡◌, ◌∙◌, ◌↔◌, ℕ, List, [], true, None, Some, Option, Result, Ok, Err, IfOk, refl, sym, ap, subst}
use Rattle.std.specs.Option.{option_map}
use Rattle.fs_model.specs.State.{FsState}
use Rattle.fs_model.specs.Observed.{Observed, OnlyReads}
use Rattle.fs_model.proofs.Observing.{no_reads}
use Rattle.cluster_meaning.specs.Cluster.{opened}
use Rattle.cluster_meaning.specs.Meaning.{FoundTable, reading_in}
use Rattle.block_rows.specs.Rows.{TellsRows}
use Rattle.cluster_read.specs.declared.error.ReadError.TheVariants.{NoSuch}
use Rattle.cluster_read.specs.Causes.{FindsObjects, missing_object, cluster_refusal, or_then}
use Rattle.cluster_read.specs.Tables.{found_of, table_blocks}
use Rattle.cluster_read.proofs.Deciding.{decided_later, same_oid}
use Rattle.cluster_read.proofs.rows.rows_of.Goals as goal

pub returns-in-Err-clause-reads : goal.returns-in-Err-clause-reads
returns-in-Err-clause-reads g c =
    no_reads (record { told = g.F.Fs.told c.args.fs.now; firm = g.F.Fs.firm c.args.fs.now; depth = g.F.Fs.depth c.args.fs.now; trail = g.F.Fs.trail c.args.fs.now; counts = g.F.Fs.counts c.args.fs.now })

pub returns-in-Err-clause-no_such : goal.returns-in-Err-clause-no_such
returns-in-Err-clause-no_such g c oid =
    let missing : missing_object c.args.catalog.now c.args.database c.args.table ≡ Some c.in-Err.oid = c.in-Err.ensures.missing in
    ((λ is. missing ∙ ap (λ o. Some o) (same_oid c.in-Err.oid oid is)), (λ is. let same : c.in-Err.oid ≡ oid = (let both = sym missing ∙ is in cc both) in ap (λ o. Err (NoSuch o)) same))

pub returns-in-Err-clause-decided : goal.returns-in-Err-clause-decided
returns-in-Err-clause-decided g c told =
    let s : FsState = (g.F.Fs.trail c.args.fs.now).present in
    ap (λ (o : Option ℕ). or_then (option_map NoSuch o) (cluster_refusal s c.args.root.now c.args.release)) c.in-Err.ensures.missing

pub returns-clause-no_such : goal.returns-clause-no_such
returns-clause-no_such g c oid =
    ((λ is. absurd (subst FindsObjects is c.rows_at.ensures.stands)), (λ is. let none = c.in-Ok.ensures.stands in absurd (cc (is, none))))

pub returns-clause-decided : goal.returns-clause-decided
returns-clause-decided g c told =
    let s : FsState = (g.F.Fs.trail c.args.fs.now).present in
    decided_later (option_map NoSuch (missing_object c.args.catalog.now c.args.database c.args.table)) (cluster_refusal s c.args.root.now c.args.release) c.rows_at.result
    (ap (option_map NoSuch) c.in-Ok.ensures.stands) (c.rows_at.ensures.decided told)

pub returns-clause-rows : goal.returns-clause-rows
returns-clause-rows g c told found is =
    let s : FsState = (g.F.Fs.trail c.args.fs.now).present in
    let cluster = opened s c.args.root.now c.args.release c.args.catalog.now in
    let here = c.in-Ok.ensures.found in
    let same : found_of c.in-Ok.found ≡ found = (let both = sym here ∙ is in cc both) in
    subst (λ (one : FoundTable). IfOk c.rows_at.result (TellsRows (reading_in s cluster one) c.args.snapshot.now (table_blocks s cluster one))) same (c.rows_at.ensures.rows told)
