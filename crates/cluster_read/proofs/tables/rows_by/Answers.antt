use Rattle.std.proofs.Common.{◌≡◌, ◌∙◌, ◌++◌, ℕ, List, [], length, true, None, Some, Option, Result, Ok, Err, IfOk, refl, sym, ap, subst}
use Rattle.fs_model.specs.State.{FsState}
use Rattle.fs_model.specs.WellFormed.{WellFormed}
use Rattle.fs_model.specs.Trail.{DecidedBy, error_of, unless_lack}
use Rattle.fs_model.specs.Observed.{Observed, OnlyReads}
use Rattle.fs_model.proofs.Observing.{no_reads, reads_then}
use Rattle.std.specs.Option.{option_map}
use Rattle.relation_files.specs.declared.relation.Relation.{Relation}
use Rattle.relation_files.specs.declared.relation.Fork.TheVariants.{Main}
use Rattle.relation_files.specs.Sites.{site_at}
use Rattle.relation_files.specs.Places.{fork_files}
use Rattle.cluster_meaning.specs.Blocks.{blocks_of}
use Rattle.cluster_meaning.specs.Meaning.{Reading, FoundTable, shapes_in, table_relation, reading_in}
use Rattle.block_rows.specs.Rows.{TellsRows}
use Rattle.cluster_read.specs.Tables.{found_of, cluster_at}
use Rattle.cluster_read.proofs.Readings.{read_by, same_reading, shapes_length}
use Rattle.cluster_read.proofs.tables.rows_by.Goals as goal

pub fork_rows-requires : goal.fork_rows-requires
fork_rows-requires g c =
    let shapes : c.deref.result.now ≡ shapes_in c.args.site.now.release c.items-columns.result.now = c.deref.ensures.value ∙ c.in-Ok.ensures in
    ap length shapes ∙ shapes_length c.args.site.now.release c.items-columns.result.now

pub returns-clause-rows : goal.returns-clause-rows
returns-clause-rows g c told formed counters has indexed =
    let s : FsState = (g.F.Fs.trail c.args.fs.now).present in
    let site = c.args.site.now in
    let n : ℕ = c.args.relseg_size in
    let found : FoundTable = found_of c.args.found.now in
    let columns : c.items-columns.result.now ≡ found.table.columns = c.items-columns.ensures in
    let held_shapes : c.deref.result.now ≡ shapes_in site.release c.items-columns.result.now = c.deref.ensures.value ∙ c.in-Ok.ensures in
    let shapes : c.deref.result.now ≡ shapes_in site.release found.table.columns = held_shapes ∙ ap (shapes_in site.release) columns in
    let same = same_reading s site n counters found c.items-columns.result.now c.deref.result.now c.toast_of.result c.args.index.now c.args.look.now columns shapes c.toast_of.ensures indexed has in
    let Told : Reading → Relation → Type 0 = λ reading relation. IfOk c.fork_rows.result (TellsRows reading c.args.snapshot.now (blocks_of n (fork_files s (site_at site) relation Main))) in
    let held : Reading = read_by c.items-columns.result.now c.deref.result.now found.database c.toast_of.result c.args.index.now c.args.look.now in
    let tells : Told held c.relation_of.result = c.fork_rows.ensures.rows told formed in
    subst (λ reading. Told reading (table_relation found)) same (subst (Told held) c.relation_of.ensures tells)
