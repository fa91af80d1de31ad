use Rattle.std.proofs.Common.{◌≡◌, ◌∙◌, ◌++◌, ℕ, List, [], true, None, Some, Option, Result, Ok, Err, IfOk, refl, sym, ap, subst}
use Rattle.fs_model.specs.State.{FsState}
use Rattle.fs_model.specs.WellFormed.{WellFormed}
use Rattle.fs_model.specs.Trail.{DecidedBy, error_of, unless_lack}
use Rattle.fs_model.specs.Observed.{Observed, OnlyReads}
use Rattle.fs_model.proofs.Observing.{no_reads, reads_then}
use Rattle.cluster_meaning.specs.Chunks.{chunks_of_blocks}
use Rattle.catalog.specs.declared.relations.Toast.{Toast}
use Rattle.relation_files.specs.declared.relation.Relation.{Relation}
use Rattle.relation_files.specs.declared.relation.Fork.TheVariants.{Main}
use Rattle.relation_files.specs.Sites.{site_at}
use Rattle.relation_files.specs.Places.{fork_files}
use Rattle.cluster_meaning.specs.Blocks.{blocks_of}
use Rattle.cluster_meaning.specs.Meaning.{FoundTable, toast_blocks, toast_relation}
use Rattle.cluster_read.specs.Tables.{found_of, cluster_at}
use Rattle.cluster_read.proofs.Readings.{no_chunks}
use Rattle.cluster_read.proofs.toast.toast_chunks.Goals as goal

pub returns-in_default-clause-chunks : goal.returns-in_default-clause-chunks
returns-in_default-clause-chunks g c told formed counters =
    let s : FsState = (g.F.Fs.trail c.args.fs.now).present in
    subst (λ (o : Option Toast). c.new.result.items ≡ chunks_of_blocks (toast_blocks s (cluster_at s c.args.site.now c.args.relseg_size counters) (found_of c.args.found.now) o)) (sym c.in_default.is)
    (c.new.ensures.items ∙ sym no_chunks)

pub returns-clause-chunks : goal.returns-clause-chunks
returns-clause-chunks g c told formed counters =
    let s : FsState = (g.F.Fs.trail c.args.fs.now).present in
    let found : FoundTable = found_of c.args.found.now in
    let Told : Relation → Type 0 = λ relation. IfOk c.fork_chunks.result (λ chunks. chunks.items ≡ chunks_of_blocks (blocks_of c.args.relseg_size (fork_files s (site_at c.args.site.now) relation Main))) in
    let tells : Told (toast_relation found c.in-Some.toast) = subst Told c.toast_relation_of.ensures (c.fork_chunks.ensures.chunks told formed) in
    subst (λ (o : Option Toast). IfOk c.fork_chunks.result (λ chunks. chunks.items ≡ chunks_of_blocks (toast_blocks s (cluster_at s c.args.site.now c.args.relseg_size counters) found o))) (sym c.in-Some.is)
    tells
