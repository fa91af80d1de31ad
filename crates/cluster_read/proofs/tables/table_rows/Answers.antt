use Rattle.std.proofs.Common.{◌≡◌, ◌∙◌, ◌++◌, ℕ, List, [], true, None, Some, Option, Result, Ok, Err, IfOk, refl, sym, ap, subst}
use Rattle.fs_model.specs.State.{FsState}
use Rattle.fs_model.specs.WellFormed.{WellFormed}
use Rattle.fs_model.specs.Trail.{DecidedBy, error_of, unless_lack}
use Rattle.fs_model.specs.Observed.{Observed, OnlyReads}
use Rattle.fs_model.proofs.Observing.{no_reads, reads_then}
use Rattle.toast_read.specs.Index.{IsIndexOf}
use Rattle.control_file.specs.declared.records.Counters.{Counters}
use Rattle.cluster_meaning.specs.Chunks.{chunks_of_blocks}
use Rattle.cluster_meaning.specs.Meaning.{FoundTable, reading_in, toast_blocks}
use Rattle.block_rows.specs.Rows.{TellsRows}
use Rattle.status_read.specs.Logs.{HasLogs}
use Rattle.status_read.specs.Segments.{status_refusal}
use Rattle.status_read.proofs.Deciding.{decided_as, reads_more, reads_on}
use Rattle.cluster_read.specs.Tables.{found_of, cluster_at, table_blocks}
use Rattle.cluster_read.proofs.tables.table_rows.Goals as goal

pub returns-in-Err-clause-decided : goal.returns-in-Err-clause-decided
returns-in-Err-clause-decided g c told formed =
    let s : FsState = (g.F.Fs.trail c.args.fs.now).present in
    decided_as (Unit {0}) (Unit {0}) (status_refusal s c.args.site.now.root.now) c.in-Err.error (c.in-Err.ensures.decided told)

pub returns-in-Err-index_of-clause-reads : goal.returns-in-Err-index_of-clause-reads
returns-in-Err-index_of-clause-reads g c =
    let before : Observed = record { told = g.F.Fs.told c.args.fs.now; firm = g.F.Fs.firm c.args.fs.now; depth = g.F.Fs.depth c.args.fs.now; trail = g.F.Fs.trail c.args.fs.now; counts = g.F.Fs.counts c.args.fs.now } in
    let here : Observed = record { told = g.F.Fs.told c.read_logs.new.fs; firm = g.F.Fs.firm c.read_logs.new.fs; depth = g.F.Fs.depth c.read_logs.new.fs; trail = g.F.Fs.trail c.read_logs.new.fs; counts = g.F.Fs.counts c.read_logs.new.fs } in
    let after : Observed = record { told = g.F.Fs.told c.index_of.new.fs; firm = g.F.Fs.firm c.index_of.new.fs; depth = g.F.Fs.depth c.index_of.new.fs; trail = g.F.Fs.trail c.index_of.new.fs; counts = g.F.Fs.counts c.index_of.new.fs } in
    reads_on before here after c.in-Err-index_of.error c.index_of.result c.in-Err-index_of.is c.in-Ok.ensures.reads c.index_of.ensures.reads

pub returns-in-Err-index_of-clause-decided : goal.returns-in-Err-index_of-clause-decided
returns-in-Err-index_of-clause-decided g c told formed =
    let s : FsState = (g.F.Fs.trail c.args.fs.now).present in
    let same : (g.F.Fs.trail c.read_logs.new.fs).present ≡ s = (c.in-Ok.ensures.reads.unchanged told).present in
    let none : status_refusal s c.args.site.now.root.now ≡ None = c.in-Ok.ensures.decided told in
    let free = c.in-Err-index_of.ensures.unrefused (c.in-Ok.ensures.reads.told ∙ told) (subst WellFormed (sym same) formed) in
    subst (λ r. DecidedBy {T = Unit {0}} r (Err c.in-Err-index_of.error)) (sym none) (decided_as (Unit {0}) (Unit {0}) None c.in-Err-index_of.error free)

pub returns-clause-reads : goal.returns-clause-reads
returns-clause-reads g c =
    let before : Observed = record { told = g.F.Fs.told c.args.fs.now; firm = g.F.Fs.firm c.args.fs.now; depth = g.F.Fs.depth c.args.fs.now; trail = g.F.Fs.trail c.args.fs.now; counts = g.F.Fs.counts c.args.fs.now } in
    let here : Observed = record { told = g.F.Fs.told c.read_logs.new.fs; firm = g.F.Fs.firm c.read_logs.new.fs; depth = g.F.Fs.depth c.read_logs.new.fs; trail = g.F.Fs.trail c.read_logs.new.fs; counts = g.F.Fs.counts c.read_logs.new.fs } in
    let later : Observed = record { told = g.F.Fs.told c.index_of.new.fs; firm = g.F.Fs.firm c.index_of.new.fs; depth = g.F.Fs.depth c.index_of.new.fs; trail = g.F.Fs.trail c.index_of.new.fs; counts = g.F.Fs.counts c.index_of.new.fs } in
    let after : Observed = record { told = g.F.Fs.told c.rows_by.new.fs; firm = g.F.Fs.firm c.rows_by.new.fs; depth = g.F.Fs.depth c.rows_by.new.fs; trail = g.F.Fs.trail c.rows_by.new.fs; counts = g.F.Fs.counts c.rows_by.new.fs } in
    let front : OnlyReads before later None = reads_more before here later _ c.index_of.result c.in-Ok-index_of.is c.in-Ok.ensures.reads c.index_of.ensures.reads in
    reads_then before later after None (unless_lack (error_of c.rows_by.result)) tt front c.rows_by.ensures.reads

pub returns-clause-decided : goal.returns-clause-decided
returns-clause-decided g c told formed =
    let s : FsState = (g.F.Fs.trail c.args.fs.now).present in
    let before : Observed = record { told = g.F.Fs.told c.args.fs.now; firm = g.F.Fs.firm c.args.fs.now; depth = g.F.Fs.depth c.args.fs.now; trail = g.F.Fs.trail c.args.fs.now; counts = g.F.Fs.counts c.args.fs.now } in
    let here : Observed = record { told = g.F.Fs.told c.read_logs.new.fs; firm = g.F.Fs.firm c.read_logs.new.fs; depth = g.F.Fs.depth c.read_logs.new.fs; trail = g.F.Fs.trail c.read_logs.new.fs; counts = g.F.Fs.counts c.read_logs.new.fs } in
    let later : Observed = record { told = g.F.Fs.told c.index_of.new.fs; firm = g.F.Fs.firm c.index_of.new.fs; depth = g.F.Fs.depth c.index_of.new.fs; trail = g.F.Fs.trail c.index_of.new.fs; counts = g.F.Fs.counts c.index_of.new.fs } in
    let front : OnlyReads before later None = reads_more before here later _ c.index_of.result c.in-Ok-index_of.is c.in-Ok.ensures.reads c.index_of.ensures.reads in
    let same : later.trail.present ≡ s = (front.unchanged told).present in
    let none : status_refusal s c.args.site.now.root.now ≡ None = c.in-Ok.ensures.decided told in
    subst (λ r. DecidedBy r c.rows_by.result) (sym none) (c.rows_by.ensures.unrefused (front.told ∙ told) (subst WellFormed (sym same) formed))

pub returns-clause-rows : goal.returns-clause-rows
returns-clause-rows g c told formed =
    let s : FsState = (g.F.Fs.trail c.args.fs.now).present in
    let before : Observed = record { told = g.F.Fs.told c.args.fs.now; firm = g.F.Fs.firm c.args.fs.now; depth = g.F.Fs.depth c.args.fs.now; trail = g.F.Fs.trail c.args.fs.now; counts = g.F.Fs.counts c.args.fs.now } in
    let here : Observed = record { told = g.F.Fs.told c.read_logs.new.fs; firm = g.F.Fs.firm c.read_logs.new.fs; depth = g.F.Fs.depth c.read_logs.new.fs; trail = g.F.Fs.trail c.read_logs.new.fs; counts = g.F.Fs.counts c.read_logs.new.fs } in
    let later : Observed = record { told = g.F.Fs.told c.index_of.new.fs; firm = g.F.Fs.firm c.index_of.new.fs; depth = g.F.Fs.depth c.index_of.new.fs; trail = g.F.Fs.trail c.index_of.new.fs; counts = g.F.Fs.counts c.index_of.new.fs } in
    let front : OnlyReads before later None = reads_more before here later _ c.index_of.result c.in-Ok-index_of.is c.in-Ok.ensures.reads c.index_of.ensures.reads in
    let site = c.args.site.now in
    let found : FoundTable = found_of c.args.found.now in
    let n : ℕ = c.args.relseg_size in
    let counters : Counters = c.args.counters.now in
    let Indexed : FsState → Type 0 = λ st. IsIndexOf c.in-Ok-index_of.index (chunks_of_blocks (toast_blocks st (cluster_at st site n counters) found found.table.toast)) in
    let Told : FsState → Type 0 = λ st. WellFormed st → (k : Counters) → HasLogs st site.root.now k c.in-Ok.logs
    → IsIndexOf c.in-Ok-index_of.index (chunks_of_blocks (toast_blocks st (cluster_at st site n k) found found.table.toast))
    → IfOk c.rows_by.result (TellsRows (reading_in st (cluster_at st site n k) found) c.args.snapshot.now (table_blocks st (cluster_at st site n k) found)) in
    let first : here.trail.present ≡ s = (c.in-Ok.ensures.reads.unchanged told).present in
    let same : later.trail.present ≡ s = (front.unchanged told).present in
    let indexed : Indexed s = subst Indexed first (c.in-Ok-index_of.ensures.index (c.in-Ok.ensures.reads.told ∙ told) (subst WellFormed (sym first) formed) counters) in
    let tells : Told s = subst Told same (c.rows_by.ensures.rows (front.told ∙ told)) in
    tells formed counters (c.in-Ok.ensures.logs told) indexed
