use Rattle.std.proofs.Common.{◌≡◌, ◌∙◌, ◌++◌, ℕ, List, [], true, None, Some, Option, Result, Ok, Err, IfOk, refl, sym, ap, subst}
use Rattle.fs_model.specs.State.{FsState}
use Rattle.fs_model.specs.WellFormed.{WellFormed}
use Rattle.fs_model.specs.Trail.{DecidedBy, error_of, unless_lack}
use Rattle.fs_model.specs.Observed.{Observed, OnlyReads}
use Rattle.fs_model.proofs.Observing.{no_reads, reads_then}
use Rattle.std.specs.Option.{option_map}
use Rattle.control_file.specs.declared.records.Control.{Control}
use Rattle.cluster_meaning.specs.Cluster.{control_at}
use Rattle.cluster_meaning.specs.Meaning.{FoundTable, reading_in}
use Rattle.block_rows.specs.declared.rows.Rows.{Rows}
use Rattle.block_rows.specs.Rows.{TellsRows}
use Rattle.status_read.specs.Segments.{status_refusal}
use Rattle.cluster_read.specs.declared.error.ReadError.TheVariants.{Fs}
use Rattle.cluster_read.specs.Causes.{DecidedAs, WrapsNoLack, FindsObjects, control_refusal}
use Rattle.cluster_read.specs.Tables.{found_of, cluster_at, table_blocks}
use Rattle.cluster_read.proofs.Deciding.{decided_first, decided_later, read_as_whole, read_as_finds, read_as_decided, read_as_ok, reads_as}
use Rattle.cluster_read.proofs.rows.rows_at.Goals as goal

pub returns-in-Err-clause-decided : goal.returns-in-Err-clause-decided
returns-in-Err-clause-decided g c told =
    let s : FsState = (g.F.Fs.trail c.args.fs.now).present in
    let site = c.args.site.now in
    decided_first (Unit {0}) (Unit {0}) (control_refusal s site.root.now site.release) (option_map Fs (status_refusal s site.root.now)) c.in-Err.error (c.in-Err.ensures.decided told)

pub returns-clause-reads : goal.returns-clause-reads
returns-clause-reads g c =
    let before : Observed = record { told = g.F.Fs.told c.args.fs.now; firm = g.F.Fs.firm c.args.fs.now; depth = g.F.Fs.depth c.args.fs.now; trail = g.F.Fs.trail c.args.fs.now; counts = g.F.Fs.counts c.args.fs.now } in
    let here : Observed = record { told = g.F.Fs.told c.control_at.new.fs; firm = g.F.Fs.firm c.control_at.new.fs; depth = g.F.Fs.depth c.control_at.new.fs; trail = g.F.Fs.trail c.control_at.new.fs; counts = g.F.Fs.counts c.control_at.new.fs } in
    let after : Observed = record { told = g.F.Fs.told c.table_rows-answer.new.fs; firm = g.F.Fs.firm c.table_rows-answer.new.fs; depth = g.F.Fs.depth c.table_rows-answer.new.fs; trail = g.F.Fs.trail c.table_rows-answer.new.fs; counts = g.F.Fs.counts c.table_rows-answer.new.fs } in
    reads_as before after c.table_rows-answer.result c.read_as.result c.read_as.ensures
    (reads_then before here after None (unless_lack (error_of c.table_rows-answer.result)) tt c.in-Ok.ensures.reads c.table_rows-answer.ensures.reads)

pub returns-clause-whole : goal.returns-clause-whole
returns-clause-whole g c = subst WrapsNoLack (sym c.read_as.ensures) (read_as_whole c.table_rows-answer.result)

pub returns-clause-stands : goal.returns-clause-stands
returns-clause-stands g c = subst FindsObjects (sym c.read_as.ensures) (read_as_finds c.table_rows-answer.result)

pub returns-clause-decided : goal.returns-clause-decided
returns-clause-decided g c told =
    let s : FsState = (g.F.Fs.trail c.args.fs.now).present in
    let site = c.args.site.now in
    let root = site.root.now in
    let answer = c.table_rows-answer.result in
    let same : (g.F.Fs.trail c.control_at.new.fs).present ≡ s = (c.in-Ok.ensures.reads.unchanged told).present in
    let formed : WellFormed s = c.moment.ensures.well_formed told in
    let later : DecidedBy (status_refusal s root) answer = subst (λ st. DecidedBy (status_refusal st root) answer) same (c.table_rows-answer.ensures.decided (c.in-Ok.ensures.reads.told ∙ told) (subst WellFormed (sym same) formed)) in
    decided_later (control_refusal s root site.release) (option_map Fs (status_refusal s root)) c.read_as.result (c.in-Ok.ensures.decided told)
    (subst (DecidedAs (option_map Fs (status_refusal s root))) (sym c.read_as.ensures) (read_as_decided answer (status_refusal s root) later))

pub returns-clause-rows : goal.returns-clause-rows
returns-clause-rows g c told =
    let s : FsState = (g.F.Fs.trail c.args.fs.now).present in
    let site = c.args.site.now in
    let found : FoundTable = found_of c.args.found.now in
    let same : (g.F.Fs.trail c.control_at.new.fs).present ≡ s = (c.in-Ok.ensures.reads.unchanged told).present in
    let formed : WellFormed s = c.moment.ensures.well_formed told in
    let Tells : FsState → Control → Rows → Type 0 = λ st control. TellsRows (reading_in st (cluster_at st site control.relseg_size control.counters) found) c.args.snapshot.now (table_blocks st (cluster_at st site control.relseg_size control.counters) found) in
    let Told : FsState → Type 0 = λ st. WellFormed st → IfOk c.table_rows-answer.result (Tells st c.in-Ok.control) in
    let tells : IfOk c.table_rows-answer.result (Tells s c.in-Ok.control) = (subst Told same (c.table_rows-answer.ensures.rows (c.in-Ok.ensures.reads.told ∙ told))) formed in
    let here : IfOk c.table_rows-answer.result (Tells s (control_at s site.root.now)) = subst (λ control. IfOk c.table_rows-answer.result (Tells s control)) (c.in-Ok.ensures.control told) tells in
    subst (λ r. IfOk r (Tells s (control_at s site.root.now))) (sym c.read_as.ensures) (read_as_ok c.table_rows-answer.result (Tells s (control_at s site.root.now)) here)
