use Rattle.std.proofs.Common.{◌≡◌, ◌∙◌, ◌++◌, ℕ, List, [], true, None, Some, Option, Result, Ok, Err, IfOk, refl, sym, ap, subst}
use Rattle.fs_model.specs.State.{FsState}
use Rattle.fs_model.specs.WellFormed.{WellFormed}
use Rattle.fs_model.specs.Trail.{DecidedBy, error_of, unless_lack}
use Rattle.fs_model.specs.Observed.{Observed, OnlyReads}
use Rattle.fs_model.proofs.Observing.{no_reads, reads_then}
use Rattle.fs_model.specs.Calls.{ReadsAt, refusal}
use Rattle.fs_model.specs.Reading.{file_bytes}
use Rattle.std.specs.Option.{option_map}
use Rattle.cluster_meaning.specs.Cluster.{control_path}
use Rattle.cluster_read.specs.declared.error.ReadError.TheVariants.{Fs}
use Rattle.cluster_read.specs.Causes.{DecidedAs, WrapsNoLack, FindsObjects}
use Rattle.cluster_read.proofs.Deciding.{read_as_whole, read_as_finds, read_as_decided, read_as_ok, reads_as}
use Rattle.cluster_read.proofs.control.control_bytes.Goals as goal

pub returns-clause-reads : goal.returns-clause-reads
returns-clause-reads g c =
    let before : Observed = record { told = g.F.Fs.told c.args.fs.now; firm = g.F.Fs.firm c.args.fs.now; depth = g.F.Fs.depth c.args.fs.now; trail = g.F.Fs.trail c.args.fs.now; counts = g.F.Fs.counts c.args.fs.now } in
    let after : Observed = record { told = g.F.Fs.told c.read_all-answer.new.fs; firm = g.F.Fs.firm c.read_all-answer.new.fs; depth = g.F.Fs.depth c.read_all-answer.new.fs; trail = g.F.Fs.trail c.read_all-answer.new.fs; counts = g.F.Fs.counts c.read_all-answer.new.fs } in
    reads_as before after c.read_all-answer.result c.read_as.result c.read_as.ensures c.read_all-answer.ensures.reads

pub returns-clause-whole : goal.returns-clause-whole
returns-clause-whole g c = subst WrapsNoLack (sym c.read_as.ensures) (read_as_whole c.read_all-answer.result)

pub returns-clause-stands : goal.returns-clause-stands
returns-clause-stands g c = subst FindsObjects (sym c.read_as.ensures) (read_as_finds c.read_all-answer.result)

pub returns-clause-decided : goal.returns-clause-decided
returns-clause-decided g c told =
    let s : FsState = (g.F.Fs.trail c.args.fs.now).present in
    let root = c.args.root.now in
    let decided : DecidedBy (refusal s (ReadsAt (control_path root))) c.read_all-answer.result = subst (λ path. DecidedBy (refusal s (ReadsAt path)) c.read_all-answer.result) c.in-Ok.ensures.path (c.read_all-answer.ensures.decided told) in
    subst (DecidedAs (option_map Fs (refusal s (ReadsAt (control_path root))))) (sym c.read_as.ensures) (read_as_decided c.read_all-answer.result (refusal s (ReadsAt (control_path root))) decided)

pub returns-clause-bytes : goal.returns-clause-bytes
returns-clause-bytes g c told =
    let s : FsState = (g.F.Fs.trail c.args.fs.now).present in
    let root = c.args.root.now in
    let bytes = subst (λ path. IfOk c.read_all-answer.result (λ bytes. file_bytes s path ≡ Some bytes.items)) c.in-Ok.ensures.path (c.read_all-answer.ensures.bytes told) in
    subst (λ r. IfOk r (λ bytes. file_bytes s (control_path root) ≡ Some bytes.items)) (sym c.read_as.ensures) (read_as_ok c.read_all-answer.result (λ bytes. file_bytes s (control_path root) ≡ Some bytes.items) bytes)
