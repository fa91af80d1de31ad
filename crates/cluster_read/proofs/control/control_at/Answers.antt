use Rattle.std.proofs.Common.{◌≡◌, ◌∙◌, ◌++◌, ℕ, List, [], true, None, Some, Option, Result, Ok, Err, IfOk, refl, sym, ap, subst}
use Rattle.fs_model.specs.State.{FsState}
use Rattle.fs_model.specs.WellFormed.{WellFormed}
use Rattle.fs_model.specs.Trail.{DecidedBy, error_of, unless_lack}
use Rattle.fs_model.specs.Observed.{Observed, OnlyReads}
use Rattle.fs_model.proofs.Observing.{no_reads, reads_then}
use Rattle.fs_model.specs.Calls.{ReadsAt, refusal}
use Rattle.fs_model.specs.Reading.{file_bytes}
use Rattle.std.specs.Option.{option_map, unwrap_or}
use Rattle.control_file.specs.declared.records.Control.{Control}
use Rattle.control_file.specs.ControlRecord.{control_in, control_of}
use Rattle.cluster_meaning.specs.Cluster.{control_path}
use Rattle.cluster_read.specs.declared.error.ReadError.TheVariants.{Fs, Control as BadControl}
use Rattle.cluster_read.specs.Causes.{DecidedAs, or_then, control_cause, control_refusal}
use Rattle.cluster_read.proofs.Deciding.{decided_first}
use Rattle.cluster_read.proofs.control.control_at.Goals as goal

pub returns-in-Err-clause-decided : goal.returns-in-Err-clause-decided
returns-in-Err-clause-decided g c told =
    let s : FsState = (g.F.Fs.trail c.args.fs.now).present in
    let root = c.args.root.now in
    decided_first (Unit {0}) (Unit {0}) (option_map Fs (refusal s (ReadsAt (control_path root)))) (control_cause (control_in (unwrap_or (file_bytes s (control_path root)) []) c.args.release)) c.in-Err.error (c.in-Err.ensures.decided told)

pub returns-in-Ok-read_control-clause-decided : goal.returns-in-Ok-read_control-clause-decided
returns-in-Ok-read_control-clause-decided g c told =
    let s : FsState = (g.F.Fs.trail c.args.fs.now).present in
    let path = control_path c.args.root.now in
    let none : option_map Fs (refusal s (ReadsAt path)) ≡ None = c.in-Ok.ensures.decided told in
    let bytes : unwrap_or (file_bytes s path) [] ≡ c.deref.result.now = ap (λ (o : Option (List ℕ)). unwrap_or o []) (c.in-Ok.ensures.bytes told) ∙ sym c.deref.ensures.value in
    let answer : control_in (unwrap_or (file_bytes s path) []) c.args.release ≡ Ok c.in-Ok-read_control.control = ap (λ b. control_in b c.args.release) bytes ∙ sym c.read_control.ensures.value ∙ c.in-Ok-read_control.is in
    λ i. or_then (none i) (control_cause (answer i))

pub returns-clause-decided : goal.returns-clause-decided
returns-clause-decided g c told =
    let s : FsState = (g.F.Fs.trail c.args.fs.now).present in
    let path = control_path c.args.root.now in
    let none : option_map Fs (refusal s (ReadsAt path)) ≡ None = c.in-Ok.ensures.decided told in
    let bytes : unwrap_or (file_bytes s path) [] ≡ c.deref.result.now = ap (λ (o : Option (List ℕ)). unwrap_or o []) (c.in-Ok.ensures.bytes told) ∙ sym c.deref.ensures.value in
    let answer : control_in (unwrap_or (file_bytes s path) []) c.args.release ≡ Err c.in-Err-read_control.error = ap (λ b. control_in b c.args.release) bytes ∙ sym c.read_control.ensures.value ∙ c.in-Err-read_control.is in
    λ i. or_then (none i) (control_cause (answer i))

pub returns-in-Ok-read_control-clause-control : goal.returns-in-Ok-read_control-clause-control
returns-in-Ok-read_control-clause-control g c told =
    let s : FsState = (g.F.Fs.trail c.args.fs.now).present in
    let path = control_path c.args.root.now in
    let bytes : c.deref.result.now ≡ unwrap_or (file_bytes s path) [] = c.deref.ensures.value ∙ sym (ap (λ (o : Option (List ℕ)). unwrap_or o []) (c.in-Ok.ensures.bytes told)) in
    c.in-Ok-read_control.ensures.fields ∙ ap control_of bytes
