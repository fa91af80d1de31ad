use Rattle.std.proofs.Common.{◌≡◌, ◌∙◌, Some, None, sym, ap, subst}
use Rattle.std.specs.Prelude.{IfOk}
use Rattle.std.specs.Option.{option_map}
use Rattle.fs_model.specs.State.{FsState}
use Rattle.fs_model.specs.Trail.{error_of, unless_lack}
use Rattle.fs_model.specs.WellFormed.{WellFormed}
use Rattle.fs_model.proofs.Observing.{reads_then}
use Rattle.tree_checks.specs.Looks.{names_at}
use Rattle.tree_checks.proofs.Looking.{listed_is, unlisted_is}
use Rattle.file_checks.specs.Kept.{AreFirstBad}
use Rattle.file_checks.proofs.Bad.{listed_bad_files, unlisted_bad_files}
use Rattle.file_checks.proofs.Oks.{if_ok}
use Rattle.file_checks.proofs.files.bad_files.Goals as goal

pub returns-in-Ok-Some-clause-reads : goal.returns-in-Ok-Some-clause-reads
returns-in-Ok-Some-clause-reads g c = reads_then _ _ _ None (unless_lack (error_of c.bad_names.result)) tt c.in-Ok-Some.ensures.reads c.bad_names.ensures.reads

pub returns-in-Ok-Some-clause-found : goal.returns-in-Ok-Some-clause-found
returns-in-Ok-Some-clause-found g c told formed =
    let s : FsState = (g.F.Fs.trail c.args.fs.now).present in
    let same = (c.in-Ok-Some.ensures.reads.unchanged told).present in
    let items = c.in-Ok-Some.names.items in
    let listed : Some items ≡ names_at s.names c.args.dir.now = ap (λ o. option_map (λ n. n.items) o) (sym c.in-Ok-Some.field-0-is) ∙ c.in-Ok-Some.ensures.shows told formed in
    let found : IfOk c.bad_names.result (AreFirstBad s.names c.args.dir.now c.deref.result.now) =
    subst (λ (t : FsState). IfOk c.bad_names.result (AreFirstBad t.names c.args.dir.now c.deref.result.now)) same (c.bad_names.ensures.found (c.in-Ok-Some.ensures.reads.told ∙ told) (subst WellFormed (sym same) formed)) in
    if_ok c.bad_names.result found (λ bad first. listed_bad_files s.names c.args.dir.now c.deref.result.now bad (c.deref.ensures.value ∙ listed_is s.names c.args.dir.now items listed) first)

pub returns-in-Ok-None-clause-found : goal.returns-in-Ok-None-clause-found
returns-in-Ok-None-clause-found g c told formed =
    let s : FsState = (g.F.Fs.trail c.args.fs.now).present in
    unlisted_bad_files s.names c.args.dir.now _ formed.tree (unlisted_is s.names c.args.dir.now (ap (λ o. option_map (λ n. n.items) o) (sym c.in-Ok-None.field-0-is) ∙ c.in-Ok-None.ensures.shows told formed)) c.new.ensures
