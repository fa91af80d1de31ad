use Rattle.std.proofs.Common.{◌∙◌, None, sym, subst}
use Rattle.std.specs.Prelude.{IfOk}
use Rattle.fs_model.specs.State.{FsState}
use Rattle.fs_model.specs.Trail.{error_of, unless_lack}
use Rattle.fs_model.specs.WellFormed.{WellFormed}
use Rattle.fs_model.proofs.Observing.{reads_then}
use Rattle.tree_checks.specs.Findings.{IsFirstAmong}
use Rattle.file_checks.specs.Tablespaces.{placed, IsBadTablespace, IsStrayLink}
use Rattle.file_checks.proofs.Oks.{if_ok}
use Rattle.file_checks.proofs.Locating.{none_first}
use Rattle.file_checks.proofs.tablespaces.tablespace_dir.Goals as goal

pub returns-in-Ok-None-clause-reads : goal.returns-in-Ok-None-clause-reads
returns-in-Ok-None-clause-reads g c = reads_then _ _ _ None (unless_lack (error_of c.stray_link.result)) tt c.in-Ok-None.ensures.reads c.stray_link.ensures.reads

pub returns-in-Ok-None-clause-finds : goal.returns-in-Ok-None-clause-finds
returns-in-Ok-None-clause-finds g c told =
    let s : FsState = (g.F.Fs.trail c.args.fs.now).present in
    let formed = c.moment.ensures.well_formed told in
    let same = (c.in-Ok-None.ensures.reads.unchanged told).present in
    let ts = placed c.args.catalog.now.tablespaces in
    let First = IsFirstAmong (IsBadTablespace s.names c.args.old.now c.args.new.now ts) ts in
    let none : First None = subst First c.in-Ok-None.field-0-is (c.in-Ok-None.ensures.finds told formed) in
    let stray : IfOk c.stray_link.result (IsStrayLink s.names c.args.old.now ts) =
    subst (λ (u : FsState). IfOk c.stray_link.result (IsStrayLink u.names c.args.old.now ts)) same (c.stray_link.ensures.finds (c.in-Ok-None.ensures.reads.told ∙ told) (subst WellFormed (sym same) formed)) in
    if_ok c.stray_link.result stray (λ found later. none_first First (IsStrayLink s.names c.args.old.now ts) found none later)
