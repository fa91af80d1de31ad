use Rattle.std.proofs.Common.{true, ◌∷◌, [], refl, ap, ◌∙◌, sym}
use Rattle.fs_model.specs.State.{FsState}
use Rattle.control_file.specs.declared.modes.Side.TheVariants.{Old, New}
use Rattle.compat_checks.specs.Order.{CatalogTextIs}
use Rattle.upgrade_checks.specs.Findings.{reading_of, reading_in, readings_in}
use Rattle.upgrade_checks.proofs.Testing.{tested_on, tested_first, tested_then, tested_stop, tested_as}
use Rattle.upgrade_checks.proofs.catalogs.read_catalogs.Goals as goal

pub returns-in_err-old-clause-tested : goal.returns-in_err-old-clause-tested
returns-in_err-old-clause-tested g c readings same =
    let stop = c.in_err-old.field-0.0 in
    tested_on true c.args.job.now readings _ _ _ c.from_residual.result stop c.from_residual.ensures.1
    (tested_first true c.args.job.now readings (CatalogTextIs Old ∷ []) (CatalogTextIs New ∷ []) _ _ stop (c.in_err-old.ensures.tested c.args.job.now readings (λ told. ap (λ r. reading_of r Old) (same told))))

pub returns-in_err-new-clause-tested : goal.returns-in_err-new-clause-tested
returns-in_err-new-clause-tested g c readings same =
    let stop = c.in_err-new.field-0.0 in
    let first = c.in_ok-old.ensures.tested c.args.job.now readings (λ told. ap (λ r. reading_of r Old) (same told)) in
    tested_on true c.args.job.now readings _ _ _ c.from_residual-in_err-new.result stop c.from_residual-in_err-new.ensures.1
    (tested_stop true c.args.job.now readings _ _ _ stop
    (tested_then true c.args.job.now readings (CatalogTextIs Old ∷ []) (CatalogTextIs New ∷ []) _ _ _ _ _ first
    (c.in_err-new.ensures.tested c.args.job.now readings (λ on. let told = sym first.told ∙ on in ap (λ r. reading_of r New) (same told) ∙ ap (λ s. reading_in g.S.Server.catalog_of s c.args.job.now New) (sym (first.unchanged told).present)))))

pub returns-clause-tested : goal.returns-clause-tested
returns-clause-tested g c readings same =
    let first = c.in_ok-old.ensures.tested c.args.job.now readings (λ told. ap (λ r. reading_of r Old) (same told)) in
    tested_as true c.args.job.now readings _ _ _ c.in_ok-new.new _
    (tested_then true c.args.job.now readings (CatalogTextIs Old ∷ []) (CatalogTextIs New ∷ []) _ _ _ _ _ first
    (c.in_ok-new.ensures.tested c.args.job.now readings (λ on. let told = sym first.told ∙ on in ap (λ r. reading_of r New) (same told) ∙ ap (λ s. reading_in g.S.Server.catalog_of s c.args.job.now New) (sym (first.unchanged told).present))))

pub returns-clause-read : goal.returns-clause-read
returns-clause-read g c told =
    let s : FsState = (g.F.Fs.trail c.args.fs.now).present in
    let first = c.in_ok-old.ensures.tested c.args.job.now (readings_in g.S.Server.catalog_of s c.args.job.now) (λ _. refl) in
    let new = ap (λ s. reading_in g.S.Server.catalog_of s c.args.job.now New) (sym (first.unchanged told).present) ∙ c.in_ok-new.ensures.read (first.told ∙ told) in
    λ i. record { old = c.in_ok-old.ensures.read told i; new = new i }
