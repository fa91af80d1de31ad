-- Where nothing is found, both catalogs are read, and the new one is that which the old one's bootstrap role starts with.
use Rattle.std.proofs.Common.{◌≡◌, ◌∙◌, Bool, true, false, None, Result, Ok, Err, refl, sym, ap, subst}
use Rattle.std.specs.Prelude.{not, bytes_eq}
use Rattle.std.proofs.lemmas.Slice.Eq.{bytes_eq-Decides}
use Rattle.fs_model.specs.State.{FsState}
use Rattle.control_file.specs.declared.job.Job.{Job}
use Rattle.control_file.specs.declared.modes.Side.{Side}
use Rattle.control_file.specs.declared.modes.Side.TheVariants.{Old, New}
use Rattle.catalog.specs.Cluster.{Cluster, started}
use Rattle.dump_grammar.specs.declared.error.TextError.{TextError}
use Rattle.compat_checks.specs.declared.refusal.Refusal.{Refusal}
use Rattle.compat_checks.specs.declared.refusal.Refusal.TheVariants.{InstallUser, NewNotEmpty}
use Rattle.compat_checks.specs.Order.{CatalogTextIs, InstallUserIs, NewNotEmptyIs}
use Rattle.upgrade_checks.specs.Findings.{Readings, OfCatalog, RefusedUnless, refused_if, catalog_text, install_user}
use Rattle.upgrade_checks.specs.Passing.{FindsNothing, AreFresh}

-- a catalog is read where no text is refused
is_read : (side : Side) (reading : Result Cluster TextError) → None ≡ catalog_text side reading → (c : Cluster) × (reading ≡ Ok c)
is_read side (Ok c) none = (c, refl)
is_read side (Err e) none = absurd (cc none)

if_none : (test : Bool) (refusal : Refusal) → None ≡ refused_if (not test) refusal → test ≡ true
if_none true refusal none = refl
if_none false refusal none = absurd (cc none)

pub fresh : (s : FsState) (job : Job) (readings : Readings) → FindsNothing s job readings → AreFresh readings
fresh s job readings nothing =
    let old = is_read Old readings.old (nothing (CatalogTextIs Old)) in
    let new = is_read New readings.new (nothing (CatalogTextIs New)) in
    let users : None ≡ install_user old.0 new.0 =
    subst (λ r. OfCatalog (λ c found. found ≡ install_user old.0 c) r None) new.1
    (subst (λ r. OfCatalog (λ one. OfCatalog (λ c found. found ≡ install_user one c) readings.new) r None) old.1 (nothing InstallUserIs)) in
    let started_by : new.0 ≡ started new.0.bootstrap =
    subst (λ r. OfCatalog (λ c. RefusedUnless (c ≡ started c.bootstrap) NewNotEmpty) r None) new.1 (nothing NewNotEmptyIs) in
    let same : old.0.bootstrap ≡ new.0.bootstrap = (bytes_eq-Decides old.0.bootstrap new.0.bootstrap).0 (if_none (bytes_eq old.0.bootstrap new.0.bootstrap) InstallUser users) in
    record { catalog = old.0; old = old.1; new = new.1 ∙ ap (λ c. Ok c) (started_by ∙ ap started (sym same)) }
