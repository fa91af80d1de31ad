use Rattle.std.proofs.Common.{◌≡◌, List, Some, None, subst, refl}
use Rattle.std.specs.List.{position}
use Rattle.std.proofs.lemmas.Result.{err_from_is_err_and}
use Rattle.catalog.specs.declared.error.CatalogError.{CatalogError}
use Rattle.catalog.specs.declared.owners.Role.{Role}
use Rattle.catalog.specs.Cluster.{DatabaseObjects, Cluster}
use Rattle.catalog.specs.Spaces.{database_has}
use Rattle.catalog.specs.Refusals.{sequence_refusal}
use Rattle.catalog.specs.Changes.{add_sequence}
use Rattle.catalog.proofs.DatabaseLemmas
use Rattle.catalog.proofs.CatalogLemmas
use Rattle.catalog.proofs.cluster.Catalog.add_sequence.Goals as goal

pub returns-in_err-place-clause-refused : goal.returns-in_err-place-clause-refused
returns-in_err-place-clause-refused c =
    let p = err_from_is_err_and c.from_residual.result c.from_residual.ensures.1 in
    let now : Cluster = record { bootstrap = c.self.inside.bootstrap; roles = c.self.inside.roles.items; tablespaces = c.self.inside.tablespaces.items; databases = c.self.inside.databases.items } in
    let missing : position (database_has c.args.database) c.self.inside.databases.items ≡ None = subst (λ (ds : List DatabaseObjects). position (database_has c.args.database) ds ≡ None) c.deref.ensures.value c.in_err-place.ensures.missing.1 in
    rw (p.1, p.2, c.in_err-place.ensures.missing.0, ← c.self.view_is) (λ _. CatalogLemmas.change_missing now c.args.database (λ (d : DatabaseObjects). sequence_refusal c.self.inside.roles.items d c.args.sequence) (add_sequence c.args.sequence) missing)

pub returns-in_err-add_sequence-clause-refused : goal.returns-in_err-add_sequence-clause-refused
returns-in_err-add_sequence-clause-refused c =
    let p = err_from_is_err_and c.from_residual-in_err-add_sequence.result c.from_residual-in_err-add_sequence.ensures.1 in
    let now : Cluster = record { bootstrap = c.self.inside.bootstrap; roles = c.self.inside.roles.items; tablespaces = c.self.inside.tablespaces.items; databases = c.self.inside.databases.items } in
    let lent : DatabaseObjects = c.index_mut-found.result.now in
    let found : position (database_has c.args.database) c.self.inside.databases.items ≡ Some c.in_ok-place.place = subst (λ (ds : List DatabaseObjects). position (database_has c.args.database) ds ≡ Some c.in_ok-place.place) c.deref.ensures.value c.in_ok-place.ensures.found in
    let at : CatalogLemmas.Lent now c.args.database c.in_ok-place.place lent = record { place = found; entry = c.index_mut-found.ensures.value } in
    let e : CatalogError = c.in_err-add_sequence.field-0.0 in
    rw (p.1, p.2, ← c.self.view_is) (λ real. CatalogLemmas.lent_refused now c.args.database c.in_ok-place.place (λ (d : DatabaseObjects). sequence_refusal c.self.inside.roles.items d c.args.sequence) (add_sequence c.args.sequence) lent e at (subst (λ (rs : List Role). sequence_refusal rs lent c.args.sequence ≡ Some e) c.deref-2.ensures.value (c.in_err-add_sequence.ensures.refused real)))

pub returns-in_err-add_sequence-clause-lacking : goal.returns-in_err-add_sequence-clause-lacking
returns-in_err-add_sequence-clause-lacking c =
    let p = err_from_is_err_and c.from_residual-in_err-add_sequence.result c.from_residual-in_err-add_sequence.ensures.1 in
    let now : Cluster = record { bootstrap = c.self.inside.bootstrap; roles = c.self.inside.roles.items; tablespaces = c.self.inside.tablespaces.items; databases = c.self.inside.databases.items } in
    let lent : DatabaseObjects = c.index_mut-found.result.now in
    let found : position (database_has c.args.database) c.self.inside.databases.items ≡ Some c.in_ok-place.place = subst (λ (ds : List DatabaseObjects). position (database_has c.args.database) ds ≡ Some c.in_ok-place.place) c.deref.ensures.value c.in_ok-place.ensures.found in
    let at : CatalogLemmas.Lent now c.args.database c.in_ok-place.place lent = record { place = found; entry = c.index_mut-found.ensures.value } in
    rw (p.1, p.2, ← c.self.view_is) (λ lacked. CatalogLemmas.lent_is_made now c.args.database c.in_ok-place.place (λ (d : DatabaseObjects). sequence_refusal c.self.inside.roles.items d c.args.sequence) (add_sequence c.args.sequence) lent at (subst (λ (rs : List Role). sequence_refusal rs lent c.args.sequence ≡ None) c.deref-2.ensures.value (c.in_err-add_sequence.ensures.lacking lacked)))

pub returns-clause-ok : goal.returns-clause-ok
returns-clause-ok c =
    let now : Cluster = record { bootstrap = c.self.inside.bootstrap; roles = c.self.inside.roles.items; tablespaces = c.self.inside.tablespaces.items; databases = c.self.inside.databases.items } in
    let lent : DatabaseObjects = c.index_mut-found.result.now in
    let found : position (database_has c.args.database) c.self.inside.databases.items ≡ Some c.in_ok-place.place = subst (λ (ds : List DatabaseObjects). position (database_has c.args.database) ds ≡ Some c.in_ok-place.place) c.deref.ensures.value c.in_ok-place.ensures.found in
    let at : CatalogLemmas.Lent now c.args.database c.in_ok-place.place lent = record { place = found; entry = c.index_mut-found.ensures.value } in
    rw (← c.self.view_is) (CatalogLemmas.lent_made now c.args.database c.in_ok-place.place (λ (d : DatabaseObjects). sequence_refusal c.self.inside.roles.items d c.args.sequence) (add_sequence c.args.sequence) lent c.add_sequence.new.self at (subst (λ (rs : List Role). sequence_refusal rs lent c.args.sequence ≡ None) c.deref-2.ensures.value (c.in_ok-add_sequence.ensures.ok.0)) c.in_ok-add_sequence.ensures.ok.1)

pub invariant_of-self-2 : goal.invariant_of-self-2
invariant_of-self-2 c =
    let now : Cluster = record { bootstrap = c.self.inside.bootstrap; roles = c.self.inside.roles.items; tablespaces = c.self.inside.tablespaces.items; databases = c.self.inside.databases.items } in
    let lent : DatabaseObjects = c.index_mut-found.result.now in
    let found : position (database_has c.args.database) c.self.inside.databases.items ≡ Some c.in_ok-place.place = subst (λ (ds : List DatabaseObjects). position (database_has c.args.database) ds ≡ Some c.in_ok-place.place) c.deref.ensures.value c.in_ok-place.ensures.found in
    let at : CatalogLemmas.Lent now c.args.database c.in_ok-place.place lent = record { place = found; entry = c.index_mut-found.ensures.value } in
    let free : sequence_refusal c.self.inside.roles.items lent c.args.sequence ≡ None = subst (λ (rs : List Role). sequence_refusal rs lent c.args.sequence ≡ None) c.deref-2.ensures.value (c.in_ok-add_sequence.ensures.ok.0) in
    CatalogLemmas.lent_keeps now c.args.database c.in_ok-place.place (add_sequence c.args.sequence) lent c.add_sequence.new.self c.self.invariant at (λ _. refl) c.in_ok-add_sequence.ensures.ok.1 (λ v. DatabaseLemmas.sequence_keeps c.self.inside.roles.items c.self.inside.tablespaces.items lent c.args.sequence v c.requires c.in_ok-add_sequence.ensures.fits.0 c.in_ok-add_sequence.ensures.fits.1 free)
