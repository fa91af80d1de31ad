use Rattle.std.proofs.Common.{◌≡◌, List, Some, None, subst, refl}
use Rattle.std.specs.List.{position}
use Rattle.std.proofs.lemmas.Result.{err_from_is_err_and}
use Rattle.catalog.specs.declared.error.CatalogError.{CatalogError}
use Rattle.catalog.specs.Cluster.{DatabaseObjects, Cluster}
use Rattle.catalog.specs.Spaces.{database_has}
use Rattle.catalog.specs.Refusals.{label_refusal}
use Rattle.catalog.specs.Changes.{add_label}
use Rattle.catalog.proofs.TypeLemmas
use Rattle.catalog.proofs.CatalogLemmas
use Rattle.catalog.proofs.cluster.Catalog.add_label.Goals as goal

pub returns-in_err-place-clause-refused : goal.returns-in_err-place-clause-refused
returns-in_err-place-clause-refused c =
    let p = err_from_is_err_and c.from_residual.result c.from_residual.ensures.1 in
    let now : Cluster = record { bootstrap = c.self.inside.bootstrap; roles = c.self.inside.roles.items; tablespaces = c.self.inside.tablespaces.items; databases = c.self.inside.databases.items } in
    let missing : position (database_has c.args.database) c.self.inside.databases.items ≡ None = subst (λ (ds : List DatabaseObjects). position (database_has c.args.database) ds ≡ None) c.deref.ensures.value c.in_err-place.ensures.missing.1 in
    rw (p.1, p.2, c.in_err-place.ensures.missing.0, ← c.self.view_is) (λ _. CatalogLemmas.change_missing now c.args.database (λ (d : DatabaseObjects). label_refusal d c.args.kind c.args.label) (add_label c.args.kind c.args.label) missing)

pub returns-in_err-add_label-clause-refused : goal.returns-in_err-add_label-clause-refused
returns-in_err-add_label-clause-refused c =
    let p = err_from_is_err_and c.from_residual-in_err-add_label.result c.from_residual-in_err-add_label.ensures.1 in
    let now : Cluster = record { bootstrap = c.self.inside.bootstrap; roles = c.self.inside.roles.items; tablespaces = c.self.inside.tablespaces.items; databases = c.self.inside.databases.items } in
    let lent : DatabaseObjects = c.index_mut-found.result.now in
    let found : position (database_has c.args.database) c.self.inside.databases.items ≡ Some c.in_ok-place.place = subst (λ (ds : List DatabaseObjects). position (database_has c.args.database) ds ≡ Some c.in_ok-place.place) c.deref.ensures.value c.in_ok-place.ensures.found in
    let at : CatalogLemmas.Lent now c.args.database c.in_ok-place.place lent = record { place = found; entry = c.index_mut-found.ensures.value } in
    let e : CatalogError = c.in_err-add_label.field-0.0 in
    rw (p.1, p.2, ← c.self.view_is) (λ real. CatalogLemmas.lent_refused now c.args.database c.in_ok-place.place (λ (d : DatabaseObjects). label_refusal d c.args.kind c.args.label) (add_label c.args.kind c.args.label) lent e at (c.in_err-add_label.ensures.refused real))

pub returns-in_err-add_label-clause-lacking : goal.returns-in_err-add_label-clause-lacking
returns-in_err-add_label-clause-lacking c =
    let p = err_from_is_err_and c.from_residual-in_err-add_label.result c.from_residual-in_err-add_label.ensures.1 in
    let now : Cluster = record { bootstrap = c.self.inside.bootstrap; roles = c.self.inside.roles.items; tablespaces = c.self.inside.tablespaces.items; databases = c.self.inside.databases.items } in
    let lent : DatabaseObjects = c.index_mut-found.result.now in
    let found : position (database_has c.args.database) c.self.inside.databases.items ≡ Some c.in_ok-place.place = subst (λ (ds : List DatabaseObjects). position (database_has c.args.database) ds ≡ Some c.in_ok-place.place) c.deref.ensures.value c.in_ok-place.ensures.found in
    let at : CatalogLemmas.Lent now c.args.database c.in_ok-place.place lent = record { place = found; entry = c.index_mut-found.ensures.value } in
    rw (p.1, p.2, ← c.self.view_is) (λ lacked. CatalogLemmas.lent_is_made now c.args.database c.in_ok-place.place (λ (d : DatabaseObjects). label_refusal d c.args.kind c.args.label) (add_label c.args.kind c.args.label) lent at (c.in_err-add_label.ensures.lacking lacked))

pub returns-clause-ok : goal.returns-clause-ok
returns-clause-ok c =
    let now : Cluster = record { bootstrap = c.self.inside.bootstrap; roles = c.self.inside.roles.items; tablespaces = c.self.inside.tablespaces.items; databases = c.self.inside.databases.items } in
    let lent : DatabaseObjects = c.index_mut-found.result.now in
    let found : position (database_has c.args.database) c.self.inside.databases.items ≡ Some c.in_ok-place.place = subst (λ (ds : List DatabaseObjects). position (database_has c.args.database) ds ≡ Some c.in_ok-place.place) c.deref.ensures.value c.in_ok-place.ensures.found in
    let at : CatalogLemmas.Lent now c.args.database c.in_ok-place.place lent = record { place = found; entry = c.index_mut-found.ensures.value } in
    rw (← c.self.view_is) (CatalogLemmas.lent_made now c.args.database c.in_ok-place.place (λ (d : DatabaseObjects). label_refusal d c.args.kind c.args.label) (add_label c.args.kind c.args.label) lent c.add_label.new.self at (c.in_ok-add_label.ensures.ok.0) c.in_ok-add_label.ensures.ok.1)

pub invariant_of-self-2 : goal.invariant_of-self-2
invariant_of-self-2 c =
    let now : Cluster = record { bootstrap = c.self.inside.bootstrap; roles = c.self.inside.roles.items; tablespaces = c.self.inside.tablespaces.items; databases = c.self.inside.databases.items } in
    let lent : DatabaseObjects = c.index_mut-found.result.now in
    let found : position (database_has c.args.database) c.self.inside.databases.items ≡ Some c.in_ok-place.place = subst (λ (ds : List DatabaseObjects). position (database_has c.args.database) ds ≡ Some c.in_ok-place.place) c.deref.ensures.value c.in_ok-place.ensures.found in
    let at : CatalogLemmas.Lent now c.args.database c.in_ok-place.place lent = record { place = found; entry = c.index_mut-found.ensures.value } in
    let free : label_refusal lent c.args.kind c.args.label ≡ None = c.in_ok-add_label.ensures.ok.0 in
    CatalogLemmas.lent_keeps now c.args.database c.in_ok-place.place (add_label c.args.kind c.args.label) lent c.add_label.new.self c.self.invariant at (λ _. refl) c.in_ok-add_label.ensures.ok.1 (λ v. TypeLemmas.label_keeps c.self.inside.roles.items c.self.inside.tablespaces.items lent c.args.kind c.args.label v c.in_ok-add_label.ensures.fits free)
