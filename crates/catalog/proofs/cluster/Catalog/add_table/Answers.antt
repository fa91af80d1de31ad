use Rattle.std.proofs.Common.{◌≡◌, List, Some, None, subst, refl}
use Rattle.std.specs.List.{position}
use Rattle.std.proofs.lemmas.Result.{err_from_is_err_and}
use Rattle.catalog.specs.declared.error.CatalogError.{CatalogError}
use Rattle.catalog.specs.declared.owners.Role.{Role}
use Rattle.catalog.specs.declared.owners.Tablespace.{Tablespace}
use Rattle.catalog.specs.Cluster.{DatabaseObjects, Cluster}
use Rattle.catalog.specs.Spaces.{database_has}
use Rattle.catalog.specs.Refusals.{table_refusal}
use Rattle.catalog.specs.Changes.{add_table}
use Rattle.catalog.proofs.RelationLemmas
use Rattle.catalog.proofs.CatalogLemmas
use Rattle.catalog.proofs.cluster.Catalog.add_table.Goals as goal

pub returns-in_err-place-clause-refused : goal.returns-in_err-place-clause-refused
returns-in_err-place-clause-refused c =
    let p = err_from_is_err_and c.from_residual.result c.from_residual.ensures.1 in
    let now : Cluster = record { bootstrap = c.self.inside.bootstrap; roles = c.self.inside.roles.items; tablespaces = c.self.inside.tablespaces.items; databases = c.self.inside.databases.items } in
    let missing : position (database_has c.args.database) c.self.inside.databases.items ≡ None = subst (λ (ds : List DatabaseObjects). position (database_has c.args.database) ds ≡ None) c.deref.ensures.value c.in_err-place.ensures.missing.1 in
    rw (p.1, p.2, c.in_err-place.ensures.missing.0, ← c.self.view_is) (λ _. CatalogLemmas.change_missing now c.args.database (λ (d : DatabaseObjects). table_refusal c.self.inside.roles.items c.self.inside.tablespaces.items d c.args.table) (add_table c.args.table) missing)

pub returns-in_err-add_table-clause-refused : goal.returns-in_err-add_table-clause-refused
returns-in_err-add_table-clause-refused c =
    let p = err_from_is_err_and c.from_residual-in_err-add_table.result c.from_residual-in_err-add_table.ensures.1 in
    let now : Cluster = record { bootstrap = c.self.inside.bootstrap; roles = c.self.inside.roles.items; tablespaces = c.self.inside.tablespaces.items; databases = c.self.inside.databases.items } in
    let lent : DatabaseObjects = c.index_mut-found.result.now in
    let found : position (database_has c.args.database) c.self.inside.databases.items ≡ Some c.in_ok-place.place = subst (λ (ds : List DatabaseObjects). position (database_has c.args.database) ds ≡ Some c.in_ok-place.place) c.deref.ensures.value c.in_ok-place.ensures.found in
    let at : CatalogLemmas.Lent now c.args.database c.in_ok-place.place lent = record { place = found; entry = c.index_mut-found.ensures.value } in
    let e : CatalogError = c.in_err-add_table.field-0.0 in
    rw (p.1, p.2, ← c.self.view_is) (λ real. CatalogLemmas.lent_refused now c.args.database c.in_ok-place.place (λ (d : DatabaseObjects). table_refusal c.self.inside.roles.items c.self.inside.tablespaces.items d c.args.table) (add_table c.args.table) lent e at (subst (λ (ts : List Tablespace). table_refusal c.self.inside.roles.items ts lent c.args.table ≡ Some e) c.deref-3.ensures.value (subst (λ (rs : List Role). table_refusal rs c.deref-3.result.now lent c.args.table ≡ Some e) c.deref-2.ensures.value (c.in_err-add_table.ensures.refused real))))

pub returns-in_err-add_table-clause-lacking : goal.returns-in_err-add_table-clause-lacking
returns-in_err-add_table-clause-lacking c =
    let p = err_from_is_err_and c.from_residual-in_err-add_table.result c.from_residual-in_err-add_table.ensures.1 in
    let now : Cluster = record { bootstrap = c.self.inside.bootstrap; roles = c.self.inside.roles.items; tablespaces = c.self.inside.tablespaces.items; databases = c.self.inside.databases.items } in
    let lent : DatabaseObjects = c.index_mut-found.result.now in
    let found : position (database_has c.args.database) c.self.inside.databases.items ≡ Some c.in_ok-place.place = subst (λ (ds : List DatabaseObjects). position (database_has c.args.database) ds ≡ Some c.in_ok-place.place) c.deref.ensures.value c.in_ok-place.ensures.found in
    let at : CatalogLemmas.Lent now c.args.database c.in_ok-place.place lent = record { place = found; entry = c.index_mut-found.ensures.value } in
    rw (p.1, p.2, ← c.self.view_is) (λ lacked. CatalogLemmas.lent_is_made now c.args.database c.in_ok-place.place (λ (d : DatabaseObjects). table_refusal c.self.inside.roles.items c.self.inside.tablespaces.items d c.args.table) (add_table c.args.table) lent at (subst (λ (ts : List Tablespace). table_refusal c.self.inside.roles.items ts lent c.args.table ≡ None) c.deref-3.ensures.value (subst (λ (rs : List Role). table_refusal rs c.deref-3.result.now lent c.args.table ≡ None) c.deref-2.ensures.value (c.in_err-add_table.ensures.lacking lacked))))

pub returns-clause-ok : goal.returns-clause-ok
returns-clause-ok c =
    let now : Cluster = record { bootstrap = c.self.inside.bootstrap; roles = c.self.inside.roles.items; tablespaces = c.self.inside.tablespaces.items; databases = c.self.inside.databases.items } in
    let lent : DatabaseObjects = c.index_mut-found.result.now in
    let found : position (database_has c.args.database) c.self.inside.databases.items ≡ Some c.in_ok-place.place = subst (λ (ds : List DatabaseObjects). position (database_has c.args.database) ds ≡ Some c.in_ok-place.place) c.deref.ensures.value c.in_ok-place.ensures.found in
    let at : CatalogLemmas.Lent now c.args.database c.in_ok-place.place lent = record { place = found; entry = c.index_mut-found.ensures.value } in
    rw (← c.self.view_is) (CatalogLemmas.lent_made now c.args.database c.in_ok-place.place (λ (d : DatabaseObjects). table_refusal c.self.inside.roles.items c.self.inside.tablespaces.items d c.args.table) (add_table c.args.table) lent c.add_table.new.self at (subst (λ (ts : List Tablespace). table_refusal c.self.inside.roles.items ts lent c.args.table ≡ None) c.deref-3.ensures.value (subst (λ (rs : List Role). table_refusal rs c.deref-3.result.now lent c.args.table ≡ None) c.deref-2.ensures.value (c.in_ok-add_table.ensures.ok.0))) c.in_ok-add_table.ensures.ok.1)

pub invariant_of-self-2 : goal.invariant_of-self-2
invariant_of-self-2 c =
    let now : Cluster = record { bootstrap = c.self.inside.bootstrap; roles = c.self.inside.roles.items; tablespaces = c.self.inside.tablespaces.items; databases = c.self.inside.databases.items } in
    let lent : DatabaseObjects = c.index_mut-found.result.now in
    let found : position (database_has c.args.database) c.self.inside.databases.items ≡ Some c.in_ok-place.place = subst (λ (ds : List DatabaseObjects). position (database_has c.args.database) ds ≡ Some c.in_ok-place.place) c.deref.ensures.value c.in_ok-place.ensures.found in
    let at : CatalogLemmas.Lent now c.args.database c.in_ok-place.place lent = record { place = found; entry = c.index_mut-found.ensures.value } in
    let free : table_refusal c.self.inside.roles.items c.self.inside.tablespaces.items lent c.args.table ≡ None = subst (λ (ts : List Tablespace). table_refusal c.self.inside.roles.items ts lent c.args.table ≡ None) c.deref-3.ensures.value (subst (λ (rs : List Role). table_refusal rs c.deref-3.result.now lent c.args.table ≡ None) c.deref-2.ensures.value (c.in_ok-add_table.ensures.ok.0)) in
    CatalogLemmas.lent_keeps now c.args.database c.in_ok-place.place (add_table c.args.table) lent c.add_table.new.self c.self.invariant at (λ _. refl) c.in_ok-add_table.ensures.ok.1 (λ v. RelationLemmas.table_keeps c.self.inside.roles.items c.self.inside.tablespaces.items lent c.args.table v c.requires c.in_ok-add_table.ensures.oids_fit.0 c.in_ok-add_table.ensures.oids_fit.1 c.in_ok-add_table.ensures.files_fit free)
