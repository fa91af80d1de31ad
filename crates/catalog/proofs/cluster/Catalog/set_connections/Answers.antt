use Rattle.std.proofs.Common.{◌≡◌, List, Some, None, subst, refl}
use Rattle.std.specs.List.{position}
use Rattle.std.proofs.lemmas.Result.{err_from_is_err_and}
use Rattle.catalog.specs.Cluster.{DatabaseObjects, Cluster}
use Rattle.catalog.specs.Spaces.{database_has}
use Rattle.catalog.specs.Changes.{set_connections}
use Rattle.catalog.proofs.DatabaseLemmas
use Rattle.catalog.proofs.CatalogLemmas
use Rattle.catalog.proofs.cluster.Catalog.set_connections.Goals as goal

pub returns-in_err-place-clause-refused : goal.returns-in_err-place-clause-refused
returns-in_err-place-clause-refused c =
    let p = err_from_is_err_and c.from_residual.result c.from_residual.ensures.1 in
    let now : Cluster = record { bootstrap = c.self.inside.bootstrap; roles = c.self.inside.roles.items; tablespaces = c.self.inside.tablespaces.items; databases = c.self.inside.databases.items } in
    let missing : position (database_has c.args.database) c.self.inside.databases.items ≡ None = subst (λ (ds : List DatabaseObjects). position (database_has c.args.database) ds ≡ None) c.deref.ensures.value c.in_err-place.ensures.missing.1 in
    rw (p.1, p.2, c.in_err-place.ensures.missing.0, ← c.self.view_is) (CatalogLemmas.change_missing now c.args.database (λ (d : DatabaseObjects). None) (set_connections c.args.on) missing)

pub returns-clause-ok : goal.returns-clause-ok
returns-clause-ok c =
    let now : Cluster = record { bootstrap = c.self.inside.bootstrap; roles = c.self.inside.roles.items; tablespaces = c.self.inside.tablespaces.items; databases = c.self.inside.databases.items } in
    let lent : DatabaseObjects = c.index_mut-found.result.now in
    let found : position (database_has c.args.database) c.self.inside.databases.items ≡ Some c.in_ok-place.place = subst (λ (ds : List DatabaseObjects). position (database_has c.args.database) ds ≡ Some c.in_ok-place.place) c.deref.ensures.value c.in_ok-place.ensures.found in
    let at : CatalogLemmas.Lent now c.args.database c.in_ok-place.place lent = record { place = found; entry = c.index_mut-found.ensures.value } in
    rw (← c.self.view_is) (CatalogLemmas.lent_made now c.args.database c.in_ok-place.place (λ (d : DatabaseObjects). None) (set_connections c.args.on) lent c.set_connections.new.self at refl c.set_connections.ensures)

pub invariant_of-self : goal.invariant_of-self
invariant_of-self c =
    let now : Cluster = record { bootstrap = c.self.inside.bootstrap; roles = c.self.inside.roles.items; tablespaces = c.self.inside.tablespaces.items; databases = c.self.inside.databases.items } in
    let lent : DatabaseObjects = c.index_mut-found.result.now in
    let found : position (database_has c.args.database) c.self.inside.databases.items ≡ Some c.in_ok-place.place = subst (λ (ds : List DatabaseObjects). position (database_has c.args.database) ds ≡ Some c.in_ok-place.place) c.deref.ensures.value c.in_ok-place.ensures.found in
    let at : CatalogLemmas.Lent now c.args.database c.in_ok-place.place lent = record { place = found; entry = c.index_mut-found.ensures.value } in
    CatalogLemmas.lent_keeps now c.args.database c.in_ok-place.place (set_connections c.args.on) lent c.set_connections.new.self c.self.invariant at (λ _. refl) c.set_connections.ensures (λ v. DatabaseLemmas.connections_keep c.self.inside.roles.items c.self.inside.tablespaces.items lent c.args.on v)
