use Rattle.std.proofs.Common.{◌≡◌, List, None, true, subst, sym, ◌∙◌, Some, ap}
use Rattle.catalog.specs.declared.owners.Role.{Role}
use Rattle.catalog.specs.Cluster.{Cluster, DatabaseObjects}
use Rattle.catalog.specs.Forms.{is_32_bits}
use Rattle.catalog.specs.Refusals.{database_refusal}
use Rattle.catalog.proofs.CauseLemmas.{never_memory}
use Rattle.catalog.proofs.ClusterLemmas.{database_keeps}
use Rattle.catalog.proofs.cluster.Catalog.add_database.Goals as goal

pub returns-in-Some-clause-lacking : goal.returns-in-Some-clause-lacking
returns-in-Some-clause-lacking c = λ lacked. absurd (never_memory _ _ _ _ _ (sym c.refusal_of_database.ensures ∙ c.in-Some.is ∙ ap Some lacked))

pub invariant_of-self-2 : goal.invariant_of-self-2
invariant_of-self-2 c =
    let now : Cluster = record { bootstrap = c.self.inside.bootstrap; roles = c.self.inside.roles.items; tablespaces = c.self.inside.tablespaces.items; databases = c.self.inside.databases.items } in
    let lent : database_refusal c.deref.result.now c.deref-2.result.now c.args.database ≡ None = sym c.refusal_of_database.ensures ∙ c.in_default.is in
    let free : database_refusal now.roles now.databases c.args.database ≡ None =
    subst (λ (ds : List DatabaseObjects). database_refusal now.roles ds c.args.database ≡ None) c.deref-2.ensures.value (subst (λ (rs : List Role). database_refusal rs c.deref-2.result.now c.args.database ≡ None) c.deref.ensures.value lent) in
    let fits : is_32_bits c.args.database.oid ≡ true = subst (λ (d : DatabaseObjects). is_32_bits d.oid ≡ true) c.database.view_is c.fits.ensures in
    rw c.in_ok-push.ensures.items (database_keeps now c.args.database c.self.invariant c.requires.name fits c.requires.fresh free)
