use Rattle.std.proofs.Common.{◌≡◌, List, None, subst, sym, ◌∙◌, Some, ap}
use Rattle.catalog.specs.declared.owners.Role.{Role}
use Rattle.catalog.specs.Cluster.{Cluster}
use Rattle.catalog.specs.Refusals.{role_refusal}
use Rattle.catalog.proofs.CauseLemmas.{never_memory}
use Rattle.catalog.proofs.ClusterLemmas.{role_keeps}
use Rattle.catalog.proofs.cluster.Catalog.add_role.Goals as goal

pub returns-in-Some-clause-lacking : goal.returns-in-Some-clause-lacking
returns-in-Some-clause-lacking c = λ lacked. absurd (never_memory _ _ _ _ _ (sym c.refusal_of_role.ensures ∙ c.in-Some.is ∙ ap Some lacked))

pub invariant_of-self-2 : goal.invariant_of-self-2
invariant_of-self-2 c =
    let now : Cluster = record { bootstrap = c.self.inside.bootstrap; roles = c.self.inside.roles.items; tablespaces = c.self.inside.tablespaces.items; databases = c.self.inside.databases.items } in
    let free : role_refusal now.roles c.args.role ≡ None = subst (λ (rs : List Role). role_refusal rs c.args.role ≡ None) c.deref.ensures.value (sym c.refusal_of_role.ensures ∙ c.in_default.is) in
    rw c.in_ok-push.ensures.items (role_keeps now c.args.role c.self.invariant c.requires c.fits.ensures free)
