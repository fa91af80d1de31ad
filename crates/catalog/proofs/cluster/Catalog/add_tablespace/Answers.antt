use Rattle.std.proofs.Common.{◌≡◌, List, None, true, subst, sym, ◌∙◌, Some, ap}
use Rattle.std.specs.List.{list_all}
use Rattle.fs_model.specs.Names.{is_name}
use Rattle.catalog.specs.declared.owners.Role.{Role}
use Rattle.catalog.specs.declared.owners.Tablespace.{Tablespace}
use Rattle.catalog.specs.Cluster.{Cluster}
use Rattle.catalog.specs.Refusals.{tablespace_refusal}
use Rattle.catalog.proofs.CauseLemmas.{never_memory}
use Rattle.catalog.proofs.ClusterLemmas.{tablespace_keeps}
use Rattle.catalog.proofs.cluster.Catalog.add_tablespace.Goals as goal

pub returns-in-Some-clause-lacking : goal.returns-in-Some-clause-lacking
returns-in-Some-clause-lacking c = λ lacked. absurd (never_memory _ _ _ _ _ (sym c.refusal_of_tablespace.ensures ∙ c.in-Some.is ∙ ap Some lacked))

pub invariant_of-self-2 : goal.invariant_of-self-2
invariant_of-self-2 c =
    let now : Cluster = record { bootstrap = c.self.inside.bootstrap; roles = c.self.inside.roles.items; tablespaces = c.self.inside.tablespaces.items; databases = c.self.inside.databases.items } in
    let lent : tablespace_refusal c.deref.result.now c.deref-2.result.now c.args.tablespace ≡ None = sym c.refusal_of_tablespace.ensures ∙ c.in_default.is in
    let free : tablespace_refusal now.roles now.tablespaces c.args.tablespace ≡ None =
    subst (λ (ts : List Tablespace). tablespace_refusal now.roles ts c.args.tablespace ≡ None) c.deref-2.ensures.value (subst (λ (rs : List Role). tablespace_refusal rs c.deref-2.result.now c.args.tablespace ≡ None) c.deref.ensures.value lent) in
    let located : list_all is_name c.args.tablespace.location ≡ true = rw c.names.ensures at c.are_file_names.ensures in
    rw c.in_ok-push.ensures.items (tablespace_keeps now c.args.tablespace c.self.invariant c.requires c.fits.ensures located free)
