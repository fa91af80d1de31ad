use Rattle.std.proofs.Common.{◌≡◌, ◌∙◌, refl, sym, ap, subst}
use Rattle.std.specs.Prelude.{not, ◌||◌, nat_eq, bytes_eq}
use Rattle.catalog.specs.Cluster.{DatabaseObjects}
use Rattle.catalog.specs.Refusals.{database_refusal}
use Rattle.catalog.proofs.CauseLemmas.{same_causes}
use Rattle.catalog.proofs.SpaceLemmas.{any_map}
use Rattle.catalog.proofs.references.refusal_of_database.Goals as goal

pub returns : goal.returns
returns c =
    let used = c.is_database_oid.ensures ∙ sym (any_map (nat_eq c.database.inside.oid) (λ (d : DatabaseObjects). d.oid) c.args.databases.now) in
    let oids = c.either-oid_taken.ensures ∙ (λ i. c.is_system_number.ensures i || used i) in
    let names = c.is_database_name-name_taken.ensures ∙ sym (any_map (bytes_eq c.database.inside.name) (λ (d : DatabaseObjects). d.name) c.args.databases.now) in
    subst (λ (d : DatabaseObjects). c.first_cause.result ≡ database_refusal c.args.roles.now c.args.databases.now d) c.database.view_is
    (c.first_cause.ensures ∙ same_causes (ap not c.has_role-owner.ensures) refl oids names refl)
