-- The statements of a database's schemas lead to them.
use Rattle.std.proofs.Common.{◌≡◌, true, List, [], ◌∷◌, ◌++◌, None, Ok, refl, ap, ◌∙◌}
use Rattle.std.specs.List.{flat_map}
use Rattle.catalog.specs.declared.owners.Schema.{Schema}
use Rattle.catalog.specs.Cluster.{DatabaseObjects, Cluster}
use Rattle.catalog.specs.Forms.{has_role}
use Rattle.catalog.specs.Refusals.{schema_refusal}
use Rattle.catalog.specs.Changes.{with_schema, add_schema}
use Rattle.catalog.proofs.ListLemmas.{not_false}
use Rattle.catalog.proofs.CauseLemmas.{no_cause}
use Rattle.catalog_laws.specs.Unrefused.{EachBehind}
use Rattle.dump_grammar.specs.declared.statement.Statement.TheVariants.{CreateSchema}
use Rattle.dump_grammar.specs.Canonical.{role_name, schema_statements}
use Rattle.dump_rules.specs.Rules.{State, found, taken, role_oid, step, Replays}
use Rattle.dump_laws.proofs.Replaying.{each_replays}
use Rattle.dump_laws.proofs.Databases.{within, IsPlace, found_connected, found_role, changed_within}

-- the database with these schemas and nothing else
abbrev pub with_schemas : DatabaseObjects → List Schema → DatabaseObjects
with_schemas d schemas = record d { schemas = schemas; enums = []; tables = []; indexes = []; sequences = [] }

step_schema : (c : Cluster) (before after : List DatabaseObjects) (d : DatabaseObjects) (s : Schema) → IsPlace c before d.oid → schema_refusal c.roles d s ≡ None
    → step (within c before after d) (CreateSchema s.name (role_name c.roles s.owner)) ≡ Ok (within c before after (add_schema s d))
unfolding step
step_schema c before after d s place free =
    let here : State = within c before after d in
    let owned : has_role c.roles s.owner ≡ true = not_false _ (no_cause _ _ _ _ _ free).stands in
    ap (taken here.session)
    (found_connected c before after d here.session.numbers (λ (x : DatabaseObjects). found (role_oid here.catalog (role_name c.roles s.owner)) (λ o. with_schema here.catalog x.oid (record { name = s.name; owner = o }))) place.alone
    ∙ found_role here.catalog s.owner (λ o. with_schema here.catalog d.oid (record { name = s.name; owner = o })) place.roles_differ owned
    ∙ changed_within c before after d (λ (x : DatabaseObjects). schema_refusal c.roles x s) (add_schema s) place.alone free)

pub schemas_replay : (c : Cluster) (before after : List DatabaseObjects) (d : DatabaseObjects) (front rest : List Schema) → IsPlace c before d.oid
    → EachBehind (λ ss s. schema_refusal c.roles (record d { schemas = ss }) s ≡ None) (front ++ rest)
    → Replays (within c before after (with_schemas d front)) (flat_map (schema_statements c.roles) rest) (within c before after (with_schemas d (front ++ rest)))
schemas_replay c before after d front rest place free =
    each_replays (λ ss. within c before after (with_schemas d ss)) (schema_statements c.roles) front rest
    (λ ss s more e. (within c before after (with_schemas d (ss ++ s ∷ [])), step_schema c before after (with_schemas d ss) s place (free ss s more e), refl))
