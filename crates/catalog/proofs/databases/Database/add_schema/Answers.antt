use Rattle.std.proofs.Common.{sym, subst, ◌∙◌, Some, ap}
use Rattle.catalog.specs.Cluster.{DatabaseObjects}
use Rattle.catalog.specs.Known.{SchemaIsFree}
use Rattle.catalog.proofs.FreeLemmas.{schema_free}
use Rattle.catalog.proofs.CauseLemmas.{never_memory}
use Rattle.catalog.proofs.databases.Database.add_schema.Goals as goal

pub returns-in-Some-clause-lacking : goal.returns-in-Some-clause-lacking
returns-in-Some-clause-lacking c = λ lacked. absurd (never_memory _ _ _ _ _ (sym c.refusal_of_schema.ensures ∙ c.in-Some.is ∙ ap Some lacked))

pub push-requires : goal.push-requires
push-requires c = subst (λ (d : DatabaseObjects). SchemaIsFree d.schemas c.args.schema) (sym c.self.view_is) (schema_free c.args.roles.now c.args.self.now c.args.schema (sym c.refusal_of_schema.ensures ∙ c.in_default.is))
