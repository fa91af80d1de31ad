use Rattle.std.proofs.Common.{sym, subst, ◌∙◌, Some, ap}
use Rattle.catalog.specs.Cluster.{DatabaseObjects}
use Rattle.catalog.specs.Known.{TableIsFree}
use Rattle.catalog.proofs.FreeLemmas.{table_free}
use Rattle.catalog.proofs.KnownLists.{index_names_grow}
use Rattle.catalog.proofs.CauseLemmas.{never_memory}
use Rattle.catalog.proofs.databases.Database.add_table.Goals as goal

pub returns-in-Some-clause-lacking : goal.returns-in-Some-clause-lacking
returns-in-Some-clause-lacking c = λ lacked. absurd (never_memory _ _ _ _ _ (sym c.refusal_of_table.ensures ∙ c.in-Some.is ∙ ap Some lacked))

pub push-requires : goal.push-requires
push-requires c = subst (λ (d : DatabaseObjects). TableIsFree d.tables c.args.table) (sym c.self.view_is) (table_free c.args.roles.now c.args.tablespaces.now c.args.self.now c.args.table (sym c.refusal_of_table.ensures ∙ c.in_default.is))

pub invariant_of-self-2 : goal.invariant_of-self-2
invariant_of-self-2 c = rw c.in_ok-push.ensures.ok (index_names_grow c.self.inside.tables c.args.table c.self.inside.indexes c.self.inside.index_names c.self.invariant)
