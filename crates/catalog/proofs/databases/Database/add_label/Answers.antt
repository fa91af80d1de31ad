use Rattle.std.proofs.Common.{sym, subst, ◌∙◌, Some, ap}
use Rattle.catalog.specs.Cluster.{DatabaseObjects}
use Rattle.catalog.specs.Known.{LabelIsFree}
use Rattle.catalog.proofs.FreeLemmas.{label_free}
use Rattle.catalog.proofs.CauseLemmas.{label_never_memory}
use Rattle.catalog.proofs.databases.Database.add_label.Goals as goal

pub returns-in-Some-clause-lacking : goal.returns-in-Some-clause-lacking
returns-in-Some-clause-lacking c = λ lacked. absurd (label_never_memory _ _ _ (sym c.refusal_of_label.ensures ∙ c.in-Some.is ∙ ap Some lacked))

pub push_label-requires : goal.push_label-requires
push_label-requires c = subst (λ (d : DatabaseObjects). LabelIsFree d.enums c.args.label) (sym c.self.view_is) (label_free c.args.self.now c.args.kind c.args.label (sym c.refusal_of_label.ensures ∙ c.in_default.is))
