use Rattle.std.proofs.Common.{sym, subst, ◌∙◌, Some, ap}
use Rattle.catalog.specs.Cluster.{DatabaseObjects}
use Rattle.catalog.specs.Known.{SequenceIsFree}
use Rattle.catalog.proofs.FreeLemmas.{sequence_free}
use Rattle.catalog.proofs.CauseLemmas.{never_memory}
use Rattle.catalog.proofs.databases.Database.add_sequence.Goals as goal

pub returns-in-Some-clause-lacking : goal.returns-in-Some-clause-lacking
returns-in-Some-clause-lacking c = λ lacked. absurd (never_memory _ _ _ _ _ (sym c.refusal_of_sequence.ensures ∙ c.in-Some.is ∙ ap Some lacked))

pub push-requires : goal.push-requires
push-requires c = subst (λ (d : DatabaseObjects). SequenceIsFree d.sequences c.args.sequence) (sym c.self.view_is) (sequence_free c.args.roles.now c.args.self.now c.args.sequence (sym c.refusal_of_sequence.ensures ∙ c.in_default.is))
