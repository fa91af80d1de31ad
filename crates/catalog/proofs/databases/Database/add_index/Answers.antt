use Rattle.std.proofs.Common.{◌≡◌, true, None, length, sym, subst, ◌∙◌, rules, Some, ap}
use Rattle.catalog.specs.Cluster.{DatabaseObjects}
use Rattle.catalog.specs.Refusals.{index_refusal}
use Rattle.catalog.specs.Known.{IndexIsFree, has_table}
use Rattle.catalog.proofs.FreeLemmas.{index_free, index_has_table}
use Rattle.catalog.proofs.IndexNames.{index_names_noted, index_names_joined}
use Rattle.catalog.proofs.CauseLemmas.{never_memory}
use Rattle.catalog.proofs.databases.Database.add_index.Goals as goal

pub returns-in-Some-clause-lacking : goal.returns-in-Some-clause-lacking
returns-in-Some-clause-lacking c = λ lacked. absurd (never_memory _ _ _ _ _ (sym c.refusal_of_index.ensures ∙ c.in-Some.is ∙ ap Some lacked))

pub put_index_name-requires : goal.put_index_name-requires
put_index_name-requires c = subst (λ (d : DatabaseObjects). has_table d.tables c.args.index ≡ true) (sym c.self.view_is) (index_has_table c.args.tablespaces.now c.args.self.now c.args.index (sym c.refusal_of_index.ensures ∙ c.in_default.is))

pub push-requires : goal.push-requires
push-requires c = subst (λ (d : DatabaseObjects). IndexIsFree d.indexes c.args.index) (sym c.self.view_is) (index_free c.args.tablespaces.now c.args.self.now c.args.index (sym c.refusal_of_index.ensures ∙ c.in_default.is))

pub invariant_of-self : goal.invariant_of-self
invariant_of-self c =
    let free = subst (λ (d : DatabaseObjects). index_refusal c.args.tablespaces.now d c.args.index ≡ None) (sym c.self.view_is) (sym c.refusal_of_index.ensures ∙ c.in_default.is) in
    index_names_noted c.args.tablespaces.now _ c.args.index c.self.inside.index_names c.put_index_name.new.names c.self.invariant free c.in_err-put_index_name.ensures.others

pub invariant_of-self-in_err-push : goal.invariant_of-self-in_err-push
invariant_of-self-in_err-push c =
    let free = subst (λ (d : DatabaseObjects). index_refusal c.args.tablespaces.now d c.args.index ≡ None) (sym c.self.view_is) (sym c.refusal_of_index.ensures ∙ c.in_default.is) in
    rw c.in_err-push.ensures.unchanged
    (index_names_noted c.args.tablespaces.now _ c.args.index c.self.inside.index_names c.put_index_name.new.names c.self.invariant free c.in_ok-put_index_name.ensures.others)

pub invariant_of-self-2 : goal.invariant_of-self-2
invariant_of-self-2 c =
    let at : length c.items-place.result.now ≡ length c.self.inside.indexes = search rules in
    let free = subst (λ (d : DatabaseObjects). index_refusal c.args.tablespaces.now d c.args.index ≡ None) (sym c.self.view_is) (sym c.refusal_of_index.ensures ∙ c.in_default.is) in
    let known = index_names_noted c.args.tablespaces.now _ c.args.index c.self.inside.index_names c.put_index_name.new.names c.self.invariant free c.in_ok-put_index_name.ensures.others in
    rw c.in_ok-push.ensures.ok (index_names_joined c.args.tablespaces.now _ c.args.index c.put_index_name.new.names known free (rw at at c.in_ok-put_index_name.ensures.placed))
