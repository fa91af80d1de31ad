use Rattle.std.proofs.Common.{◌≡◌, List, Some, set, refl, sym, ap, subst, ◌∙◌}
use Rattle.std.specs.Prelude.{slice_get}
use Rattle.std.specs.List.{position}
use Rattle.std.proofs.lemmas.Result.{err_from_is_err_and}
use Rattle.catalog.specs.declared.enums.Label.{Label}
use Rattle.catalog.specs.declared.enums.EnumType.{EnumType}
use Rattle.catalog.specs.Spaces.{enum_has}
use Rattle.catalog.specs.Changes.{labelled}
use Rattle.catalog.proofs.ListLemmas.{Found, none_found, some_found, found_at}
use Rattle.catalog.proofs.KnownLists.{label_kept, enum_at_position}
use Rattle.catalog.proofs.LabelPlaces.{labels_kept, labels_joined}
use Rattle.catalog.proofs.enum_types.EnumTypes.push_label.Goals as goal

pub returns-in_default-clause-missing : goal.returns-in_default-clause-missing
returns-in_default-clause-missing c = λ _. (refl, none_found (enum_has c.args.kind) c.args.self.now (sym c.place_of.ensures ∙ c.in_default.is))

pub returns-in_err-put-clause-lacking : goal.returns-in_err-put-clause-lacking
returns-in_err-put-clause-lacking c =
    let p = err_from_is_err_and c.from_residual.result c.from_residual.ensures.1 in
    rw p.1 (λ _. some_found (enum_has c.args.kind) c.args.self.now c.in-Some.place (sym c.place_of.ensures ∙ c.in-Some.is))

pub returns-in_err-push-clause-lacking : goal.returns-in_err-push-clause-lacking
returns-in_err-push-clause-lacking c =
    let p = err_from_is_err_and c.from_residual-in_err-push.result c.from_residual-in_err-push.ensures.1 in
    rw p.1 (λ _. some_found (enum_has c.args.kind) c.args.self.now c.in-Some.place (sym c.place_of.ensures ∙ c.in-Some.is))

pub invariant_of-self : goal.invariant_of-self
invariant_of-self c =
    label_kept c.self.inside.items.items c.args.label c.self.inside.places c.put.new.self c.self.invariant (rw c.self.view_is c.requires) c.in_err-put.ensures.others

pub invariant_of-self-in_err-push : goal.invariant_of-self-in_err-push
invariant_of-self-in_err-push c =
    let lent : EnumType = c.index_mut-found.result.now in
    let place : position (enum_has c.args.kind) c.self.inside.items.items ≡ Some c.in-Some.place = subst (λ (ks : List EnumType). position (enum_has c.args.kind) ks ≡ Some c.in-Some.place) (sym c.self.view_is) (sym c.place_of.ensures ∙ c.in-Some.is) in
    let at : slice_get c.self.inside.items.items c.in-Some.place ≡ Some lent = enum_at_position c.self.inside.items.items c.args.kind c.in-Some.place lent place ∙ ap Some (sym c.index_mut-found.ensures.value) in
    labels_kept c.self.inside.items.items c.in-Some.place lent c.push.new.self _
    (label_kept c.self.inside.items.items c.args.label c.self.inside.places c.put.new.self c.self.invariant (rw c.self.view_is c.requires) c.in_ok-put.ensures.others) at c.in_err-push.ensures.unchanged

pub invariant_of-self-2 : goal.invariant_of-self-2
invariant_of-self-2 c =
    let lent : EnumType = c.index_mut-found.result.now in
    let place : position (enum_has c.args.kind) c.self.inside.items.items ≡ Some c.in-Some.place = subst (λ (ks : List EnumType). position (enum_has c.args.kind) ks ≡ Some c.in-Some.place) (sym c.self.view_is) (sym c.place_of.ensures ∙ c.in-Some.is) in
    let at : slice_get c.self.inside.items.items c.in-Some.place ≡ Some lent = enum_at_position c.self.inside.items.items c.args.kind c.in-Some.place lent place ∙ ap Some (sym c.index_mut-found.ensures.value) in
    labels_joined c.self.inside.items.items c.in-Some.place lent c.args.label c.push.new.self _
    (label_kept c.self.inside.items.items c.args.label c.self.inside.places c.put.new.self c.self.invariant (rw c.self.view_is c.requires) c.in_ok-put.ensures.others) at c.in_ok-push.ensures.ok c.in_ok-put.ensures.placed

pub returns-clause-ok : goal.returns-clause-ok
returns-clause-ok c =
    let lent : EnumType = c.index_mut-found.result.now in
    let place : position (enum_has c.args.kind) c.self.inside.items.items ≡ Some c.in-Some.place = subst (λ (ks : List EnumType). position (enum_has c.args.kind) ks ≡ Some c.in-Some.place) (sym c.self.view_is) (sym c.place_of.ensures ∙ c.in-Some.is) in
    let at : Found (enum_has c.args.kind) c.self.inside.items.items c.in-Some.place lent = found_at (enum_has c.args.kind) c.self.inside.items.items c.in-Some.place lent place in
    let changed : record lent { labels = c.push.new.self } ≡ labelled c.args.label lent = ap (λ (ls : List Label). let k : EnumType = record lent { labels = ls } in k) c.in_ok-push.ensures.ok in
    rw (← c.self.view_is) (ap (λ (k : EnumType). set c.self.inside.items.items c.in-Some.place k) (changed ∙ ap (labelled c.args.label) c.index_mut-found.ensures.value) ∙ at.written (labelled c.args.label))
