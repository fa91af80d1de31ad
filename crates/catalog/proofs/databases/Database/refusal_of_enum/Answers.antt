use Rattle.std.proofs.Common.{◌∙◌, refl, ap, List}
use Rattle.std.specs.Prelude.{not, ◌||◌, map}
use Rattle.std.specs.List.{list_any}
use Rattle.catalog.specs.declared.enums.Label.{Label}
use Rattle.catalog.specs.Lists.{are_distinct}
use Rattle.catalog.specs.Forms.{is_long, same_text}
use Rattle.catalog.specs.Refusals.{oids_taken}
use Rattle.catalog.specs.Spaces.{label_oids}
use Rattle.catalog.proofs.CauseLemmas.{same_causes}
use Rattle.catalog.proofs.databases.Database.refusal_of_enum.Goals as goal

pub returns : goal.returns
returns c =
    let labels = c.items-labels.ensures in
    let long = c.has_long_label-too_many.ensures ∙ ap (list_any is_long) labels in
    let taken = c.are_labels_taken.ensures ∙ ap (λ (ls : List Label). oids_taken (map (λ (l : Label). l.oid) ls) (label_oids c.args.self.now)) labels in
    let differ = c.label_texts_differ-differ.ensures ∙ ap (are_distinct same_text) labels in
    let oids = c.either-oid_taken.ensures ∙ (λ i. c.is_type_taken.ensures i || taken i) in
    let names = c.either-name_taken.ensures ∙ (λ i. c.has_type_named.ensures i || not (differ i)) in
    c.first_cause.ensures ∙ same_causes (ap not c.stands_in-stands.ensures) long oids names refl
