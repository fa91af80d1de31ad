use Rattle.std.proofs.Common.{◌≡◌, get_or, sym, ap, ◌∙◌, arith}
use Rattle.std.proofs.lemmas.List.{take_all}
use Rattle.std.specs.Prelude.{nat_eq}
use Rattle.std.specs.List.{list_any}
use Rattle.object_places.proofs.KeyLemmas.{none_before}
use Rattle.catalog.specs.declared.enums.Label.{Label}
use Rattle.catalog.proofs.enum_places.put_labels.Goals as goal

pub returns-in_err-put-clause-others : goal.returns-in_err-put-clause-others
returns-in_err-put-clause-others c = λ k h.
    let n = none_before (λ (l : Label). nat_eq k l.oid) c.args.labels.now c.loop-label.label-index c.label-item.result c.loop-label-test.true h in
    let item : get_or c.args.labels.now c.loop-label.label-index c.label-item.result ≡ c.label-item.result = sym c.label-item.is in
    c.in_err-put.ensures.others k (ap (λ (l : Label). nat_eq k l.oid) (sym item) ∙ n.1) ∙ c.loop-label.invariant.others k n.0

pub returns-clause-others : goal.returns-clause-others
returns-clause-others c = λ k h. c.loop-label.invariant.others k (ap (list_any (λ (l : Label). nat_eq k l.oid)) (take_all c.loop-label.label-index c.args.labels.now (omega (arith, c.loop-label-test.false))) ∙ h)

pub returns-clause-placed : goal.returns-clause-placed
returns-clause-placed c = λ k h. c.loop-label.invariant.placed k (ap (list_any (λ (l : Label). nat_eq k l.oid)) (take_all c.loop-label.label-index c.args.labels.now (omega (arith, c.loop-label-test.false))) ∙ h)
