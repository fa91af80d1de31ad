use Rattle.std.proofs.Common.{[], ◌∷◌, ◌++◌, ap, ◌∙◌}
use Rattle.dump_grammar.proofs.PackedLemmas.{added, added_end}
use Rattle.dump_grammar.proofs.column_texts.ColumnTexts.with.Goals as goal

pub invariant_of-result : goal.invariant_of-result
invariant_of-result c =
    (c.in_ok-texts.ensures.partial, added_end _ _ _ _ _ _ c.args.column c.self.invariant.1 c.len.ensures c.packed_as-last.ensures c.in_ok-texts.ensures.fields c.in_ok-push.ensures.items)

pub returns : goal.returns
returns c =
    added _ _ _ _ _ _ c.args.column c.self.invariant.1 c.len.ensures c.packed_as-last.ensures c.in_ok-texts.ensures.fields c.in_ok-push.ensures.items
    ∙ ap (λ columns. columns ++ c.args.column ∷ []) c.self.view_is
