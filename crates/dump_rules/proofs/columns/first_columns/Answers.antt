use Rattle.std.proofs.Common.{◌+◌, [], ◌∷◌, ◌++◌, sym, ap, ◌∙◌, arith, drop}
use Rattle.std.proofs.lemmas.List.{at_drop_more}
use Rattle.dump_rules.specs.Rules.{column_of, columns_of}
use Rattle.dump_rules.proofs.ColumnLemmas.{behind, behind_some}
use Rattle.dump_rules.proofs.columns.first_columns.Goals as goal

pub loop-index-preserved : goal.loop-index-preserved
loop-index-preserved c =
    let i = c.loop-index.invariant in
    let d = c.args.database.now in
    let text = c.in_ok-column.field-0 in
    let found = ap (column_of d) (sym c.in_ok-column.ensures) ∙ sym c.column_of.ensures ∙ c.in-Some.is in
    let first = at_drop_more (λ texts. behind i.0 (columns_of d texts)) c.args.texts.now c.loop-index.index text (omega (arith, c.loop-index-test.true, c.len-index-end.ensures)) in
    let rest = behind_some d i.0 _ (drop (c.loop-index.index + 1) c.args.texts.now) c.in-Some.column found in
    (i.0 ++ c.in-Some.column ∷ [], c.in_ok-keep-in-Some.ensures i.0 i.1, i.2 ∙ first ∙ rest)
