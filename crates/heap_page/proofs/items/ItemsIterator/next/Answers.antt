use Rattle.std.proofs.Common.{◌≡◌, ◌≤◌, ◌+◌, ◌∷◌, length, None, sym, ap, ◌∙◌, arith, rules}
use Rattle.heap_page.specs.Line.{pointer_item, tuple_of}
use Rattle.heap_page.specs.Page.{line_count, line_pointer}
use Rattle.heap_page.specs.Cursor.{lines_left}
use Rattle.heap_page.proofs.PageLemmas.{pointer_within, tuple_within}
use Rattle.heap_page.proofs.WalkLemmas.{lines_left-tuple, lines_left-other, no_tuple}
use Rattle.heap_page.proofs.items.ItemsIterator.next.Goals as goal

pub pointer_at-requires-clause-within : goal.pointer_at-requires-clause-within
pointer_at-requires-clause-within c =
    let walk = c.loop-self.invariant.0 in
    let last : c.loop-self.self-inside.line ≤ line_count c.loop-self.self-inside.page.now = omega (arith, walk.ends) in
    pointer_within c.loop-self.self-inside.page.now c.loop-self.self-inside.line walk.sound last

pub item_of-item-requires : goal.item_of-item-requires
item_of-item-requires c =
    let walk = c.loop-self.invariant.0 in
    let last : c.loop-self.self-inside.line ≤ line_count c.loop-self.self-inside.page.now = omega (arith, walk.ends) in
    rw c.pointer_at.ensures (tuple_within c.loop-self.self-inside.page.now c.loop-self.self-inside.line walk.sound walk.first last)

-- the tuple is the first of what was left
first : (c : goal.In-Tuple) → c.args.self.now ≡ (c.loop-self.self-inside.line, c.in-Tuple.tuple.now) ∷ lines_left c.loop-self.self-inside.page.now (c.loop-self.self-inside.line + 1) c.loop-self.self-inside.end
first c =
    let walk = c.loop-self.self-inside in
    sym c.loop-self.invariant.1
    ∙ lines_left-tuple walk.page.now walk.line walk.end c.in-Tuple.tuple.now c.loop-self-test.true (ap (pointer_item walk.page.now) (sym c.pointer_at.ensures) ∙ sym c.in-Tuple.ensures)

pub returns-in-Tuple-clause-steps : goal.returns-in-Tuple-clause-steps
returns-in-Tuple-clause-steps c = first c

pub returns-in-Tuple-clause-goes : goal.returns-in-Tuple-clause-goes
returns-in-Tuple-clause-goes c =
    let shorter = ap length (first c) in
    search rules

pub loop-self-preserved : goal.loop-self-preserved
loop-self-preserved c =
    let walk = c.loop-self.self-inside in
    let stands = c.loop-self.invariant.0 in
    let other : tuple_of (pointer_item walk.page.now (line_pointer walk.page.now walk.line)) ≡ None = ap tuple_of (ap (pointer_item walk.page.now) (sym c.pointer_at.ensures) ∙ sym c.item_of-item.ensures) ∙ no_tuple c.item_of-item.result c.in_default.not-Tuple in
    (record { sound = stands.sound; first = omega arith; before_end = omega arith; ends = stands.ends }, sym (lines_left-other walk.page.now walk.line walk.end c.loop-self-test.true other) ∙ c.loop-self.invariant.1)
