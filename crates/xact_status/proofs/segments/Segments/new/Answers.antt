use Rattle.std.proofs.Common.{◌≡◌, length, vec_len, map-id, sym, ◌∙◌, rules}
use Rattle.std.proofs.lemmas.Iterator.Consumers.{YieldsList-end}
use Rattle.std.proofs.lemmas.Iterator.Adapters.{YieldsList-from_vec}
use Rattle.xact_status.proofs.Noted.{noted-start, noted-fresh, noted-again}
use Rattle.xact_status.proofs.segments.Segments.new.Goals as goal

pub loop-number-init : goal.loop-number-init
loop-number-init c = rw c.new.ensures.empty noted-start

pub loop-number-preserved-then-branch : goal.loop-number-preserved-then-branch
loop-number-preserved-then-branch c =
    rw (c.in_ok-insert.ensures.put, c.lesser-twice.ensures)
    (noted-again c.loop-number.yielded c.loop-number.segments c.in-Some.number c.in-Some.bytes c.loop-number.twice (sym c.in_ok-insert.ensures.was ∙ c.if-branch.true) c.loop-number.invariant)

pub loop-number-preserved : goal.loop-number-preserved
loop-number-preserved c =
    rw c.in_ok-insert.ensures.put
    (noted-fresh c.loop-number.yielded c.loop-number.segments c.in-Some.number c.in-Some.bytes c.loop-number.twice (sym c.in_ok-insert.ensures.was ∙ c.if-branch.false) c.loop-number.invariant)

pub returns-in-None-twice-clause-once : goal.returns-in-None-twice-clause-once
returns-in-None-twice-clause-once c =
    let start = c.into_iter-number-iterator.ensures.into_iter_gives in
    let len : vec_len c.args.parts ≡ length c.args.parts.items = search rules in
    let all = YieldsList-end (YieldsList-from_vec {s = c.into_iter-number-iterator.result} c.args.parts.items start.0 (start.1 ∙ len)) c.loop-number.yielded c.loop-number.number-iterator c.loop-number.yielded_by c.next.result c.next.new.self c.in-None.is c.next.ensures.steps in
    let whole = rw c.in-None-twice.is at c.loop-number.invariant.outcome in
    let same = sym (map-id c.loop-number.yielded) ∙ all.0 in
    rw (← same) whole.once
