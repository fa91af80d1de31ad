use Rattle.std.proofs.Common.{◌≡◌, [], ◌∷◌, ◌++◌, sym, ◌∙◌, arith}
use Rattle.dump_lex.specs.Place.{view}
use Rattle.dump_lex.proofs.Readings.{next_within}
use Rattle.dump_read.specs.Ahead.{first_line}
use Rattle.dump_read.proofs.Gather.{gather_err, gather_none, gather_end, gather_more}
use Rattle.dump_read.proofs.Extent.{line_first, line_later, count_one}
use Rattle.dump_read.proofs.reader.skip.Goals as goal
use Rattle.dump_read.proofs.reader.skip.Goals.{then-count-eq0, else-count-eq0}

pub returns-in-Err-clause-refused : goal.returns-in-Err-clause-refused
returns-in-Err-clause-refused c =
    let i = c.tokens.invariant.2 in
    let n = i.3 in
    rw c.lex_error.ensures (gather_err n.0 c.tokens.lexer i.0 _ _ n.1 c.in-Err.ensures.exact.0 n.2)

pub returns-in-Ok-None-clause-found : goal.returns-in-Ok-None-clause-found
returns-in-Ok-None-clause-found c =
    let i = c.tokens.invariant.2 in
    let n = i.3 in
    let e = rw c.in-Ok-None.field-0-is at c.in-Ok-None.ensures.exact in
    (i.0, gather_none n.0 c.tokens.lexer c.next.new.self i.0 _ n.1 e.0 e.1 n.2, i.1, i.2)

pub returns-then-is_end-clause-found : goal.returns-then-is_end-clause-found
returns-then-is_end-clause-found c =
    let i = c.tokens.invariant.2 in
    let n = i.3 in
    let t = view c.in-Ok-Some.token in
    let e = rw c.in-Ok-Some.field-0-is at c.in-Ok-Some.ensures.exact in
    let line : first_line (i.0 ++ t ∷ []) ≡ c.if-count-eq0.line = elim c.if-count-eq0.branch [
      | then-count-eq0 w ↦ line_first i.0 t (omega (arith, i.1, w.if-count-eq0)) ∙ sym w.line-is
      | else-count-eq0 w ↦ line_later i.0 t (omega (arith, i.1, w.if-count-eq0)) ∙ i.2 ∙ sym w.line-is
    ] in
    (i.0 ++ t ∷ [], gather_end n.0 c.tokens.lexer c.next.new.self i.0 t _ n.1 e (sym c.if-is_end.ensures) n.2, count_one i.0 t _ i.1, line)

pub returns-then-is_end-clause-onward : goal.returns-then-is_end-clause-onward
returns-then-is_end-clause-onward c =
    let e = rw c.in-Ok-Some.field-0-is at c.in-Ok-Some.ensures.exact in
    let less = next_within c.tokens.lexer (view c.in-Ok-Some.token, c.next.new.self) e in
    λ _. omega (arith, less, c.tokens.invariant.1)

pub tokens-smaller : goal.tokens-smaller
tokens-smaller c = let e = rw c.in-Ok-Some.field-0-is at c.in-Ok-Some.ensures.exact in next_within c.tokens.lexer (view c.in-Ok-Some.token, c.next.new.self) e

pub tokens-preserved : goal.tokens-preserved
tokens-preserved c =
    let i = c.tokens.invariant.2 in
    let n = i.3 in
    let t = view c.in-Ok-Some.token in
    let e = rw c.in-Ok-Some.field-0-is at c.in-Ok-Some.ensures.exact in
    let on = next_within c.tokens.lexer (t, c.next.new.self) e in
    let order = rw c.in-Ok-Some.field-0-is at c.in-Ok-Some.ensures.in_order in
    let line : first_line (i.0 ++ t ∷ []) ≡ c.if-count-eq0.line = elim c.if-count-eq0.branch [
      | then-count-eq0 w ↦ line_first i.0 t (omega (arith, i.1, w.if-count-eq0)) ∙ sym w.line-is
      | else-count-eq0 w ↦ line_later i.0 t (omega (arith, i.1, w.if-count-eq0)) ∙ i.2 ∙ sym w.line-is
    ] in
    (omega (arith, order, c.tokens.invariant.0), omega (arith, on, c.tokens.invariant.1), (i.0 ++ t ∷ [], count_one i.0 t _ i.1, line, gather_more n.0 c.tokens.lexer c.next.new.self i.0 t _ n.1 e (sym c.if-is_end.ensures) on n.2))
