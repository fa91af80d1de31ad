use Rattle.std.proofs.Common.{◌∙◌, arith}
use Rattle.std.proofs.lemmas.Result.{err_from_is_err_and}
use Rattle.dump_read.proofs.Extent.{all_stand, statement_is, none_is, refused_is}
use Rattle.dump_read.proofs.reader.read_located.Goals as goal

pub returns-in_err-extent-clause-refused : goal.returns-in_err-extent-clause-refused
returns-in_err-extent-clause-refused c =
    let p = err_from_is_err_and c.from_residual.result c.from_residual.ensures.1 in
    rw (p.1, p.2) (λ _. refused_is c.args.lexer.now _ c.in_err-extent.ensures.refused)

pub returns-then-extent-eq0-clause-read : goal.returns-then-extent-eq0-clause-read
returns-then-extent-eq0-clause-read c =
    none_is c.args.lexer.now c.skip.new.lexer _ _ c.in_ok-extent.ensures.found (omega (arith, c.if-extent-eq0.true))

pub ahead-words-requires : goal.ahead-words-requires
ahead-words-requires c = rw c.fork-start.ensures (all_stand c.args.lexer.now c.skip.new.lexer _ _ c.in_ok-extent.ensures.found)

pub returns-in_err-statement_in-clause-refused : goal.returns-in_err-statement_in-clause-refused
returns-in_err-statement_in-clause-refused c =
    let p = err_from_is_err_and c.from_residual-in_err-statement_in.result c.from_residual-in_err-statement_in.ensures.1 in
    rw (p.1, p.2) (λ cause.
    statement_is c.args.lexer.now c.skip.new.lexer _ _ c.in_ok-extent.ensures.found (omega (arith, c.if-extent-eq0.false))
    ∙ (rw (c.ahead-words.ensures, c.fork-start.ensures) at (c.in_err-statement_in.ensures.refused cause c.skip.new.lexer)))

pub returns-clause-read : goal.returns-clause-read
returns-clause-read c =
    statement_is c.args.lexer.now c.skip.new.lexer _ _ c.in_ok-extent.ensures.found (omega (arith, c.if-extent-eq0.false))
    ∙ (rw (c.ahead-words.ensures, c.fork-start.ensures) at (c.in_ok-statement_in.ensures.read c.skip.new.lexer))
