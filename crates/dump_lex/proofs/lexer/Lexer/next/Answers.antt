use Rattle.std.proofs.Common.{◌≡◌, ◌<◌, ◌+◌, length, Ok, Err, Result, ℕ, refl, take, ap, ◌∙◌, false-eqb, arith}
use Rattle.dump_lex.specs.declared.token.TokenKind.{TokenKind}
use Rattle.dump_lex.specs.declared.token.LexKind.{LexKind}
use Rattle.dump_lex.specs.Place.{line_at}
use Rattle.dump_lex.proofs.Places.{line_next, rest_next, next_there}
use Rattle.dump_lex.proofs.Names.{front_of_grammar, front_named}
use Rattle.dump_lex.proofs.lexer.Lexer.next.Goals as goal

pub invariant_of-self : goal.invariant_of-self
invariant_of-self c =
    let source = c.self.inside.source.now in
    let bytes = c.split_at-2.result.1.now in
    let line : c.self.inside.line + c.newlines.result ≡ line_at source (c.self.inside.start + c.blank_len-blank.result) = line_next source c.split_at.result.1.now c.split_at-2.result.0.now c.self.inside.start c.self.inside.line c.newlines.result c.blank_len-blank.result c.split_at.ensures.back c.self.invariant.1 c.newlines.ensures.count c.split_at-2.ensures.front in (
      omega (arith, c.in-Ok.ensures, c.split_at.ensures.back_len, c.split_at-2.ensures.back_len),
      line_next source bytes c.split_at-in-Ok.result.0.now (c.self.inside.start + c.blank_len-blank.result) (c.self.inside.line + c.newlines.result) c.newlines-in-Ok.result c.in-Ok.len (rest_next source c.split_at.result.1.now bytes c.self.inside.start c.blank_len-blank.result c.split_at.ensures.back c.split_at-2.ensures.back) line c.newlines-in-Ok.ensures.count c.split_at-in-Ok.ensures.front,
    )

pub returns-in-Err-clause-exact : goal.returns-in-Err-clause-exact
returns-in-Err-clause-exact c =
    let source = c.self.inside.source.now in
    let bytes = c.split_at-2.result.1.now in
    let some : 0 < length bytes = omega (arith, false-eqb _ 0 c.if-is_empty.ensures) in
    let line : c.self.inside.line + c.newlines.result ≡ line_at source (c.self.inside.start + c.blank_len-blank.result) = line_next source c.split_at.result.1.now c.split_at-2.result.0.now c.self.inside.start c.self.inside.line c.newlines.result c.blank_len-blank.result c.split_at.ensures.back c.self.invariant.1 c.newlines.ensures.count c.split_at-2.ensures.front in
    let found = next_there source c.split_at.result.1.now bytes c.self.inside.start c.blank_len-blank.result (Err c.in-Err.kind) c.split_at.ensures.back c.blank_len-blank.ensures.blank c.split_at-2.ensures.back some c.in-Err.ensures.exact in
    (rw (← c.self.view_is, line) found, refl)

pub returns-in-Ok-clause-exact : goal.returns-in-Ok-clause-exact
returns-in-Ok-clause-exact c =
    let source = c.self.inside.source.now in
    let bytes = c.split_at-2.result.1.now in
    let some : 0 < length bytes = omega (arith, false-eqb _ 0 c.if-is_empty.ensures) in
    let line : c.self.inside.line + c.newlines.result ≡ line_at source (c.self.inside.start + c.blank_len-blank.result) = line_next source c.split_at.result.1.now c.split_at-2.result.0.now c.self.inside.start c.self.inside.line c.newlines.result c.blank_len-blank.result c.split_at.ensures.back c.self.invariant.1 c.newlines.ensures.count c.split_at-2.ensures.front in
    let r : Result (TokenKind × ℕ) LexKind = Ok (c.in-Ok.kind, c.in-Ok.len) in
    let found = next_there source c.split_at.result.1.now bytes c.self.inside.start c.blank_len-blank.result r c.split_at.ensures.back c.blank_len-blank.ensures.blank c.split_at-2.ensures.back some c.in-Ok.ensures.exact in
    rw (← c.self.view_is, line, c.split_at-in-Ok.ensures.front) found

pub returns-in-Ok-clause-slice : goal.returns-in-Ok-clause-slice
returns-in-Ok-clause-slice c =
    let source = c.self.inside.source.now in
    let bytes = c.split_at-2.result.1.now in
    let there = rest_next source c.split_at.result.1.now bytes c.self.inside.start c.blank_len-blank.result c.split_at.ensures.back c.split_at-2.ensures.back in
    rw (← c.self.view_is, c.split_at-in-Ok.ensures.front_len) (c.split_at-in-Ok.ensures.front ∙ ap (take c.in-Ok.len) there)

pub returns-in-Ok-clause-named : goal.returns-in-Ok-clause-named
returns-in-Ok-clause-named c = rw c.split_at-in-Ok.ensures.front (front_named c.split_at-2.result.1.now c.in-Ok.kind c.in-Ok.len c.in-Ok.ensures.exact)

pub returns-in-Ok-clause-of_grammar : goal.returns-in-Ok-clause-of_grammar
returns-in-Ok-clause-of_grammar c = rw c.split_at-in-Ok.ensures.front (front_of_grammar c.split_at-2.result.1.now c.in-Ok.kind c.in-Ok.len c.in-Ok.ensures.exact)
