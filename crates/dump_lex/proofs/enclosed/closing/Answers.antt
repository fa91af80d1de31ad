use Rattle.std.proofs.Common.{arith}
use Rattle.dump_lex.proofs.Enclosing.{at_end, at_close, at_pair}
use Rattle.dump_lex.proofs.enclosed.closing.Goals as goal

pub returns-in-End-clause-exact : goal.returns-in-End-clause-exact
returns-in-End-clause-exact c = at_end c.args.delimiter c.parts.text_len c.parts.len c.parts.rest.now c.args.bytes.now c.in-End.ensures c.parts.invariant.same

pub returns-in-Close-clause-exact : goal.returns-in-Close-clause-exact
returns-in-Close-clause-exact c = at_close c.args.delimiter c.parts.text_len c.parts.len c.in-Close.n c.parts.rest.now c.args.bytes.now c.in-Close.ensures.0 c.in-Close.ensures.1 c.parts.invariant.same

pub parts-preserved : goal.parts-preserved
parts-preserved c = record {
  same = at_pair c.args.delimiter c.parts.text_len c.parts.len c.in-Pair.n c.parts.rest.now c.split_at.result.1.now c.args.bytes.now c.in-Pair.ensures.0 c.split_at.ensures.back c.in-Pair.ensures.1 c.parts.invariant.same;
  all = omega (arith, c.in-Pair.ensures, c.split_at.ensures.back_len);
  fewer = omega (arith, c.in-Pair.ensures);
}
