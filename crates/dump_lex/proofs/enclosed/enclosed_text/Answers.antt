use Rattle.std.proofs.Common.{[], drop}
use Rattle.dump_lex.specs.Enclosed.{closing}
use Rattle.dump_lex.proofs.Enclosing.{gathered, gather_pair}
use Rattle.dump_lex.proofs.enclosed.enclosed_text.Goals as goal

pub parts-preserved : goal.parts-preserved
parts-preserved c = gather_pair c.args.delimiter c.in-Pair.n c.parts.text.items c.extend_from_slice-in-Pair.new.self.items c.push.new.self.items c.split_at-in-Pair.result.0.now c.parts.rest.now c.split_at-in-Pair-2.result.1.now (gathered [] (closing c.args.delimiter (drop 1 c.args.token.now))) c.in-Pair.ensures.0 c.split_at-in-Pair-2.ensures.back c.split_at-in-Pair.ensures.front c.in_ok-extend_from_slice-in-Pair.ensures.items c.in_ok-push-in-Pair.ensures.items c.parts.invariant
