use Rattle.dump_lex.proofs.Enclosing.{ends_at, closes_last, closes_before, pairs_at}
use Rattle.dump_lex.proofs.enclosed.part_of.Goals as goal

pub returns-in-empty : goal.returns-in-empty
returns-in-empty c = ends_at c.args.delimiter c.args.bytes.now c.split_at.result.1.now c.len_before-n.result c.len_before-n.ensures.first c.split_at.ensures.back c.in-empty.len_below

pub returns-in-len2-up : goal.returns-in-len2-up
returns-in-len2-up c = pairs_at c.args.delimiter c.args.bytes.now c.split_at.result.1.now c.len_before-n.result c.len_before-n.ensures.first c.split_at.ensures.back c.in-len2-up.len_at_least c.if-second-delimiter.true

pub returns-in_default : goal.returns-in_default
returns-in_default c = closes_last c.args.delimiter c.args.bytes.now c.split_at.result.1.now c.len_before-n.result c.len_before-n.ensures.first c.split_at.ensures.back c.in_default.len_at_least c.in_default.len_below

pub returns-in_default-2 : goal.returns-in_default-2
returns-in_default-2 c = closes_before c.args.delimiter c.args.bytes.now c.split_at.result.1.now c.len_before-n.result c.len_before-n.ensures.first c.split_at.ensures.back c.in-len2-up.len_at_least c.if-second-delimiter.false
