use Rattle.std.proofs.Common.{refl}
use Rattle.dump_lex.specs.Enclosed.{closing}
use Rattle.dump_lex.proofs.Names.{quoted_is}
use Rattle.dump_lex.proofs.front.quoted_token.Goals as goal

pub returns-then-is_name : goal.returns-then-is_name
returns-then-is_name c = rw c.if-is_name.true at (quoted_is c.args.inside.now (closing 34 c.args.inside.now) c.in-Some.closed c.split_at.result.0.now c.is_name.result refl c.in-Some.ensures.exact c.split_at.ensures.front c.is_name.ensures)

pub returns-else-is_name : goal.returns-else-is_name
returns-else-is_name c = rw c.if-is_name.false at (quoted_is c.args.inside.now (closing 34 c.args.inside.now) c.in-Some.closed c.split_at.result.0.now c.is_name.result refl c.in-Some.ensures.exact c.split_at.ensures.front c.is_name.ensures)
