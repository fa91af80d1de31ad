use Rattle.dump_lex.proofs.Blank.{first_byte}
use Rattle.dump_lex.proofs.bytes.len_before.Goals as goal

pub returns-clause-first : goal.returns-clause-first
returns-clause-first c = first_byte c.args.byte c.args.bytes.now c.find_byte.result c.unwrap_or.result c.find_byte.ensures c.unwrap_or.ensures
