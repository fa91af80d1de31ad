use Rattle.dump_read.proofs.StatementBack.{read_is_spelled}
use Rattle.dump_read.proofs.reader.statement_in.Goals as goal

pub returns-in-Ok-clause-of_grammar : goal.returns-in-Ok-clause-of_grammar
returns-in-Ok-clause-of_grammar c = (read_is_spelled _ c.in-Ok.statement c.in-Ok.ensures).1
