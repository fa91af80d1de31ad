use Rattle.command_words.specs.Words.{texts}
use Rattle.accepted_words.proofs.Faults.{fault_of}
use Rattle.accepted_words.proofs.line.read_line.Goals as goal

pub returns-in-Err-clause-usage : goal.returns-in-Err-clause-usage
returns-in-Err-clause-usage c position is = fault_of (texts c.args.words.now) position (c.in-Err.ensures.usage position (cc is))
