use Rattle.command_words.proofs.Starts.{rest_is}
use Rattle.command_words.proofs.words.rest_after.Goals as goal

pub returns : goal.returns
returns c = rest_is c.args.start.now c.args.word.now c.strip_prefix.result c.strip_prefix.ensures.cases
