use Rattle.dump_lex.proofs.Readings as readings
use Rattle.dump_lex.proofs.laws.text_is_read.Goals as goal

pub returns : goal.returns
returns c = readings.text_is_read
