use Rattle.dump_lex.proofs.Readings as readings
use Rattle.dump_lex.proofs.laws.reading_is_one.Goals as goal

pub returns : goal.returns
returns c = readings.reading_is_one
