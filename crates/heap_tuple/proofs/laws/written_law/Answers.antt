use Rattle.heap_tuple.proofs.WrittenLemmas.{written_fixed, written_short, written_whole, written_compressed, written_pointer}
use Rattle.heap_tuple.proofs.laws.written_law.Goals as goal

pub returns-clause-fixed : goal.returns-clause-fixed
returns-clause-fixed c = written_fixed

pub returns-clause-short : goal.returns-clause-short
returns-clause-short c = written_short

pub returns-clause-long : goal.returns-clause-long
returns-clause-long c = written_whole

pub returns-clause-compressed : goal.returns-clause-compressed
returns-clause-compressed c = written_compressed

pub returns-clause-pointer : goal.returns-clause-pointer
returns-clause-pointer c = written_pointer
