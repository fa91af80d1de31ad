use Rattle.heap_tuple.proofs.PlaceLemmas.{length-fields_of, slice_get-fields_of}
use Rattle.heap_tuple.proofs.laws.columns_law.Goals as goal

pub returns-clause-all : goal.returns-clause-all
returns-clause-all c = length-fields_of

pub returns-clause-each : goal.returns-clause-each
returns-clause-each c = slice_get-fields_of
