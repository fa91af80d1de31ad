use Rattle.object_places.proofs.KeyLemmas.{file_apart}
use Rattle.object_places.proofs.file_places.FilePlaces.put.Goals as goal

pub returns-clause-others : goal.returns-clause-others
returns-clause-others c = λ t q h. c.in_ok-insert.ensures.updates.2 (t, q) (file_apart (c.args.tablespace, c.args.number) (t, q) h)
