use Rattle.std.proofs.Common.{refl}
use Rattle.cluster_meaning.specs.Status.{segment_name}
use Rattle.status_read.proofs.SegmentNames.{named, name_of}
use Rattle.status_read.proofs.laws.segment_names_law.Goals as goal

pub returns-clause-own : goal.returns-clause-own
returns-clause-own c n lt = named n (segment_name n) lt refl

pub returns-clause-bounded : goal.returns-clause-bounded
returns-clause-bounded c n name is = (name_of n name is).0

pub returns-clause-other : goal.returns-clause-other
returns-clause-other c n name is = (name_of n name is).1
