use Rattle.std.proofs.Common.{refl}
use Rattle.heap_tuple.specs.Numbers.{u16_at, u32_at}
use Rattle.heap_tuple.specs.Column.{varlena_field, field_in, place_before, column_of}
use Rattle.cluster_gen.specs.Page.{row}
use Rattle.cluster_gen.proofs.laws.rows_are_read.Goals as goal

pub returns-clause-headers : goal.returns-clause-headers
unfolding u16_at u32_at varlena_field field_in place_before column_of row
returns-clause-headers c = refl

pub returns-clause-ids : goal.returns-clause-ids
unfolding u16_at u32_at varlena_field field_in place_before column_of row
returns-clause-ids c = refl

pub returns-clause-notes : goal.returns-clause-notes
unfolding u16_at u32_at varlena_field field_in place_before column_of row
returns-clause-notes c = refl
