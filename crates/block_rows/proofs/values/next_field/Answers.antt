use Rattle.std.proofs.Common.{subst}
use Rattle.heap_tuple.specs.Field.{answer_value}
use Rattle.block_rows.specs.Sources.{FieldsLeft}
use Rattle.block_rows.proofs.FieldSteps.{next_of}
use Rattle.block_rows.proofs.values.next_field.Goals as goal

pub returns-in-Some : goal.returns-in-Some
returns-in-Some c tuple shapes n lt left =
    next_of tuple shapes n c.in-Ok.fields c.next.new.self (answer_value c.in-Some.field) lt (subst (FieldsLeft tuple shapes n) c.in-Ok.is left) c.in-Some.ensures.steps
