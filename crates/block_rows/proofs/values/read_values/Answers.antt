use Rattle.std.proofs.Common.{◌<◌, ◌∙◌, ℕ, List, length, slice_get, ap, arith}
use Rattle.cluster_meaning.specs.Values.{ValueSource, column_read, column_value, values_of}
use Rattle.block_rows.specs.Sources.{source_of}
use Rattle.block_rows.proofs.FieldSteps.{values_more}
use Rattle.block_rows.proofs.values.read_values.Goals as goal

pub loop-n-preserved : goal.loop-n-preserved
unfolding values_of
loop-n-preserved c =
    let source : ValueSource = source_of c.args.source.now in
    let tuple : List ℕ = c.args.tuple.now in
    let n : ℕ = c.loop-n.n in
    let lt : n < length source.columns = c.loop-n-test.true in
    let in_shapes : n < length source.shapes = omega (arith, c.requires) in
    let next = c.next_field-field.ensures tuple source.shapes n in_shapes c.loop-n.invariant.left in
    record {
      left = next.1;
      values = values_more (column_value source tuple) n (length source.columns) c.loop-n.values.items c.push_some.new.values.items (values_of source tuple) c.in_ok-value.value lt c.in_ok-push_some.ensures
          (c.in_ok-value.ensures ∙ ap (λ field. column_read source tuple field (slice_get source.columns n)) next.0) c.loop-n.invariant.values;
    }
