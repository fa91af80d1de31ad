use Rattle.std.proofs.Common.{◌≡◌, ◌++◌, ◌-◌, length, filter_map, ℕ, Option}
use Rattle.std.specs.List.{range_with_len}
use Rattle.cluster_meaning.specs.Values.{ValueSource, values_of, column_value}
use Rattle.cluster_meaning.specs.declared.value.Value.{Value}
use Rattle.block_rows.specs.Sources.{source_of, FieldsLeft}
use Rattle.block_rows.proofs.values.read_values.Given as goal

abbrev pub invariant-loop-n : goal.invariant-loop-n
unfolding values_of
invariant-loop-n l =
    let source : ValueSource = source_of l.source in
    let value : ℕ → Option Value = column_value source l.tuple in
    record {
      left : FieldsLeft l.tuple l.source.shapes.now l.n l.fields;
      values : l.values.items ++ filter_map value (range_with_len l.n (length source.columns - l.n)) ≡ values_of source l.tuple;
    }
