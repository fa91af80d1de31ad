use Rattle.std.proofs.Common.{◌≡◌, ◌++◌, not}
use Rattle.std.specs.List.{filter}
use Rattle.fs_model.specs.Effects.{all_changed, is_in}
use Rattle.fs_state.proofs.names.keep_names.Given as goal

abbrev pub invariant-loop-change : goal.invariant-loop-change
invariant-loop-change l =
    let left = l.change-iterator.rest.items in
    let others = filter (λ change. not (is_in l.dir change)) in
    record {
      kept : all_changed l.names (filter (is_in l.dir) left) ≡ all_changed l.fn.names (filter (is_in l.dir) l.fn.pending.items);
      others : l.others.items ++ others left ≡ others l.fn.pending.items;
    }
