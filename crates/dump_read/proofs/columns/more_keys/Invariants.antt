use Rattle.std.proofs.Common.{◌≡◌, ◌<◌, ℕ, suc, length}
use Rattle.dump_read.specs.Takes.{one, column_number_in}
use Rattle.dump_read.specs.Form.{with_items, more_at}
use Rattle.dump_read.proofs.columns.more_keys.Given as goal

abbrev pub invariant-keys : goal.invariant-keys
invariant-keys l = (n : ℕ) × (length l.words < n) × (with_items l.keys.items (more_at (one column_number_in) n l.words) ≡ with_items l.fn.keys.items (more_at (one column_number_in) (suc (length l.fn.words)) l.fn.words))

abbrev pub decreases-keys : goal.decreases-keys
decreases-keys l = length l.words
