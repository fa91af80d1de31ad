use Rattle.std.proofs.Common.{◌≡◌, ◌<◌, ℕ, suc, length}
use Rattle.dump_read.specs.Form.{column_at, with_items, more_at}
use Rattle.dump_read.proofs.columns.more_columns.Given as goal

abbrev pub invariant-columns : goal.invariant-columns
invariant-columns l = (n : ℕ) × (length l.words < n) × (with_items l.columns (more_at column_at n l.words) ≡ with_items l.fn.first (more_at column_at (suc (length l.fn.words)) l.fn.words))

abbrev pub decreases-columns : goal.decreases-columns
decreases-columns l = length l.words
