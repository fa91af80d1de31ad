-- What a call adds to the counts, by its answer.
use Rattle.std.specs.Prelude.{◌+◌, ◌-◌, ◌^◌, ℕ, min, Option, None, Some}
use Rattle.fs_model.specs.declared.error.FsError.{FsError}
use Rattle.fs_model.specs.declared.error.FsError.TheVariants.{Failed, OutOfMemory}
use Rattle.fs_model.specs.Trail.{Counts}
use Rattle.fs_model.specs.Output.{SinkCounts}
use Rattle.fs_real.specs.declared.tally.Tally.{Tally}

-- one more, but never above 2^64 - 1
abbrev pub one_more : ℕ → ℕ
one_more n = min (n + 1) (2 ^ 64 - 1)

-- the counts of a file system among them
abbrev pub counts_of : Tally → Counts
counts_of t = record { faults = t.faults; refusals = t.refusals; lacks = t.lacks }

-- after a call that gave this answer
abbrev pub closed : Tally → Option FsError → Tally
closed t None = record t { calls = one_more t.calls }
closed t (Some OutOfMemory) = record t { lacks = one_more t.lacks }
closed t (Some Failed) = record t { faults = one_more t.faults; calls = one_more t.calls }
closed t (Some error) = record t { refusals = one_more t.refusals; calls = one_more t.calls }

-- the counts of a sink
abbrev pub sink_counts_of : ℕ → ℕ → SinkCounts
sink_counts_of faults lacks = record { faults = faults; lacks = lacks }
