-- A file system that answers NotFound from a call on, and before it as the one that it wraps.
use Rattle.std.specs.Prelude.{◌≡◌, ◌+◌, ◌-◌, ◌^◌, ℕ, min, nat_le, Option, Some, MatchBool}
use Rattle.fs_model.specs.declared.error.FsError.{FsError}
use Rattle.fs_model.specs.declared.error.FsError.TheVariants.{NotFound, OutOfMemory}
use Rattle.fs_model.specs.Calls.{Call}
use Rattle.fs_model.specs.Trail.{Counts}
use Rattle.fs_mem.specs.History.{History, Ends, counts_of}

pub record Losing : Type 0 where
  pub inner : History
  -- the number of the first call that finds nothing
  pub lose : ℕ
  -- how many calls did not lack memory, and how many of them found nothing for that reason
  pub calls : ℕ
  pub losses : ℕ

-- one more, up to the end of the type
abbrev pub more : ℕ → ℕ
more count = min (count + 1) (2 ^ 64 - 1)

abbrev pub losing_counts : Losing → Counts
losing_counts u = record { faults = (counts_of u.inner).faults; refusals = (counts_of u.inner).refusals + u.losses; lacks = (counts_of u.inner).lacks }

-- the call found nothing
abbrev pub one_loss : Losing → Losing
one_loss u = record u { calls = more u.calls; losses = more u.losses }

-- a call of this answer is counted
abbrev pub counted : ℕ → Option FsError → ℕ
counted calls (Some OutOfMemory) = calls
counted calls answer = more calls

-- From the call of that number on the answer is NotFound, and before it that of the inner file system.
abbrev pub Passes : Losing → Call → Option FsError → Losing → Type 0
Passes old call answer new =
    MatchBool (nat_le old.lose old.calls) ((answer ≡ Some NotFound) × (new ≡ one_loss old))
    ((inner : History) × Ends old.inner call answer inner × (new ≡ record old { inner = inner; calls = counted old.calls answer }))
