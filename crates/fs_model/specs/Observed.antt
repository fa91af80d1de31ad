-- What a function leaves of a file system, in one fact.
use Rattle.std.specs.Prelude.{◌≡◌, ℕ, Bool, true, Option}
use Rattle.fs_model.specs.declared.error.FsError.{FsError}
use Rattle.fs_model.specs.State.{FsState}
use Rattle.fs_model.specs.Calls.{Call}
use Rattle.fs_model.specs.Trail.{Trail, Goes, Counts, Unchanged, HasCause}

-- what is known of a file system at a moment
pub record Observed : Type 0 where
  pub told : Bool
  pub firm : Bool
  pub depth : ℕ
  pub trail : Trail
  pub counts : Counts

-- No state was changed, and the answer has its cause.
pub record OnlyReads (before after : Observed) (answer : Option FsError) : Type 0 where
  pub told : after.told ≡ before.told
  pub firm : after.firm ≡ before.firm
  pub depth : after.depth ≡ before.depth
  pub unchanged : before.told ≡ true → Unchanged before.trail after.trail
  pub cause : HasCause before.firm before.counts after.counts answer

-- Only such calls were made, each allowed in the state in which it was made, and the answer has its cause.
pub record OnlyCalls (Allowed : FsState → Call → Type 0) (before after : Observed) (answer : Option FsError) : Type 0 where
  pub told : after.told ≡ before.told
  pub firm : after.firm ≡ before.firm
  pub calls : before.told ≡ true → Goes Allowed before.trail after.trail
  pub cause : HasCause before.firm before.counts after.counts answer
