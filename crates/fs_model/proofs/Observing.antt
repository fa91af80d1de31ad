-- What functions leave of a file system, after each other.
use Rattle.std.proofs.Common.{◌≡◌, ◌∙◌, true, Option, None, refl}
use Rattle.fs_model.specs.declared.error.FsError.{FsError}
use Rattle.fs_model.specs.State.{FsState}
use Rattle.fs_model.specs.Calls.{Call}
use Rattle.fs_model.specs.Trail.{Steps, stays, HasCause, unless_lack}
use Rattle.fs_model.specs.Observed.{Observed, OnlyReads, OnlyCalls}
use Rattle.fs_model.proofs.Runs.{IsReading, reading_since, unchanged_then, none_since}
use Rattle.fs_model.proofs.Going.{goes_one, goes_then, goes_weaker}
use Rattle.fs_model.proofs.Causes.{GoesOn, no_cause, cause_then, cause_so_far, cause_unless_lack}

-- one call that reads
pub one_reads : (before after : Observed) (call : Call) (answer : Option FsError) → IsReading call → after.told ≡ before.told → after.firm ≡ before.firm → after.depth ≡ before.depth
    → (before.told ≡ true → Steps call answer before.trail after.trail) → HasCause before.firm before.counts after.counts answer → OnlyReads before after answer
one_reads before after call answer reading told firm depth steps cause = record {
  told = told;
  firm = firm;
  depth = depth;
  unchanged = λ is. reading_since call answer before.trail after.trail reading (steps is);
  cause = cause;
}

-- no call at all
pub no_reads : (before : Observed) → OnlyReads before before None
no_reads before = record { told = refl; firm = refl; depth = refl; unchanged = λ _. none_since (λ s. s ≡ before.trail.present) before.trail refl; cause = no_cause before.firm before.counts }

-- the answer of the first isn't that of both
pub reads_so_far : (before after : Observed) (answer : Option FsError) → GoesOn answer → OnlyReads before after answer → OnlyReads before after None
reads_so_far before after answer on reads = record {
  told = reads.told;
  firm = reads.firm;
  depth = reads.depth;
  unchanged = reads.unchanged;
  cause = cause_so_far before.firm before.counts after.counts answer on reads.cause;
}

-- want of memory is free
pub reads_unless_lack : (before after : Observed) (answer : Option FsError) → OnlyReads before after answer → OnlyReads before after (unless_lack answer)
reads_unless_lack before after answer reads = record {
  told = reads.told;
  firm = reads.firm;
  depth = reads.depth;
  unchanged = reads.unchanged;
  cause = cause_unless_lack before.firm before.counts after.counts answer reads.cause;
}

pub reads_then : (a b c : Observed) (first answer : Option FsError) → GoesOn first → OnlyReads a b first → OnlyReads b c answer → OnlyReads a c answer
reads_then a b c first answer on front back = record {
  told = back.told ∙ front.told;
  firm = back.firm ∙ front.firm;
  depth = back.depth ∙ front.depth;
  unchanged = λ is. unchanged_then a.trail b.trail c.trail (front.unchanged is) (back.unchanged (front.told ∙ is));
  cause = cause_then a.firm b.firm a.counts b.counts c.counts first answer on front.firm front.cause back.cause;
}

module _ (Allowed : FsState → Call → Type 0) where
  -- one call that is allowed
  pub one_calls : (before after : Observed) (call : Call) (answer : Option FsError) → Allowed before.trail.present call → after.told ≡ before.told → after.firm ≡ before.firm
      → (before.told ≡ true → Steps call answer before.trail after.trail) → HasCause before.firm before.counts after.counts answer → OnlyCalls Allowed before after answer
  one_calls before after call answer allowed told firm steps cause = record {
    told = told;
    firm = firm;
    calls = λ is. goes_one Allowed call answer before.trail after.trail allowed (steps is);
    cause = cause;
  }

  -- no call at all
  pub no_calls : (before : Observed) → OnlyCalls Allowed before before None
  no_calls before = record { told = refl; firm = refl; calls = λ _. stays; cause = no_cause before.firm before.counts }

  pub calls_so_far : (before after : Observed) (answer : Option FsError) → GoesOn answer → OnlyCalls Allowed before after answer → OnlyCalls Allowed before after None
  calls_so_far before after answer on calls = record {
    told = calls.told;
    firm = calls.firm;
    calls = calls.calls;
    cause = cause_so_far before.firm before.counts after.counts answer on calls.cause;
  }

  pub calls_then : (a b c : Observed) (first answer : Option FsError) → GoesOn first → OnlyCalls Allowed a b first → OnlyCalls Allowed b c answer → OnlyCalls Allowed a c answer
  calls_then a b c first answer on front back = record {
    told = back.told ∙ front.told;
    firm = back.firm ∙ front.firm;
    calls = λ is. goes_then Allowed (front.calls is) (back.calls (front.told ∙ is));
    cause = cause_then a.firm b.firm a.counts b.counts c.counts first answer on front.firm front.cause back.cause;
  }

-- what is allowed by one table is allowed by a wider one
pub calls_weaker : (P Q : FsState → Call → Type 0) → ((s : FsState) (call : Call) → P s call → Q s call) → (before after : Observed) (answer : Option FsError) → OnlyCalls P before after answer → OnlyCalls Q before after answer
calls_weaker P Q weaker before after answer calls = record { told = calls.told; firm = calls.firm; calls = λ is. goes_weaker P Q weaker (calls.calls is); cause = calls.cause }
