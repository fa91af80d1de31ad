-- A call before the one from which nothing is found.
use Rattle.std.proofs.Common.{◌≡◌, ◌+◌, ℕ, false, Option, sym, ap, subst}
use Rattle.std.specs.Prelude.{nat_le, Some, None, MatchBool}
use Rattle.fs_model.specs.declared.error.FsError.{FsError}
use Rattle.fs_model.specs.declared.error.FsError.TheVariants.{NotFound, Failed, OutOfMemory}
use Rattle.fs_model.specs.Calls.{Call}
use Rattle.fs_model.specs.Trail.{Counts, OthersStay}
use Rattle.fs_mem.specs.History.{History, Ends, counts_of}
use Rattle.fs_untold.specs.Losing.{Losing, Passes, one_loss, counted, losing_counts}

pub before : (old new : Losing) (call : Call) (answer : Option FsError) (inner : History) → nat_le old.lose old.calls ≡ false → Ends old.inner call answer inner → new ≡ record old { inner = inner; calls = counted old.calls answer } → Passes old call answer new
before old new call answer inner earlier ends is =
    subst (λ b. MatchBool b ((answer ≡ Some NotFound) × (new ≡ one_loss old)) ((inner : History) × Ends old.inner call answer inner × (new ≡ record old { inner = inner; calls = counted old.calls answer }))) (sym earlier) (inner, ends, is)

-- more refusals before and now change nothing
others_more : (a b : Counts) (n : ℕ) (answer : Option FsError) → OthersStay a b answer → OthersStay (record a { refusals = a.refusals + n }) (record b { refusals = b.refusals + n }) answer
others_more a b n None stay = record { refusals = ap (λ r. r + n) stay.refusals; lacks = stay.lacks }
others_more a b n (Some Failed) stay = record { refusals = ap (λ r. r + n) stay.refusals; lacks = stay.lacks }
others_more a b n (Some OutOfMemory) stay = record { refusals = ap (λ r. r + n) stay.refusals; lacks = tt }
others_more a b n (Some error) stay = record { refusals = tt; lacks = stay.lacks }

pub others_before : (old new : Losing) (answer : Option FsError) (inner : History) → OthersStay (counts_of old.inner) (counts_of inner) answer → new ≡ record old { inner = inner; calls = counted old.calls answer } → OthersStay (losing_counts old) (losing_counts new) answer
others_before old new answer inner stay is =
    subst (λ u. OthersStay (losing_counts old) (losing_counts u) answer) (sym is) (others_more (counts_of old.inner) (counts_of inner) old.losses answer stay)
