-- A file system in memory as its opening state and the record of its calls.
use Rattle.std.specs.Prelude.{◌≡◌, ◌+◌, ◌-◌, ◌^◌, ◌==◌, if◌then◌else◌, ℕ, Bool, true, false, max, List, [], ◌∷◌, ◌++◌, length, take, count_by, Option, Some, None, MatchOption, Result, Ok, Err}
use Rattle.std.specs.FinMap as map
use Rattle.fs_model.specs.declared.effect.Effect.{Effect}
use Rattle.fs_model.specs.declared.effect.Effect.TheVariants.{Nothing, Bytes}
use Rattle.fs_model.specs.declared.error.FsError.{FsError}
use Rattle.fs_model.specs.declared.error.FsError.TheVariants.{Failed, OutOfMemory}
use Rattle.fs_model.specs.Names.{Path}
use Rattle.fs_model.specs.State.{FsState}
use Rattle.fs_model.specs.Effects.{apply, bytes_of}
use Rattle.fs_model.specs.Calls.{Call, refusal}
use Rattle.fs_model.specs.Trail.{Trail, Counts}
use Rattle.fs_model.specs.WellFormed.{WellFormed}
use Rattle.fs_state.specs.Wants.{Wants, HasBytes}
use Rattle.fs_mem.specs.declared.history.Failing.{Failing}

-- what a call did, and the error that it answered
pub record Done : Type 0 where
  pub effect : Effect
  pub answer : Option FsError

pub record History : Type 0 where
  pub opening : FsState
  -- the calls since, the first of them first, without those that lacked memory
  pub done : List Done
  -- how many calls lacked memory
  pub lacks : ℕ
  -- the calls that are to fail
  pub failing : List Failing

-- the state that calls lead to
abbrev pub state_after : FsState → List Done → FsState
state_after s [] = s
state_after s (d ∷ done) = state_after (apply s d.effect) done

-- the states before the one that calls lead to, the latest first
abbrev pub past_after : List FsState → FsState → List Done → List FsState
past_after past s [] = past
past_after past s (d ∷ done) = past_after (s ∷ past) (apply s d.effect) done

abbrev pub present_of : History → FsState
present_of history = state_after history.opening history.done

-- the state after that many calls
abbrev pub state_at : History → ℕ → FsState
state_at history moment = state_after history.opening (take moment history.done)

-- a file system that opens with this state, and that does not fail
abbrev pub opens : FsState → History
opens s = record { opening = s; done = []; lacks = 0; failing = [] }

abbrev pub trail_of : History → Trail
trail_of history = record { present = present_of history; past = past_after [] history.opening history.done }

abbrev pub is_fault : Option FsError → Bool
is_fault (Some Failed) = true
is_fault answer = false

abbrev pub is_refusal : Option FsError → Bool
is_refusal None = false
is_refusal (Some Failed) = false
is_refusal (Some error) = true

abbrev pub counts_of : History → Counts
counts_of history = record {
  faults = count_by (λ d. is_fault d.answer) history.done;
  refusals = count_by (λ d. is_refusal d.answer) history.done;
  lacks = history.lacks;
}

-- no call is listed to fail
abbrev pub none_listed : List Failing → Bool
none_listed [] = true
none_listed (f ∷ failing) = false

abbrev pub is_firm : History → Bool
is_firm history = none_listed history.failing

-- the most names that one of the paths has
abbrev pub longest : List Path → ℕ
longest [] = 0
longest (path ∷ paths) = max (length path) (longest paths)

-- one more than the length of the longest path
abbrev pub depth_of : History → ℕ
depth_of history = longest (map.keys (present_of history).names) + 1

-- memory lacked: the count rises, up to its end
abbrev pub one_lack : History → History
one_lack history = record history { lacks = history.lacks + (if history.lacks == 2 ^ 64 - 1 then 0 else 1) }

-- a call more
abbrev pub one_done : History → Effect → Option FsError → History
one_done history effect answer = record history { done = history.done ++ record { effect = effect; answer = answer } ∷ [] }

-- whether the call of this number is to fail, and with its effect; the first entry counts
abbrev pub listed : List Failing → ℕ → Option Bool
listed [] number = None
listed (f ∷ failing) number = if f.call == number then Some f.effect else listed failing number

-- what a call does that fails without its effect: a write leaves its inode dirty
abbrev pub spoiled : FsState → Effect → Effect
spoiled s (Bytes inode bytes) = Bytes inode (bytes_of s.bytes inode)
spoiled s wanted = Nothing

abbrev pub failed_effect : FsState → Bool → Effect → Effect
failed_effect s with_effect wanted = if with_effect then wanted else spoiled s wanted

-- The call answers this error or none and has this effect, where it is listed to fail or not.
abbrev pub Answers : FsState → Option Bool → Call → Option FsError → Effect → Type 0
Answers s None call None effect = Wants s call (Ok effect)
Answers s None call (Some error) effect = (refusal s call ≡ Some error) × (effect ≡ Nothing)
Answers s (Some with_effect) call answer effect =
    (answer ≡ Some Failed) × MatchOption (refusal s call) ((wanted : Effect) × Wants s call (Ok wanted) × (effect ≡ failed_effect s with_effect wanted) × HasBytes effect) (λ _. effect ≡ Nothing)

-- The call gives this answer and takes the old history to the new one.
abbrev pub Ends : History → Call → Option FsError → History → Type 0
Ends old call (Some OutOfMemory) new = new ≡ one_lack old
Ends old call answer new = (effect : Effect) × Answers (present_of old) (listed old.failing (length old.done)) call answer effect × (new ≡ one_done old effect answer)

-- there is a call that wants this
abbrev pub IsWanted : FsState → Result Effect FsError → Type 0
IsWanted s wanted = (call : Call) × Wants s call wanted

-- a call that only reads wants nothing done
abbrev pub read_only : {T : Type 0} → Result T FsError → Result Effect FsError
read_only (Ok value) = Ok Nothing
read_only (Err error) = Err error

-- each state on the way of the calls is well-formed
abbrev pub StaysWellFormed : FsState → List Done → Type 0
StaysWellFormed s [] = WellFormed s
StaysWellFormed s (d ∷ done) = WellFormed s × StaysWellFormed (apply s d.effect) done

-- the state that is held is the one that the calls lead to, and each state on their way is well-formed
pub record IsHeld (present : Option FsState) (opening : FsState) (done : List Done) : Type 0 where
  pub present_is : MatchOption present (Unit {0}) (λ s. s ≡ state_after opening done)
  pub well_formed : WellFormed (state_after opening done)
  pub stays : StaysWellFormed opening done
