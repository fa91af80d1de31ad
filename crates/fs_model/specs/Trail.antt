-- The states that a file system was in, how calls go on from there, and how often it answered each kind of error.
use Rattle.std.specs.Prelude.{◌≡◌, ◌≢◌, ◌≤◌, ◌+◌, ◌-◌, ◌^◌, ℕ, Bool, true, min, List, ◌∷◌, ◌++◌, Option, Some, None, Result, Ok, Err}
use Rattle.std.specs.List.{AllByRecursion}
use Rattle.fs_model.specs.declared.effect.Effect.{Effect}
use Rattle.fs_model.specs.declared.error.FsError.{FsError}
use Rattle.fs_model.specs.declared.error.FsError.TheVariants.{Failed, OutOfMemory}
use Rattle.fs_model.specs.State.{FsState}
use Rattle.fs_model.specs.Effects.{apply}
use Rattle.fs_model.specs.Calls.{Call, MayDo}
use Rattle.fs_model.specs.Crash.{Image}

-- the present state, and those before it, the latest first: the opening state and then one a call that did not lack memory
pub record Trail : Type 0 where
  pub present : FsState
  pub past : List FsState

abbrev pub grown : Trail → FsState → Trail
grown trail s = record { present = s; past = trail.present ∷ trail.past }

abbrev pub error_of : {T : Type 0} → Result T FsError → Option FsError
error_of (Ok value) = None
error_of (Err error) = Some error

-- what a refusal decides: Ok comes only where there is none, and another error than a failure or want of memory only where it is that one
abbrev pub DecidedBy : {T : Type 0} → Option FsError → Result T FsError → Type 0
DecidedBy refused (Ok value) = refused ≡ None
DecidedBy refused (Err Failed) = Unit {0}
DecidedBy refused (Err OutOfMemory) = Unit {0}
DecidedBy refused (Err error) = refused ≡ Some error

-- the answer of a call that may lack memory by itself, for which no count need rise
abbrev pub unless_lack : Option FsError → Option FsError
unless_lack None = None
unless_lack (Some OutOfMemory) = None
unless_lack (Some error) = Some error

-- A call that gives this answer takes the old trail to the new one.
abbrev pub Steps : Call → Option FsError → Trail → Trail → Type 0
Steps call (Some OutOfMemory) old new = new ≡ old
Steps call answer old new = (effect : Effect) × MayDo old.present call answer effect × (new ≡ grown old (apply old.present effect))

-- The trail went on by calls that were allowed, each in the state in which it was made, whatever they answered.
pub data Goes (Allowed : FsState → Call → Type 0) : Trail → Trail → Type 0 where
  stays : {a : Trail} → Goes Allowed a a
  on : {a b c : Trail} → Goes Allowed a b → (call : Call) (answer : Option FsError) → Allowed b.present call → Steps call answer b c → Goes Allowed a c

-- Every state from the old trail's present one on has P.
pub record Since (P : FsState → Type 0) (old new : Trail) : Type 0 where
  pub first : P old.present
  -- the states that were added, the latest first
  pub added : List FsState
  pub is : ◌≡◌ {A = List FsState} (new.present ∷ new.past) (added ++ old.present ∷ old.past)
  pub each : AllByRecursion P added
  pub present : P new.present

-- No state was added but the one that was.
abbrev pub Unchanged : Trail → Trail → Type 0
Unchanged old new = Since (λ s. s ≡ old.present) old new

-- A crash at any moment from the old trail's present state on leaves what has P.
abbrev pub EachCrash : (FsState → Type 0) → Trail → Trail → Type 0
EachCrash P old new = Since (λ s. (x : FsState) → Image s x → P x) old new

-- how often a file system failed, refused a call and lacked memory
pub record Counts : Type 0 where
  pub faults : ℕ
  pub refusals : ℕ
  pub lacks : ℕ

-- a count rose; at its end it stands still
abbrev pub Rose : ℕ → ℕ → Type 0
Rose before now = min (before + 1) (2 ^ 64 - 1) ≤ now

-- the count of this answer rose
abbrev pub RoseFor : Option FsError → Counts → Counts → Type 0
RoseFor None before now = Unit {0}
RoseFor (Some Failed) before now = Rose before.faults now.faults
RoseFor (Some OutOfMemory) before now = Rose before.lacks now.lacks
RoseFor (Some error) before now = Rose before.refusals now.refusals

-- unless the answer is a failure, none was counted
abbrev pub FaultsStay : Option FsError → Counts → Counts → Type 0
FaultsStay None before now = now.faults ≡ before.faults
FaultsStay (Some Failed) before now = Unit {0}
FaultsStay (Some error) before now = now.faults ≡ before.faults

-- unless the answer is a refusal, none was counted
abbrev pub RefusalsStay : Option FsError → Counts → Counts → Type 0
RefusalsStay None before now = now.refusals ≡ before.refusals
RefusalsStay (Some Failed) before now = now.refusals ≡ before.refusals
RefusalsStay (Some OutOfMemory) before now = now.refusals ≡ before.refusals
RefusalsStay (Some error) before now = Unit {0}

-- unless the answer is want of memory, none was counted
abbrev pub LacksStay : Option FsError → Counts → Counts → Type 0
LacksStay None before now = now.lacks ≡ before.lacks
LacksStay (Some OutOfMemory) before now = Unit {0}
LacksStay (Some error) before now = now.lacks ≡ before.lacks

-- Of a function that gives its calls' refusals and wants of memory on, each count but that of its answer is as before.
pub record OthersStay (before now : Counts) (answer : Option FsError) : Type 0 where
  pub refusals : RefusalsStay answer before now
  pub lacks : LacksStay answer before now

-- No count fell, each error has its cause, no failure was kept quiet, and a firm file system doesn't fail.
pub record HasCause (firm : Bool) (before now : Counts) (answer : Option FsError) : Type 0 where
  pub faults : before.faults ≤ now.faults
  pub refusals : before.refusals ≤ now.refusals
  pub lacks : before.lacks ≤ now.lacks
  pub rose : RoseFor answer before now
  pub told : FaultsStay answer before now
  pub firm_faults : firm ≡ true → now.faults ≡ before.faults
  pub firm_answer : firm ≡ true → answer ≢ Some Failed
