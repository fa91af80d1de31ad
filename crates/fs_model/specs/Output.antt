-- What a sink was given, and why it did not take it.
use Rattle.std.specs.Prelude.{◌≡◌, ◌≤◌, ◌++◌, ℕ, List, take, Result, Ok, Err}
use Rattle.fs_model.specs.declared.error.SinkError.{SinkError}
use Rattle.fs_model.specs.declared.error.SinkError.TheVariants.{Failed, OutOfMemory}
use Rattle.fs_model.specs.Trail.{Rose}

-- how often a sink failed and lacked memory
pub record SinkCounts : Type 0 where
  pub faults : ℕ
  pub lacks : ℕ

abbrev pub SinkRose : Result (Unit {0}) SinkError → SinkCounts → SinkCounts → Type 0
SinkRose (Ok value) before now = Unit {0}
SinkRose (Err Failed) before now = Rose before.faults now.faults
SinkRose (Err OutOfMemory) before now = Rose before.lacks now.lacks

-- each count but that of the answer is as before
abbrev pub SinkStays : Result (Unit {0}) SinkError → SinkCounts → SinkCounts → Type 0
SinkStays (Ok value) before now = (now.faults ≡ before.faults) × (now.lacks ≡ before.lacks)
SinkStays (Err Failed) before now = now.lacks ≡ before.lacks
SinkStays (Err OutOfMemory) before now = now.faults ≡ before.faults

-- no count fell, each error has its cause, and none was kept quiet
pub record SinkHasCause (before now : SinkCounts) (result : Result (Unit {0}) SinkError) : Type 0 where
  pub faults : before.faults ≤ now.faults
  pub lacks : before.lacks ≤ now.lacks
  pub rose : SinkRose result before now
  pub told : SinkStays result before now

-- a first part of the bytes was put behind those that were there
abbrev pub IsPartPut : List ℕ → List ℕ → List ℕ → Type 0
IsPartPut before bytes now = (count : ℕ) × (now ≡ before ++ take count bytes)
