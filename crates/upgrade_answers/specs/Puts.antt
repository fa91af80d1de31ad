-- What is put of bytes, from what the sink answered.
use Rattle.std.specs.Prelude.{◌≡◌, ◌++◌, ℕ, List, Result, Ok, Err}
use Rattle.fs_model.specs.declared.error.SinkError.{SinkError}
use Rattle.fs_model.specs.Output.{IsPartPut}

-- the bytes stand behind those that were there; after an error, a first part of them
abbrev pub Puts : List ℕ → List ℕ → Result (Unit {0}) SinkError → List ℕ → Type 0
Puts before bytes (Ok value) now = now ≡ before ++ bytes
Puts before bytes (Err error) now = IsPartPut before bytes now
