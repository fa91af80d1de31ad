-- A sink in memory.
use Rattle.std.specs.Prelude.{◌≡◌, ◌+◌, ◌-◌, ◌^◌, ◌==◌, ℕ, Bool, true, false, min, List, ◌++◌, Result, Ok, Err}
use Rattle.std.specs.List.{list_any}
use Rattle.fs_model.specs.declared.error.SinkError.{SinkError}
use Rattle.fs_model.specs.declared.error.SinkError.TheVariants.{Failed, OutOfMemory}
use Rattle.fs_model.specs.Output.{SinkCounts}

pub record Printed : Type 0 where
  pub bytes : List ℕ
  -- the puts that are to fail
  pub failing : List ℕ
  -- how many puts did not lack memory
  pub puts : ℕ
  pub faults : ℕ
  pub lacks : ℕ

abbrev pub sink_counts : Printed → SinkCounts
sink_counts s = record { faults = s.faults; lacks = s.lacks }

-- one more, up to the end of the type
abbrev pub more : ℕ → ℕ
more count = min (count + 1) (2 ^ 64 - 1)

-- whether the next put is to fail
abbrev pub is_listed : Printed → Bool
is_listed s = list_any (λ number. number == s.puts) s.failing

-- What a put of these bytes answers and leaves.
abbrev pub Puts : Printed → List ℕ → Result (Unit {0}) SinkError → Printed → Type 0
Puts old bytes (Ok value) new = (is_listed old ≡ false) × (new ≡ record old { bytes = old.bytes ++ bytes; puts = more old.puts })
Puts old bytes (Err Failed) new = (is_listed old ≡ true) × (new ≡ record old { puts = more old.puts; faults = more old.faults })
Puts old bytes (Err OutOfMemory) new = (is_listed old ≡ false) × (new ≡ record old { lacks = more old.lacks })
