-- What a put left is what stood there and a first part of its bytes.
use Rattle.std.proofs.Common.{◌≡◌, ◌++◌, ℕ, List, length, Result, Ok, Err, sym, ◌∙◌, ap, arith, take_all}
use Rattle.std.specs.Prelude.{OnOk}
use Rattle.std.proofs.lemmas.List.{append-nil}
use Rattle.fs_model.specs.declared.error.SinkError.{SinkError}
use Rattle.fs_model.specs.declared.error.SinkError.TheVariants.{Failed, OutOfMemory}
use Rattle.fs_model.specs.Output.{IsPartPut}
use Rattle.fs_mem.specs.Output.{Printed, Puts}

nothing_put : (before now : List ℕ) (bytes : List ℕ) → now ≡ before → IsPartPut before bytes now
nothing_put before now bytes same = (0, same ∙ sym (append-nil before))

pub put_part : (old new : Printed) (bytes : List ℕ) (result : Result (Unit {0}) SinkError) → Puts old bytes result new → IsPartPut old.bytes bytes new.bytes
put_part old new bytes (Ok value) puts = (length bytes, ap (λ p. p.bytes) puts.1 ∙ ap (λ part. old.bytes ++ part) (sym (take_all (length bytes) bytes (omega arith))))
put_part old new bytes (Err Failed) puts = nothing_put old.bytes new.bytes bytes (ap (λ p. p.bytes) puts.1)
put_part old new bytes (Err OutOfMemory) puts = nothing_put old.bytes new.bytes bytes (ap (λ p. p.bytes) puts.1)

pub put_appended : (old new : Printed) (bytes : List ℕ) (result : Result (Unit {0}) SinkError) → Puts old bytes result new → OnOk result (new.bytes ≡ old.bytes ++ bytes)
put_appended old new bytes (Ok value) puts = ap (λ p. p.bytes) puts.1
put_appended old new bytes (Err error) puts = tt
