-- What holds of the value of an answer that is Ok.
use Rattle.std.proofs.Common.{◌≡◌, Bool, true, false, Some, None, Result, Ok, Err, OnOk, refl}
use Rattle.std.specs.Prelude.{IfOk}
use Rattle.fs_model.specs.Names.{Path}
use Rattle.tree_checks.specs.Findings.{found_if}

pub if_ok : {T E : Type 0} {P Q : T → Type 0} (result : Result T E) → IfOk result P → ((value : T) → P value → Q value) → IfOk result Q
if_ok (Ok value) holds to = to value holds
if_ok (Err error) holds to = tt

pub on_ok : {T E : Type 0} {P Q : Type 0} (result : Result T E) → OnOk result P → (P → Q) → OnOk result Q
on_ok (Ok value) holds to = to holds
on_ok (Err error) holds to = tt

-- what a test tells of what was found by it
pub not_found : (b : Bool) (path : Path) → None ≡ found_if b path → b ≡ false
not_found true path is = absurd (cc is)
not_found false path is = refl

pub was_found : (b : Bool) (path found : Path) → Some found ≡ found_if b path → (b ≡ true) × (found ≡ path)
was_found true path found is = (refl, cc is)
was_found false path found is = absurd (cc is)
