use Rattle.std.proofs.Common.{◌≡◌, ℕ, Bool, true, false, cond, List, None, ap, refl, sym}
use Rattle.std.specs.Str.{is_utf8, IsUtf8}
use Rattle.std.proofs.lemmas.Str.{is_utf8-from_IsUtf8, IsUtf8-from_is_utf8}
use Rattle.fs_model.specs.PathText.{path_in}
use Rattle.dump_read.specs.Takes.{path_of}
use Rattle.dump_read.proofs.values.path_of.Goals as goal

path_of_text : (bs : List ℕ) → IsUtf8 bs → path_in bs ≡ path_of bs
path_of_text bs h = ap (λ (b : Bool). cond b (path_in bs) None) (sym (is_utf8-from_IsUtf8 bs h))

by_test : (bs : List ℕ) (b : Bool) → is_utf8 bs ≡ b → (IsUtf8 bs → ⊥) → is_utf8 bs ≡ false
by_test bs true e bad = absurd (bad (IsUtf8-from_is_utf8 bs e))
by_test bs false e bad = e

path_of_other : (bs : List ℕ) → (IsUtf8 bs → ⊥) → path_of bs ≡ None
path_of_other bs bad = ap (λ (b : Bool). cond b (path_in bs) None) (by_test bs (is_utf8 bs) refl bad)

pub returns-in-Ok : goal.returns-in-Ok
returns-in-Ok c =
    let h = c.in-Ok.ensures.cases in
    rw (sym (path_of_text c.args.bytes.now h.1)) (rw h.0 at c.parsed.ensures)

pub returns-in-Err : goal.returns-in-Err
returns-in-Err c = λ _. path_of_other c.args.bytes.now c.in-Err.ensures.cases.0
