-- Texts that were put one after another.
use Rattle.std.proofs.Common.{◌≡◌, ◌+◌, ◌++◌, ◌∷◌, [], ◌∙◌, ℕ, zero, suc, List, Result, Ok, Err, OnOk, length, take, refl, ap, sym, subst, arith, append_assoc, take_all}
use Rattle.std.specs.Result.{IsErrAnd}
use Rattle.std.proofs.Math.Seq.{take-append-add}
use Rattle.fs_model.specs.declared.error.SinkError.{SinkError}
use Rattle.fs_model.specs.Output.{IsPartPut}
use Rattle.compat_checks.specs.declared.refusal.Refusal.{Refusal}
use Rattle.upgrade_answers.specs.declared.answer.Answer.{Answer}
use Rattle.upgrade_answers.specs.Lines.{reason_of, lines_of}
use Rattle.upgrade_answers.specs.Puts.{Puts}

-- ---- a whole text

-- behind a text another one
pub behind : (w a b first second : List ℕ) → first ≡ w ++ a → second ≡ first ++ b → second ≡ w ++ (a ++ b)
behind w a b first second was push = push ∙ ap (λ l. l ++ b) was ∙ append_assoc w a b

-- a text that is another one
pub same_behind : (w a b now : List ℕ) → a ≡ b → now ≡ w ++ a → now ≡ w ++ b
same_behind w a b now same push = push ∙ ap (λ l. w ++ l) same

-- ---- a first part of a text

take_front : (count : ℕ) (a b : List ℕ) → (k : ℕ) × (take count a ≡ take k (a ++ b))
take_front zero a b = (0, refl)
take_front (suc count) [] b = (0, refl)
take_front (suc count) (x ∷ a) b = let (k, is) = take_front count a b in (suc k, ap (λ l. x ∷ l) is)

-- is one of a longer text too
pub part_front : (w a b now : List ℕ) → IsPartPut w a now → IsPartPut w (a ++ b) now
part_front w a b now (count, push) = let (k, is) = take_front count a b in (k, push ∙ ap (λ l. w ++ l) is)

-- behind another text is one of both
pub part_behind : (w a b first second : List ℕ) → first ≡ w ++ a → IsPartPut first b second → IsPartPut w (a ++ b) second
part_behind w a b first second was (count, push) =
    (length a + count, behind w a (take count b) first second was push ∙ ap (λ l. w ++ l) (sym (take-append-add a b count)))

-- of a text that is another one
pub part_same : (w a b now : List ℕ) → a ≡ b → IsPartPut w a now → IsPartPut w b now
part_same w a b now same = subst (λ l. IsPartPut w l now) same

-- ---- what was put, from what the sink answered

-- what a sink says of one put
pub puts : (result : Result (Unit {0}) SinkError) (w a now : List ℕ) → OnOk result (now ≡ w ++ a) → IsPartPut w a now → Puts w a result now
puts (Ok value) w a now whole part = whole
puts (Err error) w a now whole part = part

-- where a put failed
pub failed : (Q : SinkError → Type 0) (result : Result (Unit {0}) SinkError) (w a now : List ℕ) → IsErrAnd result Q → IsPartPut w a now → Puts w a result now
failed Q (Ok value) w a now is part = absurd is
failed Q (Err error) w a now is part = part

-- a first part was put, whatever the sink answered
pub part_put : (result : Result (Unit {0}) SinkError) (w a now : List ℕ) → Puts w a result now → IsPartPut w a now
part_put (Ok value) w a now push = (length a, push ∙ ap (λ l. w ++ l) (sym (take_all (length a) a (omega arith))))
part_put (Err error) w a now part = part

-- behind a text the last one
pub put_behind : (result : Result (Unit {0}) SinkError) (w a b first second : List ℕ) → first ≡ w ++ a → Puts first b result second → Puts w (a ++ b) result second
put_behind (Ok value) w a b first second was push = behind w a b first second was push
put_behind (Err error) w a b first second was part = part_behind w a b first second was part

-- a text that is another one
pub puts_same : (result : Result (Unit {0}) SinkError) (w a b now : List ℕ) → a ≡ b → Puts w a result now → Puts w b result now
puts_same result w a b now same = subst (λ l. Puts w l result now) same

-- what was put for this refusal
pub put_for : (result : Result (Unit {0}) SinkError) (first second : List ℕ) (refusal this : Refusal) → refusal ≡ this → Puts first (reason_of this) result second → Puts first (reason_of refusal) result second
put_for result first second refusal this is = subst (λ r. Puts first (reason_of r) result second) (sym is)

-- what was put for this answer
pub put_for_answer : (result : Result (Unit {0}) SinkError) (first second : List ℕ) (answer this : Answer) → answer ≡ this → Puts first (lines_of this) result second → Puts first (lines_of answer) result second
put_for_answer result first second answer this is = subst (λ a. Puts first (lines_of a) result second) (sym is)
