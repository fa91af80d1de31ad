-- One call more in the record is one state more in the trail.
use Rattle.std.proofs.Common.{◌≡◌, ◌⊎◌, Bool, true, false, ℕ, ◌+◌, zero, suc, length, take, inl, inr, List, [], ◌∷◌, ◌++◌, Option, Some, None, Result, Ok, Err, refl, sym, ◌∙◌, ap, subst, arith}
use Rattle.std.specs.Prelude.{MatchOption}
use Rattle.std.proofs.Math.Seq.{take-nil}
use Rattle.fs_model.specs.declared.effect.Effect.{Effect}
use Rattle.fs_model.specs.declared.effect.Effect.TheVariants.{Nothing, Bytes}
use Rattle.fs_model.specs.declared.error.FsError.{FsError}
use Rattle.fs_model.specs.declared.error.FsError.TheVariants.{Failed, OutOfMemory}
use Rattle.fs_model.specs.Names.{Path}
use Rattle.fs_model.specs.State.{FsState}
use Rattle.fs_model.specs.Effects.{apply, bytes_of}
use Rattle.fs_model.specs.Calls.{Call, Stats, Lists, ReadsAt, ReadsLink, Creates, WritesAt, MakesDir, MakesSymlink, Links, Renames, Unlinks, RemovesDir, SyncsFile, SyncsDir, MayDo, MayFail, Does, refusal, overwritten}
use Rattle.fs_model.specs.WellFormed.{WellFormed}
use Rattle.fs_model.specs.Trail.{Steps, grown}
use Rattle.fs_state.specs.Wants.{Wants, HasBytes, Tests}
use Rattle.fs_mem.specs.History.{Done, History, Answers, Ends, failed_effect, spoiled, listed, read_only, state_after, past_after, StaysWellFormed, present_of, trail_of, one_done}

pub state_after_push : (s : FsState) (done : List Done) (d : Done) → state_after s (done ++ d ∷ []) ≡ apply (state_after s done) d.effect
state_after_push s [] d = refl
state_after_push s (e ∷ done) d = state_after_push (apply s e.effect) done d

past_after_push : (past : List FsState) (s : FsState) (done : List Done) (d : Done) → past_after past s (done ++ d ∷ []) ≡ state_after s done ∷ past_after past s done
past_after_push past s [] d = refl
past_after_push past s (e ∷ done) d = past_after_push (s ∷ past) (apply s e.effect) done d

pub length-past_after : (past : List FsState) (s : FsState) (done : List Done) → length (past_after past s done) ≡ length past + length done
length-past_after past s [] = omega arith
length-past_after past s (d ∷ done) = let more = length-past_after (s ∷ past) (apply s d.effect) done in omega (arith, more)

trail_push : (old : History) (effect : Effect) (answer : Option FsError) → trail_of (one_done old effect answer) ≡ grown (trail_of old) (apply (present_of old) effect)
trail_push old effect answer =
    let d : Done = record { effect = effect; answer = answer } in
    λ i. record { present = state_after_push old.opening old.done d i; past = past_after_push [] old.opening old.done d i }

-- a call that is no write and fails does nothing or what it would
no_write : (s : FsState) (call : Call) (with_effect : Bool) (wanted effect : Effect) → spoiled s wanted ≡ Nothing → Does s call wanted → effect ≡ failed_effect s with_effect wanted → (effect ≡ Nothing) ⊎ Does s call effect
no_write s call true wanted effect plain does e = inr (subst (Does s call) (sym e) does)
no_write s call false wanted effect plain does e = inl (e ∙ plain)

-- a write that fails leaves bytes
a_write : (s : FsState) (path : Path) (from : ℕ) (bytes : List ℕ) (with_effect : Bool) (wanted effect : Effect) → Does s (WritesAt path from bytes) wanted → effect ≡ failed_effect s with_effect wanted → HasBytes effect → MayFail s (WritesAt path from bytes) effect
a_write s path from bytes true wanted effect does e has =
    let is : effect ≡ Bytes does.0 (overwritten (bytes_of s.bytes does.0) from bytes) = e ∙ does.2 in
    (does.0, overwritten (bytes_of s.bytes does.0) from bytes, does.1, subst HasBytes is has, is)
a_write s path from bytes false wanted effect does e has =
    let is : effect ≡ Bytes does.0 (bytes_of s.bytes does.0) = e ∙ ap (spoiled s) does.2 in
    (does.0, bytes_of s.bytes does.0, does.1, subst HasBytes is has, is)

-- a failing call's effect is one of a failed call
fails_does : (s : FsState) (call : Call) (with_effect : Bool) (wanted effect : Effect) → Does s call wanted → effect ≡ failed_effect s with_effect wanted → HasBytes effect → MayFail s call effect
fails_does s (Stats path) with_effect wanted effect does e has = no_write s (Stats path) with_effect wanted effect (ap (spoiled s) does) does e
fails_does s (Lists path) with_effect wanted effect does e has = no_write s (Lists path) with_effect wanted effect (ap (spoiled s) does) does e
fails_does s (ReadsAt path) with_effect wanted effect does e has = no_write s (ReadsAt path) with_effect wanted effect (ap (spoiled s) does) does e
fails_does s (ReadsLink path) with_effect wanted effect does e has = no_write s (ReadsLink path) with_effect wanted effect (ap (spoiled s) does) does e
fails_does s (MakesDir path) with_effect wanted effect does e has = no_write s (MakesDir path) with_effect wanted effect (ap (spoiled s) does) does e
fails_does s (MakesSymlink path target) with_effect wanted effect does e has = no_write s (MakesSymlink path target) with_effect wanted effect (ap (spoiled s) does) does e
fails_does s (Unlinks path) with_effect wanted effect does e has = no_write s (Unlinks path) with_effect wanted effect (ap (spoiled s) does) does e
fails_does s (RemovesDir path) with_effect wanted effect does e has = no_write s (RemovesDir path) with_effect wanted effect (ap (spoiled s) does) does e
fails_does s (SyncsDir path) with_effect wanted effect does e has = no_write s (SyncsDir path) with_effect wanted effect (ap (spoiled s) does) does e
fails_does s (Creates path) with_effect wanted effect does e has = no_write s (Creates path) with_effect wanted effect (ap (spoiled s) does.2) does e
fails_does s (Links from to) with_effect wanted effect does e has = no_write s (Links from to) with_effect wanted effect (ap (spoiled s) does.2) does e
fails_does s (Renames from to) with_effect wanted effect does e has = no_write s (Renames from to) with_effect wanted effect (ap (spoiled s) does.2) does e
fails_does s (SyncsFile path) with_effect wanted effect does e has = no_write s (SyncsFile path) with_effect wanted effect (ap (spoiled s) does.2) does e
fails_does s (WritesAt path from bytes) with_effect wanted effect does e has = a_write s path from bytes with_effect wanted effect does e has

match_none : {P Q : Type 0} (R : FsError → Type 0) (refused : Option FsError) → (P → Q) → MatchOption refused P R → MatchOption refused Q R
match_none R None f p = f p
match_none R (Some error) f p = p

refused_may : (s : FsState) (call : Call) (error : FsError) (effect : Effect) → refusal s call ≡ Some error → effect ≡ Nothing → MayDo s call (Some error) effect
refused_may s call Failed effect refused e = subst (λ r. MatchOption r (MayFail s call effect) (λ _. effect ≡ Nothing)) (sym refused) e
refused_may s call error effect refused e = (refused, e)

-- what a call answers and does is what it may
pub may_do : (s : FsState) (listed : Option Bool) (call : Call) (answer : Option FsError) (effect : Effect) → Answers s listed call answer effect → MayDo s call answer effect
may_do s None call None effect answers = (answers.0, answers.1)
may_do s None call (Some error) effect answers = refused_may s call error effect answers.0 answers.1
may_do s (Some with_effect) call answer effect answers =
    subst (λ a. MayDo s call a effect) (sym answers.0)
    (match_none (λ _. effect ≡ Nothing) (refusal s call) (λ (wanted, wants, e, has). fails_does s call with_effect wanted effect wants.1 e has) answers.1)

-- what a call ends with is a step of the trail
pub steps : (old new : History) (call : Call) (answer : Option FsError) → Ends old call answer new → Steps call answer (trail_of old) (trail_of new)
steps old new call None ends =
    (ends.0, may_do (present_of old) (listed old.failing (length old.done)) call None ends.0 ends.1, ap trail_of ends.2 ∙ trail_push old ends.0 None)
steps old new call (Some OutOfMemory) ends = ap trail_of ends
steps old new call (Some error) ends =
    (ends.0, may_do (present_of old) (listed old.failing (length old.done)) call (Some error) ends.0 ends.1, ap trail_of ends.2 ∙ trail_push old ends.0 (Some error))

-- a reading call wants nothing done
pub reads : {T : Type 0} (s : FsState) (call : Call) → Does s call Nothing → (result : Result T FsError) → Tests (refusal s call) result → Wants s call (read_only result)
reads s call does (Ok value) tests = (tests, does, tt, tt)
reads {T} s call does (Err error) tests = refuses error tests
  where
    refuses : (error : FsError) → Tests {T = T} (refusal s call) (Err error) → Wants s call (Err error)
    refuses OutOfMemory tests = tt
    refuses error tests = tests

-- each state stays well-formed with a call more
pub stays_push : (s : FsState) (done : List Done) (d : Done) → StaysWellFormed s done → WellFormed (apply (state_after s done) d.effect) → StaysWellFormed s (done ++ d ∷ [])
stays_push s [] d stays next = (stays, next)
stays_push s (e ∷ done) d stays next = (stays.0, stays_push (apply s e.effect) done d stays.1 next)

pub stays_at : (s : FsState) (done : List Done) (moment : ℕ) → StaysWellFormed s done → WellFormed (state_after s (take moment done))
stays_at s [] moment stays = subst (λ ds. WellFormed (state_after s ds)) (sym (take-nil moment)) stays
stays_at s (d ∷ done) zero stays = stays.0
stays_at s (d ∷ done) (suc moment) stays = stays_at (apply s d.effect) done moment stays.1
