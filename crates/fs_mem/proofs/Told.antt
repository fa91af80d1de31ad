-- The calls that a record tells, one by one.
use Rattle.std.proofs.Common.{◌≡◌, ℕ, zero, suc, length, take, List, [], ◌∷◌, ◌++◌, refl, sym, ◌∙◌, ap}
use Rattle.std.proofs.Math.Seq.{take-nil}
use Rattle.fs_model.specs.State.{FsState}
use Rattle.fs_model.specs.Effects.{apply}
use Rattle.fs_state.specs.Actions.{effect_in}
use Rattle.fs_mem.specs.declared.history.Recorded.{Recorded}
use Rattle.fs_mem.specs.History.{state_after}
use Rattle.fs_mem.specs.Records.{done_in, told_from}

abbrev after : FsState → Recorded → FsState
after s r = apply s (effect_in s r.action)

pub told_length : (s : FsState) (recorded : List Recorded) → length (told_from s recorded) ≡ length recorded
told_length s [] = refl
told_length s (r ∷ recorded) = ap suc (told_length (after s r) recorded)

pub told_take : (s : FsState) (recorded : List Recorded) (moment : ℕ) → told_from s (take moment recorded) ≡ take moment (told_from s recorded)
told_take s [] moment = ap (told_from s) (take-nil moment) ∙ sym (take-nil moment)
told_take s (r ∷ recorded) zero = refl
told_take s (r ∷ recorded) (suc moment) = ap (λ done. done_in s r ∷ done) (told_take (after s r) recorded moment)

-- a record more tells a call more, in the state that the others lead to
pub told_push : (s : FsState) (recorded : List Recorded) (r : Recorded) → told_from s (recorded ++ r ∷ []) ≡ told_from s recorded ++ done_in (state_after s (told_from s recorded)) r ∷ []
told_push s [] r = refl
told_push s (first ∷ recorded) r = ap (λ done. done_in s first ∷ done) (told_push (after s first) recorded r)
