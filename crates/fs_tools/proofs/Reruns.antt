-- A run that changed no state is a run of calls that only look.
use Rattle.std.proofs.Common.{◌≡◌, List, [], ◌∷◌, ◌++◌, Option, Some, None, refl, sym, ◌∙◌, subst, MatchOption, inl}
use Rattle.std.specs.List.{AllByRecursion}
use Rattle.fs_model.specs.declared.effect.Effect.TheVariants.{Nothing}
use Rattle.fs_model.specs.declared.error.FsError.{FsError}
use Rattle.fs_model.specs.declared.error.FsError.TheVariants.{Failed}
use Rattle.fs_model.specs.Names.{Path}
use Rattle.fs_model.specs.State.{FsState}
use Rattle.fs_model.specs.Calls.{Call, Stats, Lists, MayFail, MayDo, refusal}
use Rattle.fs_model.specs.Trail.{Trail, Goes, stays, on, Unchanged, grown}

-- a call that only looks may fail with no effect
pub stat_may_fail : (path : Path) (s : FsState) → MayDo s (Stats path) (Some Failed) Nothing
stat_may_fail path s = of (refusal s (Stats path))
  where
    of : (refused : Option FsError) → MatchOption refused (MayFail s (Stats path) Nothing) (λ _. Nothing ≡ Nothing)
    of None = inl refl
    of (Some error) = refl

pub list_may_fail : (path : Path) (s : FsState) → MayDo s (Lists path) (Some Failed) Nothing
list_may_fail path s = of (refusal s (Lists path))
  where
    of : (refused : Option FsError) → MatchOption refused (MayFail s (Lists path) Nothing) (λ _. Nothing ≡ Nothing)
    of None = inl refl
    of (Some error) = refl

-- the trail before the states that were added
abbrev before : List FsState → Trail → Trail
before [] a = a
before (s ∷ added) a = record { present = s; past = added ++ a.present ∷ a.past }

module _ (Allowed : FsState → Call → Type 0) (call : Call) (allowed : (s : FsState) → Allowed s call) (may_fail : (s : FsState) → MayDo s call (Some Failed) Nothing) where
  goes_added : (a : Trail) (added : List FsState) → AllByRecursion (λ s. s ≡ a.present) added → Goes Allowed a (before added a) × ((before added a).present ≡ a.present)
  goes_added a [] each = (stays, refl)
  goes_added a (s ∷ added) each =
      let (goes, same) = goes_added a added each.1 in
      (on goes call (Some Failed) (allowed (before added a).present) (Nothing, may_fail (before added a).present, step added s (each.0 ∙ sym same)), each.0)
    where
      step : (added : List FsState) (s : FsState) → s ≡ (before added a).present → ◌≡◌ {A = Trail} (before (s ∷ added) a) (grown (before added a) (before added a).present)
      step [] s same = λ i. record { present = same i; past = a.present ∷ a.past }
      step (t ∷ added) s same = λ i. record { present = same i; past = t ∷ (added ++ a.present ∷ a.past) }

  whole : (a b : Trail) (added : List FsState) → ◌≡◌ {A = List FsState} (b.present ∷ b.past) (added ++ a.present ∷ a.past) → b ≡ before added a
  whole a b [] is =
      let present : b.present ≡ a.present = cc in
      let past : ◌≡◌ {A = List FsState} b.past a.past = cc in
      λ i. record { present = present i; past = past i }
  whole a b (s ∷ added) is =
      let present : b.present ≡ s = cc in
      let past : ◌≡◌ {A = List FsState} b.past (added ++ a.present ∷ a.past) = cc in
      λ i. record { present = present i; past = past i }

  pub unchanged_goes : (a b : Trail) → Unchanged a b → Goes Allowed a b
  unchanged_goes a b unchanged = subst (Goes Allowed a) (sym (whole a b unchanged.added unchanged.is)) (goes_added a unchanged.added unchanged.each).0
