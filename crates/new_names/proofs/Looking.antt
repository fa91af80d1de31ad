-- A run that only reads.
use Rattle.std.proofs.Common.{◌≡◌, ◌∙◌, inl, List, [], ◌∷◌, ◌++◌, Option, Some, None, MatchOption, refl, sym, subst}
use Rattle.std.specs.List.{AllByRecursion}
use Rattle.fs_model.specs.declared.effect.Effect.TheVariants.{Nothing}
use Rattle.fs_model.specs.declared.error.FsError.{FsError}
use Rattle.fs_model.specs.declared.error.FsError.TheVariants.{Failed}
use Rattle.fs_model.specs.State.{FsState}
use Rattle.fs_model.specs.Calls.{Call, Stats, MayFail, refusal}
use Rattle.fs_model.specs.Trail.{Trail, Goes, stays, on, Unchanged}
use Rattle.new_names.specs.declared.names.NewName.{NewName}
use Rattle.new_names.specs.Frame.{MakesListed}

-- A run whose states are all one is that of as many looks at the root, which every table allows.
module _ (Allowed : FsState → Call → Type 0) (looks : (s : FsState) → Allowed s (Stats [])) (a : Trail) where
  -- the trail with these states added
  abbrev after : List FsState → Trail
  after [] = a
  after (s ∷ rest) = record { present = s; past = rest ++ a.present ∷ a.past }

  whole : (added : List FsState) → (after added).present ∷ (after added).past ≡ added ++ a.present ∷ a.past
  whole [] = refl
  whole (s ∷ rest) = refl

  still : (added : List FsState) → AllByRecursion (λ s. s ≡ a.present) added → (after added).present ≡ a.present
  still [] all = refl
  still (s ∷ rest) all = all.0

  looked : (s : FsState) (refused : Option FsError) → MatchOption refused (MayFail s (Stats []) Nothing) (λ _. Nothing ≡ Nothing)
  looked s None = inl refl
  looked s (Some error) = refl

  goes_after : (added : List FsState) → AllByRecursion (λ s. s ≡ a.present) added → Goes Allowed a (after added)
  goes_after [] all = stays
  goes_after (s ∷ rest) all =
      let before = after rest in
      on (goes_after rest all.1) (Stats []) (Some Failed) (looks before.present)
      (Nothing, looked before.present (refusal before.present (Stats [])), (λ i. record { present = (all.0 ∙ sym (still rest all.1)) i; past = sym (whole rest) i }))

  pub unchanged_goes : (b : Trail) → Unchanged a b → Goes Allowed a b
  unchanged_goes b unchanged =
      let same : b.present ∷ b.past ≡ (after unchanged.added).present ∷ (after unchanged.added).past = unchanged.is ∙ sym (whole unchanged.added) in
      let trail : (after unchanged.added) ≡ b = (λ i. record { present = sym (head_is same) i; past = sym (tail_is same) i }) in
      subst (Goes Allowed a) trail (goes_after unchanged.added unchanged.each)
    where
      head_is : {x y : FsState} {xs ys : List FsState} → x ∷ xs ≡ y ∷ ys → x ≡ y
      head_is e = cc e

      tail_is : {x y : FsState} {xs ys : List FsState} → x ∷ xs ≡ y ∷ ys → xs ≡ ys
      tail_is e = cc e

-- a run that only reads makes nothing
pub unchanged_listed : (listed : List NewName) (a b : Trail) → Unchanged a b → Goes (MakesListed listed a.present) a b
unchanged_listed listed a b unchanged = unchanged_goes (MakesListed listed a.present) (λ s. tt) a b unchanged
