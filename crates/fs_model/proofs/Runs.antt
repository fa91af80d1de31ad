-- Calls after each other: each state on the way.
use Rattle.std.proofs.Common.{◌≡◌, List, [], ◌∷◌, ◌++◌, Option, Some, None, Result, Ok, Err, refl, sym, ◌∙◌, ap, subst, append_assoc, MatchOption, inl, inr}
use Rattle.std.specs.List.{AllByRecursion}
use Rattle.fs_model.specs.declared.effect.Effect.{Effect}
use Rattle.fs_model.specs.declared.effect.Effect.TheVariants.{Nothing}
use Rattle.fs_model.specs.declared.error.FsError.{FsError}
use Rattle.fs_model.specs.declared.error.FsError.TheVariants.{NotFound, Exists, NotDir, WrongKind, NotEmpty, CrossDevice, CrossDir, Failed, OutOfMemory}
use Rattle.fs_model.specs.State.{FsState}
use Rattle.fs_model.specs.Effects.{apply}
use Rattle.fs_model.specs.Calls.{Call, Stats, Lists, ReadsAt, ReadsLink, MayDo, MayFail, Does, refusal}
use Rattle.fs_model.specs.Trail.{Trail, Steps, Since, Unchanged, DecidedBy, error_of, grown}

pub all_append : {A : Type 0} (P : A → Type 0) (xs ys : List A) → AllByRecursion P xs → AllByRecursion P ys → AllByRecursion P (xs ++ ys)
all_append P [] ys front back = back
all_append P (x ∷ xs) ys front back = (front.0, all_append P xs ys front.1 back)

pub all_weaker : {A : Type 0} (P Q : A → Type 0) → ((x : A) → P x → Q x) → (xs : List A) → AllByRecursion P xs → AllByRecursion Q xs
all_weaker P Q weaker [] all = tt
all_weaker P Q weaker (x ∷ xs) all = (weaker x all.0, all_weaker P Q weaker xs all.1)

module _ (P : FsState → Type 0) where
  pub none_since : (t : Trail) → P t.present → Since P t t
  none_since t holds = record { first = holds; added = []; is = refl; each = tt; present = holds }

  pub one_since : (t : Trail) (s : FsState) → P t.present → P s → Since P t (grown t s)
  one_since t s before holds = record { first = before; added = s ∷ []; is = refl; each = (holds, tt); present = holds }

  pub since_then : (a b c : Trail) → Since P a b → Since P b c → Since P a c
  since_then a b c front back = record {
    first = front.first;
    added = back.added ++ front.added;
    is = back.is ∙ ap (λ (l : List FsState). back.added ++ l) front.is ∙ sym (append_assoc back.added front.added (a.present ∷ a.past));
    each = all_append P back.added front.added back.each front.each;
    present = back.present;
  }

  -- a call goes on to a state that has P, whether it succeeds or fails
  pub steps_since : (call : Call) (answer : Option FsError) (old new : Trail) → P old.present → ((effect : Effect) → MayDo old.present call answer effect → P (apply old.present effect)) → Steps call answer old new → Since P old new
  steps_since call (Some OutOfMemory) old new here goes steps = subst (Since P old) (sym steps) (none_since old here)
  steps_since call None old new here goes (effect, may, is) = subst (Since P old) (sym is) (one_since old (apply old.present effect) here (goes effect may))
  steps_since call (Some error) old new here goes (effect, may, is) = subst (Since P old) (sym is) (one_since old (apply old.present effect) here (goes effect may))

pub since_weaker : (P Q : FsState → Type 0) → ((s : FsState) → P s → Q s) → (old new : Trail) → Since P old new → Since Q old new
since_weaker P Q weaker old new since = record {
  first = weaker old.present since.first;
  added = since.added;
  is = since.is;
  each = all_weaker P Q weaker since.added since.each;
  present = weaker new.present since.present;
}

-- the state after a call that succeeded
pub present_after : (call : Call) (old new : Trail) → Steps call None old new → (effect : Effect) × (refusal old.present call ≡ None) × Does old.present call effect × (new.present ≡ apply old.present effect)
present_after call old new (effect, may, is) = (effect, may.0, may.1, ap (λ trail. trail.present) is)

-- the calls that only read
abbrev pub IsReading : Call → Type 0
IsReading (Stats path) = Unit {0}
IsReading (Lists path) = Unit {0}
IsReading (ReadsAt path) = Unit {0}
IsReading (ReadsLink path) = Unit {0}
IsReading call = ⊥

reads_nothing : (s : FsState) (call : Call) (effect : Effect) → IsReading call → Does s call effect → effect ≡ Nothing
reads_nothing s (Stats path) effect reading does = does
reads_nothing s (Lists path) effect reading does = does
reads_nothing s (ReadsAt path) effect reading does = does
reads_nothing s (ReadsLink path) effect reading does = does
reads_nothing s call effect reading does = absurd reading

fails_nothing : (s : FsState) (call : Call) (effect : Effect) → IsReading call → MayFail s call effect → effect ≡ Nothing
fails_nothing s (Stats path) effect reading fails = elim fails [ inl is ↦ is | inr is ↦ is ]
fails_nothing s (Lists path) effect reading fails = elim fails [ inl is ↦ is | inr is ↦ is ]
fails_nothing s (ReadsAt path) effect reading fails = elim fails [ inl is ↦ is | inr is ↦ is ]
fails_nothing s (ReadsLink path) effect reading fails = elim fails [ inl is ↦ is | inr is ↦ is ]
fails_nothing s call effect reading fails = absurd reading

failed_nothing : (s : FsState) (call : Call) (effect : Effect) (refused : Option FsError) → IsReading call → MatchOption refused (MayFail s call effect) (λ _. effect ≡ Nothing) → effect ≡ Nothing
failed_nothing s call effect None reading may = fails_nothing s call effect reading may
failed_nothing s call effect (Some error) reading may = may

-- a call that only reads leaves the state, whatever it answers
pub reading_leaves : (s : FsState) (call : Call) (answer : Option FsError) (effect : Effect) → IsReading call → MayDo s call answer effect → apply s effect ≡ s
reading_leaves s call None effect reading may = ap (apply s) (reads_nothing s call effect reading may.1)
reading_leaves s call (Some Failed) effect reading may = ap (apply s) (failed_nothing s call effect (refusal s call) reading may)
reading_leaves s call (Some error) effect reading may = ap (apply s) may.1

-- a reading call adds no state but the one that was
pub reading_since : (call : Call) (answer : Option FsError) (old new : Trail) → IsReading call → Steps call answer old new → Unchanged old new
reading_since call answer old new reading steps =
    steps_since (λ s. s ≡ old.present) call answer old new refl (λ effect may. reading_leaves old.present call answer effect reading may) steps

-- and so the state after it is the one before
pub reading_present : (call : Call) (answer : Option FsError) (old new : Trail) → IsReading call → Steps call answer old new → new.present ≡ old.present
reading_present call answer old new reading steps = (reading_since call answer old new reading steps).present

-- runs that change nothing, after each other
pub unchanged_then : (a b c : Trail) → Unchanged a b → Unchanged b c → Unchanged a c
unchanged_then a b c front back = since_then (λ s. s ≡ a.present) a b c front (since_weaker (λ s. s ≡ b.present) (λ s. s ≡ a.present) (λ s e. e ∙ front.present) b c back)

-- what a call answers is decided by its refusal
pub steps_decided : {T : Type 0} (call : Call) (result : Result T FsError) (old new : Trail) → Steps call (error_of result) old new → DecidedBy (refusal old.present call) result
steps_decided call (Ok value) old new steps = steps.1.0
steps_decided call (Err Failed) old new steps = tt
steps_decided call (Err OutOfMemory) old new steps = tt
steps_decided call (Err NotFound) old new steps = steps.1.0
steps_decided call (Err Exists) old new steps = steps.1.0
steps_decided call (Err NotDir) old new steps = steps.1.0
steps_decided call (Err WrongKind) old new steps = steps.1.0
steps_decided call (Err NotEmpty) old new steps = steps.1.0
steps_decided call (Err CrossDevice) old new steps = steps.1.0
steps_decided call (Err CrossDir) old new steps = steps.1.0
