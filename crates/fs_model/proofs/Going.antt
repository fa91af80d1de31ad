-- Runs of allowed calls: each state on the way, and runs after each other.
use Rattle.std.proofs.Common.{◌≡◌, List, [], ◌∷◌, Option, sym, ◌∙◌, subst}
use Rattle.std.specs.List.{AllByRecursion}
use Rattle.std.proofs.lemmas.List.{append_cancel_right}
use Rattle.fs_model.specs.declared.effect.Effect.{Effect}
use Rattle.fs_model.specs.declared.error.FsError.{FsError}
use Rattle.fs_model.specs.State.{FsState}
use Rattle.fs_model.specs.Effects.{apply}
use Rattle.fs_model.specs.Calls.{Call, MayDo}
use Rattle.fs_model.specs.Trail.{Trail, Steps, Goes, stays, on, Since}
use Rattle.fs_model.proofs.Runs.{steps_since, none_since, since_then}

module _ (Allowed : FsState → Call → Type 0) where
  pub goes_one : (call : Call) (answer : Option FsError) (a b : Trail) → Allowed a.present call → Steps call answer a b → Goes Allowed a b
  goes_one call answer a b allowed steps = on stays call answer allowed steps

  pub goes_then : {a b c : Trail} → Goes Allowed a b → Goes Allowed b c → Goes Allowed a c
  goes_then front stays = front
  goes_then front (on back call answer allowed steps) = on (goes_then front back) call answer allowed steps

  -- what every allowed call keeps, every state has
  pub goes_since : (P : FsState → Type 0) → ((s : FsState) (call : Call) (answer : Option FsError) (effect : Effect) → P s → Allowed s call → MayDo s call answer effect → P (apply s effect)) → {a b : Trail} → P a.present → Goes Allowed a b → Since P a b
  goes_since P keeps {a} {b} holds stays = none_since P b holds
  goes_since P keeps holds (on {a} {b} {c} front call answer allowed steps) =
      let first = goes_since P keeps holds front in
      since_then P a b c first (steps_since P call answer b c first.present (λ effect may. keeps b.present call answer effect first.present allowed may) steps)

pub goes_weaker : (P Q : FsState → Call → Type 0) → ((s : FsState) (call : Call) → P s call → Q s call) → {a b : Trail} → Goes P a b → Goes Q a b
goes_weaker P Q weaker stays = stays
goes_weaker P Q weaker (on {a} {b} {c} front call answer allowed steps) = on (goes_weaker P Q weaker front) call answer (weaker b.present call allowed) steps

-- what has both, state by state
pub since_both : (P Q : FsState → Type 0) (a b : Trail) → Since P a b → Since Q a b → Since (λ s. P s × Q s) a b
since_both P Q a b p q =
    let same : q.added ≡ p.added = append_cancel_right q.added p.added (a.present ∷ a.past) (sym q.is ∙ p.is) in
    record {
      first = (p.first, q.first);
      added = p.added;
      is = p.is;
      each = both p.added p.each (subst (AllByRecursion Q) same q.each);
      present = (p.present, q.present);
    }
  where
    both : (states : List FsState) → AllByRecursion P states → AllByRecursion Q states → AllByRecursion (λ s. P s × Q s) states
    both [] ps qs = tt
    both (s ∷ states) ps qs = ((ps.0, qs.0), both states ps.1 qs.1)
