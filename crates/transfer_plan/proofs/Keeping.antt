-- Runs that change some names alone: what each state on the way has.
use Rattle.std.proofs.Common.{◌≡◌, ◌≢◌, ◌++◌, ◌∙◌, ℕ, true, inl, inr, List, [], ◌∷◌, Option, Some, None, MatchOption, refl, sym, ap, subst, append_assoc}
use Rattle.std.specs.Prelude.{is_some}
use Rattle.std.specs.FinMap.{get}
use Rattle.fs_model.specs.declared.node.Node.{Node}
use Rattle.fs_model.specs.declared.node.Node.TheVariants.{File}
use Rattle.fs_model.specs.declared.effect.Effect.{Effect}
use Rattle.fs_model.specs.declared.effect.Effect.TheVariants.{Nothing}
use Rattle.fs_model.specs.declared.error.FsError.{FsError}
use Rattle.fs_model.specs.declared.error.FsError.TheVariants.{Failed}
use Rattle.fs_model.specs.Names.{Path}
use Rattle.fs_model.specs.State.{Change, FsState}
use Rattle.fs_model.specs.Effects.{apply, with_bytes, with_change}
use Rattle.fs_model.specs.Calls.{Call, Stats, ReadsAt, Creates, WritesAt, Links, Unlinks, MayDo, MayFail, Does, refusal}
use Rattle.fs_model.specs.WellFormed.{EachPair}
use Rattle.fs_model.specs.Trail.{Trail, Goes, Since}
use Rattle.fs_model.proofs.Lookups.{set_name_other, insert_other}
use Rattle.fs_model.proofs.Runs.{all_append}
use Rattle.fs_model.proofs.Going.{goes_then, goes_since, goes_weaker}
use Rattle.crash_safety.specs.Frame.{IsInside}
use Rattle.crash_safety.specs.Synced.{IsOneOf}
use Rattle.transfer_plan.specs.Changed.{ChangesOnlyAt, TransfersTo}

append-nil : (changes : List Change) → changes ++ [] ≡ changes
append-nil [] = refl
append-nil (change ∷ changes) = ap (λ rest. change ∷ rest) (append-nil changes)

module _ (paths : List Path) (a : FsState) where
  pub keeps_itself : ChangesOnlyAt paths a a
  keeps_itself = record {
    names = λ path outside. refl;
    bytes = λ inode some. refl;
    dirty = λ inode some. refl;
    names_kept = refl;
    bytes_kept = refl;
    devices = refl;
    added = [];
    pending = sym (append-nil a.pending);
    inside = tt;
  }

  -- an inode that s has not, a had not
  pub none_before : (s : FsState) → ChangesOnlyAt paths a s → (inode : ℕ) → get s.bytes inode ≡ None → get a.bytes inode ≡ None
  none_before s keeps inode none =
      elim (get a.bytes inode) as (λ o. get a.bytes inode ≡ o → o ≡ None) [
        | None ↦ λ _. refl
        | Some bytes ↦ λ e. (let same = keeps.bytes inode (ap is_some e) in absurd (cc (same, none, e)))
      ] refl

  pub keeps_name : (s : FsState) (path : Path) (what : Option Node) → IsOneOf paths path → ChangesOnlyAt paths a s → ChangesOnlyAt paths a (with_change s ((path, what) ∷ []))
  keeps_name s path what one keeps = record {
    names = λ q outside. set_name_other s.names path what q (λ same. outside (subst (IsOneOf paths) (sym same) one)) ∙ keeps.names q outside;
    bytes = keeps.bytes;
    dirty = keeps.dirty;
    names_kept = keeps.names_kept;
    bytes_kept = keeps.bytes_kept;
    devices = keeps.devices;
    added = keeps.added ++ ((path, what) ∷ []) ∷ [];
    pending = ap (λ changes. changes ++ ((path, what) ∷ []) ∷ []) keeps.pending ∙ append_assoc a.pending keeps.added (((path, what) ∷ []) ∷ []);
    inside = all_append (EachPair (λ q _. IsOneOf paths q)) keeps.added (((path, what) ∷ []) ∷ []) keeps.inside ((one, tt), tt);
  }

  no_inode : (inode other : ℕ) → get a.bytes inode ≡ None → is_some (get a.bytes other) ≡ true → other ≢ inode
  no_inode inode other none some same =
      let e : get a.bytes other ≡ None = ap (get a.bytes) same ∙ none in
      let no = ap is_some e in
      cc (some, no)

  pub keeps_bytes : (s : FsState) (inode : ℕ) (any : List ℕ) → get a.bytes inode ≡ None → ChangesOnlyAt paths a s → ChangesOnlyAt paths a (with_bytes s inode any)
  keeps_bytes s inode any none keeps = record {
    names = keeps.names;
    bytes = λ other some. insert_other s.bytes inode any other (no_inode inode other none some) ∙ keeps.bytes other some;
    dirty = λ other some. insert_other s.dirty inode tt other (no_inode inode other none some) ∙ keeps.dirty other some;
    names_kept = keeps.names_kept;
    bytes_kept = keeps.bytes_kept;
    devices = keeps.devices;
    added = keeps.added;
    pending = keeps.pending;
    inside = keeps.inside;
  }

  module _ (s : FsState) (keeps : ChangesOnlyAt paths a s) where
    at_effect : (effect is : Effect) → effect ≡ is → ChangesOnlyAt paths a (apply s is) → ChangesOnlyAt paths a (apply s effect)
    at_effect effect is same holds = subst (λ e. ChangesOnlyAt paths a (apply s e)) (sym same) holds

    does : (call : Call) (effect : Effect) → TransfersTo paths a s call → Does s call effect → ChangesOnlyAt paths a (apply s effect)
    does (Stats path) effect allowed is = at_effect effect Nothing is keeps
    does (ReadsAt path) effect allowed is = at_effect effect Nothing is keeps
    does (Unlinks path) effect allowed is = at_effect effect _ is (keeps_name s path None allowed keeps)
    does (Creates path) effect allowed (inode, none, is) =
        at_effect effect _ is (keeps_bytes (with_change s ((path, Some (File inode)) ∷ [])) inode [] (none_before s keeps inode none) (keeps_name s path (Some (File inode)) allowed keeps))
    does (WritesAt path from bytes) effect allowed (inode, named, is) = at_effect effect _ is (keeps_bytes s inode _ (allowed.1 inode named) keeps)
    does (Links from to) effect allowed (inode, named, is) = at_effect effect _ is (keeps_name s to (Some (File inode)) allowed keeps)
    does call effect allowed is = absurd allowed

    fails : (call : Call) (effect : Effect) → TransfersTo paths a s call → MayFail s call effect → ChangesOnlyAt paths a (apply s effect)
    fails (WritesAt path from bytes) effect allowed (inode, any, named, are_bytes, is) = at_effect effect _ is (keeps_bytes s inode any (allowed.1 inode named) keeps)
    fails call effect allowed may = elim may [ inl nothing ↦ at_effect effect Nothing nothing keeps | inr is ↦ does call effect allowed is ]

    refused : (call : Call) (effect : Effect) (found : Option FsError) → TransfersTo paths a s call → MatchOption found (MayFail s call effect) (λ _. effect ≡ Nothing) → ChangesOnlyAt paths a (apply s effect)
    refused call effect None allowed may = fails call effect allowed may
    refused call effect (Some error) allowed may = at_effect effect Nothing may keeps

    each : (call : Call) (answer : Option FsError) (effect : Effect) → TransfersTo paths a s call → MayDo s call answer effect → ChangesOnlyAt paths a (apply s effect)
    each call None effect allowed may = does call effect allowed may.1
    each call (Some Failed) effect allowed may = refused call effect (refusal s call) allowed may
    each call (Some error) effect allowed may = at_effect effect Nothing may.1 keeps

pub transfers_since : (paths : List Path) (a b : Trail) → Goes (TransfersTo paths a.present) a b → Since (ChangesOnlyAt paths a.present) a b
transfers_since paths a b goes =
    goes_since (TransfersTo paths a.present) (ChangesOnlyAt paths a.present) (λ s call answer effect keeps allowed may. each paths a.present s keeps call answer effect allowed may) (keeps_itself paths a.present) goes

-- two runs after each other, of which the second speaks of its own beginning
module _ (paths inner : List Path) (within : (path : Path) → IsOneOf inner path → IsOneOf paths path) where
  pub rebased : (a b s : FsState) (call : Call) → ChangesOnlyAt paths a b → TransfersTo inner b s call → TransfersTo paths a s call
  rebased a b s (Stats path) keeps allowed = tt
  rebased a b s (ReadsAt path) keeps allowed = tt
  rebased a b s (Unlinks path) keeps allowed = within path allowed
  rebased a b s (Creates path) keeps allowed = within path allowed
  rebased a b s (WritesAt path from bytes) keeps allowed = (within path allowed.0, λ inode named. none_before paths a b keeps inode (allowed.1 inode named))
  rebased a b s (Links from to) keeps allowed = within to allowed
  rebased a b s call keeps allowed = absurd allowed

  pub transfers_joined : (a b c : Trail) → Goes (TransfersTo paths a.present) a b → Goes (TransfersTo inner b.present) b c → Goes (TransfersTo paths a.present) a c
  transfers_joined a b c front back =
      let keeps = (transfers_since paths a b front).present in
      goes_then (TransfersTo paths a.present) front (goes_weaker (TransfersTo inner b.present) (TransfersTo paths a.present) (λ s call allowed. rebased a.present b.present s call keeps allowed) back)

-- each of these names is inside them
pub one_inside : (paths : List Path) (path : Path) → IsOneOf paths path → IsInside paths path
one_inside [] path none = absurd none
one_inside (first ∷ paths) path (inl same) = inl ([], same ∙ sym (append-nil first))
  where
    append-nil : (p : Path) → p ++ [] ≡ p
    append-nil [] = refl
    append-nil (name ∷ p) = ap (λ rest. name ∷ rest) (append-nil p)
one_inside (first ∷ paths) path (inr one) = inr (one_inside paths path one)

-- what is inside names that are inside is inside
pub inside_inside : (tops paths : List Path) → ((path : Path) → IsOneOf paths path → IsInside tops path) → (path : Path) → IsInside paths path → IsInside tops path
inside_inside tops [] inside path none = absurd none
inside_inside tops (first ∷ paths) inside path (inl (rest, is)) = below tops (inside first (inl refl))
  where
    below : (tops : List Path) → IsInside tops first → IsInside tops path
    below [] none = absurd none
    below (top ∷ tops) (inl (more, under)) = inl (more ++ rest, is ∙ ap (λ p. p ++ rest) under ∙ append_assoc top more rest)
    below (top ∷ tops) (inr in_it) = inr (below tops in_it)
inside_inside tops (first ∷ paths) inside path (inr in_it) = inside_inside tops paths (λ p one. inside p (inr one)) path in_it
