-- Runs that carry files into directories: what each state on the way has.
use Rattle.std.proofs.Common.{◌≡◌, ◌++◌, ◌∙◌, ℕ, inl, inr, List, [], ◌∷◌, Option, Some, None, MatchOption, refl, sym, ap, subst, append_assoc}
use Rattle.std.specs.Prelude.{is_some}
use Rattle.std.specs.FinMap.{get}
use Rattle.fs_model.specs.declared.node.Node.{Node}
use Rattle.fs_model.specs.declared.node.Node.TheVariants.{File}
use Rattle.fs_model.specs.declared.effect.Effect.{Effect}
use Rattle.fs_model.specs.declared.effect.Effect.TheVariants.{Nothing, NewFile}
use Rattle.fs_model.specs.declared.error.FsError.{FsError}
use Rattle.fs_model.specs.declared.error.FsError.TheVariants.{Failed}
use Rattle.fs_model.specs.Names.{Path}
use Rattle.fs_model.specs.State.{Change, FsState}
use Rattle.fs_model.specs.Effects.{apply, with_bytes, with_change}
use Rattle.fs_model.specs.Calls.{Call, Stats, Lists, ReadsAt, Creates, WritesAt, Unlinks, MayDo, MayFail, Does, refusal}
use Rattle.fs_model.specs.WellFormed.{EachPair}
use Rattle.fs_model.specs.Trail.{Trail, Goes, stays, Since}
use Rattle.fs_model.proofs.Lookups.{set_name_other, insert_other}
use Rattle.fs_model.proofs.Runs.{all_append}
use Rattle.fs_model.proofs.Going.{goes_then, goes_since, goes_weaker}
use Rattle.crash_safety.specs.Frame.{IsInside}
use Rattle.crash_safety.specs.Calling.{MakesWithin}
use Rattle.crash_safety.specs.Upgrade.{Upgrade, IsReady}
use Rattle.crash_safety.specs.Sound.{Stage, Moving, Sound}
use Rattle.crash_safety.proofs.Going.{goes_sound}
use Rattle.fs_tools.specs.Children.{IsIn}
use Rattle.fs_tools.specs.Cleared.{Clears}
use Rattle.fs_tools.specs.Copied.{Copies}
use Rattle.status_transfer.specs.Carried.{IsInOne, CarriesInto, ChangesOnlyIn}

append-nil : (changes : List Change) → changes ++ [] ≡ changes
append-nil [] = refl
append-nil (change ∷ changes) = ap (λ rest. change ∷ rest) (append-nil changes)

module _ (dirs : List Path) (a : FsState) where
  pub keeps_itself : ChangesOnlyIn dirs a a
  keeps_itself = record {
    names = λ path outside. refl;
    bytes = λ inode some. refl;
    names_kept = refl;
    bytes_kept = refl;
    devices = refl;
    added = [];
    pending = sym (append-nil a.pending);
    inside = tt;
  }

  -- an inode that s has not, a had not
  pub none_before : (s : FsState) → ChangesOnlyIn dirs a s → (inode : ℕ) → get s.bytes inode ≡ None → get a.bytes inode ≡ None
  none_before s keeps inode none =
      elim (get a.bytes inode) as (λ o. get a.bytes inode ≡ o → o ≡ None) [
        | None ↦ λ _. refl
        | Some bytes ↦ λ e. (let same = keeps.bytes inode (ap is_some e) in absurd (cc (same, none, e)))
      ] refl

  pub keeps_name : (s : FsState) (path : Path) (what : Option Node) → IsInOne dirs path → ChangesOnlyIn dirs a s → ChangesOnlyIn dirs a (with_change s ((path, what) ∷ []))
  keeps_name s path what within keeps = record {
    names = λ q outside. set_name_other s.names path what q (λ same. outside (subst (IsInOne dirs) (sym same) within)) ∙ keeps.names q outside;
    bytes = keeps.bytes;
    names_kept = keeps.names_kept;
    bytes_kept = keeps.bytes_kept;
    devices = keeps.devices;
    added = keeps.added ++ ((path, what) ∷ []) ∷ [];
    pending = ap (λ changes. changes ++ ((path, what) ∷ []) ∷ []) keeps.pending ∙ append_assoc a.pending keeps.added (((path, what) ∷ []) ∷ []);
    inside = all_append (EachPair (λ q _. IsInOne dirs q)) keeps.added (((path, what) ∷ []) ∷ []) keeps.inside ((within, tt), tt);
  }

  pub keeps_bytes : (s : FsState) (inode : ℕ) (any : List ℕ) → get a.bytes inode ≡ None → ChangesOnlyIn dirs a s → ChangesOnlyIn dirs a (with_bytes s inode any)
  keeps_bytes s inode any none keeps = record {
    names = keeps.names;
    bytes = λ other some. insert_other s.bytes inode any other (λ same. (let e : get a.bytes other ≡ None = ap (get a.bytes) same ∙ none in let no = ap is_some e in cc (some, no))) ∙ keeps.bytes other some;
    names_kept = keeps.names_kept;
    bytes_kept = keeps.bytes_kept;
    devices = keeps.devices;
    added = keeps.added;
    pending = keeps.pending;
    inside = keeps.inside;
  }

-- what a run keeps whose calls it keeps: names that go, new files, and writes to files that a had not
module _ (dirs : List Path) (a s : FsState) (P : FsState → Type 0) (now : P s) (gone : (path : Path) → IsInOne dirs path → P (with_change s ((path, None) ∷ [])))
    (made : (path : Path) (inode : ℕ) → IsInOne dirs path → get s.bytes inode ≡ None → P (apply s (NewFile path inode)))
    (written : (inode : ℕ) (bytes : List ℕ) → get a.bytes inode ≡ None → P (with_bytes s inode bytes)) where
  at_effect : (effect is : Effect) → effect ≡ is → P (apply s is) → P (apply s effect)
  at_effect effect is same holds = subst (λ e. P (apply s e)) (sym same) holds

  does : (call : Call) (effect : Effect) → CarriesInto dirs a s call → Does s call effect → P (apply s effect)
  does (Stats path) effect allowed is = at_effect effect Nothing is now
  does (Lists path) effect allowed is = at_effect effect Nothing is now
  does (ReadsAt path) effect allowed is = at_effect effect Nothing is now
  does (Unlinks path) effect allowed is = at_effect effect _ is (gone path allowed)
  does (Creates path) effect allowed (inode, none, is) = at_effect effect _ is (made path inode allowed none)
  does (WritesAt path from bytes) effect allowed (inode, named, is) = at_effect effect _ is (written inode _ (allowed.1 inode named))
  does call effect allowed is = absurd allowed

  fails : (call : Call) (effect : Effect) → CarriesInto dirs a s call → MayFail s call effect → P (apply s effect)
  fails (WritesAt path from bytes) effect allowed (inode, any, named, are_bytes, is) = at_effect effect _ is (written inode any (allowed.1 inode named))
  fails call effect allowed may = elim may [ inl nothing ↦ at_effect effect Nothing nothing now | inr is ↦ does call effect allowed is ]

  refused : (call : Call) (effect : Effect) (found : Option FsError) → CarriesInto dirs a s call → MatchOption found (MayFail s call effect) (λ _. effect ≡ Nothing) → P (apply s effect)
  refused call effect None allowed may = fails call effect allowed may
  refused call effect (Some error) allowed may = at_effect effect Nothing may now

  pub each : (call : Call) (answer : Option FsError) (effect : Effect) → CarriesInto dirs a s call → MayDo s call answer effect → P (apply s effect)
  each call None effect allowed may = does call effect allowed may.1
  each call (Some Failed) effect allowed may = refused call effect (refusal s call) allowed may
  each call (Some error) effect allowed may = at_effect effect Nothing may.1 now

module _ (dirs : List Path) (a s : FsState) (keeps : ChangesOnlyIn dirs a s) where
  made_keeps : (path : Path) (inode : ℕ) → IsInOne dirs path → get s.bytes inode ≡ None → ChangesOnlyIn dirs a (apply s (NewFile path inode))
  made_keeps path inode within none = keeps_bytes dirs a (with_change s ((path, Some (File inode)) ∷ [])) inode [] (none_before dirs a s keeps inode none) (keeps_name dirs a s path (Some (File inode)) within keeps)

  pub each_keeps : (call : Call) (answer : Option FsError) (effect : Effect) → CarriesInto dirs a s call → MayDo s call answer effect → ChangesOnlyIn dirs a (apply s effect)
  each_keeps call answer effect allowed may =
      each dirs a s (ChangesOnlyIn dirs a) keeps (λ path within. keeps_name dirs a s path None within keeps) made_keeps (λ inode bytes none. keeps_bytes dirs a s inode bytes none keeps) call answer effect allowed may

pub carries_since : (dirs : List Path) (a b : Trail) → Goes (CarriesInto dirs a.present) a b → Since (ChangesOnlyIn dirs a.present) a b
carries_since dirs a b goes =
    goes_since (CarriesInto dirs a.present) (ChangesOnlyIn dirs a.present) (λ s call answer effect keeps allowed may. each_keeps dirs a.present s keeps call answer effect allowed may) (keeps_itself dirs a.present) goes

-- two runs after each other, of which the second speaks of its own beginning
module _ (dirs inner : List Path) (within : (path : Path) → IsInOne inner path → IsInOne dirs path) where
  rebased : (a b s : FsState) (call : Call) → ChangesOnlyIn dirs a b → CarriesInto inner b s call → CarriesInto dirs a s call
  rebased a b s (Stats path) keeps allowed = tt
  rebased a b s (Lists path) keeps allowed = tt
  rebased a b s (ReadsAt path) keeps allowed = tt
  rebased a b s (Unlinks path) keeps allowed = within path allowed
  rebased a b s (Creates path) keeps allowed = within path allowed
  rebased a b s (WritesAt path from bytes) keeps allowed = (within path allowed.0, λ inode named. none_before dirs a b keeps inode (allowed.1 inode named))
  rebased a b s call keeps allowed = absurd allowed

  pub carries_joined : (a b c : Trail) → Goes (CarriesInto dirs a.present) a b → Goes (CarriesInto inner b.present) b c → Goes (CarriesInto dirs a.present) a c
  carries_joined a b c front back =
      let keeps = (carries_since dirs a b front).present in
      goes_then (CarriesInto dirs a.present) front (goes_weaker (CarriesInto inner b.present) (CarriesInto dirs a.present) (λ s call allowed. rebased a.present b.present s call keeps allowed) back)

  -- a run on some directories is one on more
  pub carries_more : (a b : Trail) → Goes (CarriesInto inner a.present) a b → Goes (CarriesInto dirs a.present) a b
  carries_more a b goes = carries_joined a a b stays goes

pub in_first : (dir : Path) (dirs : List Path) (path : Path) → IsInOne (dir ∷ []) path → IsInOne (dir ∷ dirs) path
in_first dir dirs path (inl within) = inl within
in_first dir dirs path (inr none) = absurd none

pub in_rest : (dir : Path) (dirs : List Path) (path : Path) → IsInOne dirs path → IsInOne (dir ∷ dirs) path
in_rest dir dirs path within = inr within

-- clearing a directory, and copying a file into it, are such runs
pub clears_carry : (at : Path) (a s : FsState) (call : Call) → Clears at s call → CarriesInto (at ∷ []) a s call
clears_carry at a s (Lists path) allowed = tt
clears_carry at a s (Unlinks path) allowed = inl allowed
clears_carry at a s call allowed = absurd allowed

pub copies_carry : (dir from to : Path) → IsIn dir to → (a s : FsState) (call : Call) → Copies from to a s call → CarriesInto (dir ∷ []) a s call
copies_carry dir from to within a s (Stats path) allowed = tt
copies_carry dir from to within a s (ReadsAt path) allowed = tt
copies_carry dir from to within a s (Creates path) allowed = inl (subst (IsIn dir) (sym allowed) within)
copies_carry dir from to within a s (WritesAt path at bytes) allowed = (inl (subst (IsIn dir) (sym allowed.0) within), allowed.1)
copies_carry dir from to within a s call allowed = absurd allowed

pub in_inside : (dirs : List Path) (path : Path) → IsInOne dirs path → IsInside dirs path
in_inside [] path none = absurd none
in_inside (dir ∷ dirs) path (inl (name, is)) = inl (name ∷ [], is)
in_inside (dir ∷ dirs) path (inr within) = inr (in_inside dirs path within)

-- they keep within the directories
pub carries_within : (dirs : List Path) (a s : FsState) (call : Call) → CarriesInto dirs a s call → MakesWithin dirs a s call
carries_within dirs a s (Stats path) allowed = (tt, tt)
carries_within dirs a s (Lists path) allowed = (tt, tt)
carries_within dirs a s (ReadsAt path) allowed = (tt, tt)
carries_within dirs a s (Unlinks path) allowed = (in_inside dirs path allowed, tt)
carries_within dirs a s (Creates path) allowed = (in_inside dirs path allowed, tt)
carries_within dirs a s (WritesAt path from bytes) allowed = (allowed.1, tt)
carries_within dirs a s call allowed = absurd allowed

-- and keep an upgrade sound, where these are directories of the new cluster
pub carries_sound : (u : Upgrade) → IsReady u → (stage : Stage) (dirs : List Path) → ((path : Path) → IsInside dirs path → IsInside u.new_tops path) → (stage ≡ Moving → ⊥) → (a b : Trail) → Sound u stage a.present → Goes (CarriesInto dirs a.present) a b → Since (Sound u stage) a b
carries_sound u ready stage dirs inside still a b sound goes =
    goes_sound u ready stage dirs inside still a b sound (goes_weaker (CarriesInto dirs a.present) (MakesWithin dirs a.present) (carries_within dirs a.present) goes)
