-- Runs of which something, once it holds, holds to the end.
use Rattle.std.proofs.Common.{◌≡◌, true, List, [], ◌∷◌, ◌++◌, Option, Some, None, sym, ◌∙◌, ap, subst, append_assoc}
use Rattle.std.specs.List.{AllByRecursion}
use Rattle.std.specs.FinMap.{get}
use Rattle.fs_model.specs.declared.error.FsError.{FsError}
use Rattle.fs_model.specs.declared.error.FsError.TheVariants.{OutOfMemory}
use Rattle.fs_model.specs.Names.{parent}
use Rattle.fs_model.specs.State.{FsState}
use Rattle.fs_model.specs.Effects.{apply}
use Rattle.fs_model.specs.Calls.{Call, Renames, SyncsDir}
use Rattle.fs_model.specs.Trail.{Trail, Steps, Since}
use Rattle.fs_model.proofs.Runs.{all_append, all_weaker, since_weaker}
use Rattle.crash_safety.specs.Lasting.{Persists, Lasts}
use Rattle.crash_safety.specs.Upgrade.{Upgrade, IsReady}
use Rattle.crash_safety.specs.Sound.{Whole, Moving, Moved, Sound}
use Rattle.crash_safety.proofs.Renamed.{control_file, control_gone}

module _ (P : FsState → Type 0) where
  all_persist : (states : List FsState) → AllByRecursion P states → Persists P states
  all_persist [] all = tt
  all_persist (s ∷ states) all = (all_weaker P (λ t. P t → P s) (λ t _ _. all.0) states all.1, all_persist states all.1)

  none_persist : (states : List FsState) → AllByRecursion (λ s. P s → ⊥) states → Persists P states
  none_persist [] all = tt
  none_persist (s ∷ states) all = (all_weaker (λ t. P t → ⊥) (λ t. P t → P s) (λ t never has. absurd (never has)) states all.1, none_persist states all.1)

  pub always_lasts : (old new : Trail) → Since P old new → Lasts P old new
  always_lasts old new since = record { added = since.added; is = since.is; each = all_persist (since.added ++ old.present ∷ []) (all_append P since.added (old.present ∷ []) since.each (since.first, tt)) }

  pub never_lasts : (old new : Trail) → Since (λ s. P s → ⊥) old new → Lasts P old new
  never_lasts old new since = record { added = since.added; is = since.is; each = none_persist (since.added ++ old.present ∷ []) (all_append (λ s. P s → ⊥) since.added (old.present ∷ []) since.each (since.first, tt)) }

  -- one call, where it didn't hold before
  pub step_lasts : (call : Call) (answer : Option FsError) (old new : Trail) → (P old.present → ⊥) → Steps call answer old new → Lasts P old new
  step_lasts call (Some OutOfMemory) old new never steps = record { added = []; is = ap (λ (t : Trail). t.present ∷ t.past) steps; each = (tt, tt) }
  step_lasts call None old new never (effect, may, is) =
      record { added = apply old.present effect ∷ []; is = ap (λ (t : Trail). t.present ∷ t.past) is; each = (((λ has. absurd (never has)), tt), (tt, tt)) }
  step_lasts call (Some error) old new never (effect, may, is) =
      record { added = apply old.present effect ∷ []; is = ap (λ (t : Trail). t.present ∷ t.past) is; each = (((λ has. absurd (never has)), tt), (tt, tt)) }

  -- the front of a list, and what stands behind it
  front_all : (Q : FsState → Type 0) (xs : List FsState) (b : FsState) → AllByRecursion Q (xs ++ b ∷ []) → AllByRecursion Q xs × Q b
  front_all Q [] b all = (tt, all.0)
  front_all Q (x ∷ xs) b all = let (front, last) = front_all Q xs b all.1 in ((all.0, front), last)

  joined : (back : List FsState) (b : FsState) (front : List FsState) → Persists P (back ++ b ∷ []) → Persists P (b ∷ front) → Persists P (back ++ b ∷ front)
  joined [] b front one two = two
  joined (s ∷ back) b front one two =
      let (here, last) = front_all (λ t. P t → P s) back b one.0 in (
        all_append (λ t. P t → P s) back (b ∷ front) here (last, all_weaker (λ t. P t → P b) (λ t. P t → P s) (λ t gives has. last (gives has)) front two.0),
        joined back b front one.1 two,
      )

  -- the list of one run begins with its present state
  begins : (added : List FsState) (a b : Trail) → ◌≡◌ {A = List FsState} (b.present ∷ b.past) (added ++ a.present ∷ a.past) → (rest : List FsState) × (added ++ a.present ∷ [] ≡ b.present ∷ rest)
  begins [] a b is = ([], ap (λ s. s ∷ []) (head_of is))
    where
      head_of : ◌≡◌ {A = List FsState} (b.present ∷ b.past) (a.present ∷ a.past) → a.present ≡ b.present
      head_of e = cc e
  begins (s ∷ added) a b is = (added ++ a.present ∷ [], ap (λ x. x ∷ (added ++ a.present ∷ [])) (head_of is))
    where
      head_of : ◌≡◌ {A = List FsState} (b.present ∷ b.past) (s ∷ (added ++ a.present ∷ a.past)) → s ≡ b.present
      head_of e = cc e

  -- two runs after each other; the second one's first state is the first one's last
  pub lasts_then : (a b c : Trail) → Lasts P a b → Lasts P b c → Lasts P a c
  lasts_then a b c one two =
      let (rest, whole) = begins one.added a b one.is in
      let all : Persists P (two.added ++ b.present ∷ rest) = joined two.added b.present rest two.each (subst (Persists P) whole one.each) in
      record {
        added = two.added ++ one.added;
        is = two.is ∙ ap (λ (l : List FsState). two.added ++ l) one.is ∙ sym (append_assoc two.added one.added (a.present ∷ a.past));
        each = subst (Persists P) (ap (λ (l : List FsState). two.added ++ l) (sym whole) ∙ sym (append_assoc two.added one.added (a.present ∷ []))) all;
      }

-- the rename, once it is on the disk
module _ (u : Upgrade) (ready : IsReady u) (disables : u.disables ≡ true) where
  pub whole_not : (s : FsState) → Sound u Whole s → get s.names_kept u.control ≡ None → ⊥
  whole_not s sound none = let found = (control_file u (ready.can_disable disables)).1 in let kept = sound.keeps.names_kept u.control (ready.apart u.control ready.control_old) in cc (found, kept, none)

  pub moving_not : (s : FsState) → Sound u Moving s → get s.names_kept u.control ≡ None → ⊥
  moving_not s sound none = let found = (control_file u (ready.can_disable disables)).1 in let kept = sound.keeps.names_kept u.control (ready.apart u.control ready.control_old) in cc (found, kept, none)

  pub moved_is : (s : FsState) → Sound u Moved s → get s.names_kept u.control ≡ None
  moved_is s sound = sound.keeps.names_kept u.control (ready.apart u.control ready.control_old) ∙ control_gone u (ready.can_disable disables)

  pub whole_lasts : (old new : Trail) → Since (Sound u Whole) old new → Lasts (λ s. get s.names_kept u.control ≡ None) old new
  whole_lasts old new since = never_lasts (λ s. get s.names_kept u.control ≡ None) old new (since_weaker (Sound u Whole) (λ s. get s.names_kept u.control ≡ None → ⊥) (λ s sound. whole_not s sound) old new since)

  pub moved_lasts : (old new : Trail) → Since (Sound u Moved) old new → Lasts (λ s. get s.names_kept u.control ≡ None) old new
  moved_lasts old new since = always_lasts (λ s. get s.names_kept u.control ≡ None) old new (since_weaker (Sound u Moved) (λ s. get s.names_kept u.control ≡ None) (λ s sound. moved_is s sound) old new since)

  pub rename_lasts : (answer : Option FsError) (old new : Trail) → Sound u Whole old.present → Steps (Renames u.control u.renamed) answer old new → Lasts (λ s. get s.names_kept u.control ≡ None) old new
  rename_lasts answer old new sound steps = step_lasts (λ s. get s.names_kept u.control ≡ None) (Renames u.control u.renamed) answer old new (whole_not old.present sound) steps

  pub sync_lasts : (answer : Option FsError) (old new : Trail) → Sound u Moving old.present → Steps (SyncsDir (parent u.control)) answer old new → Lasts (λ s. get s.names_kept u.control ≡ None) old new
  sync_lasts answer old new sound steps = step_lasts (λ s. get s.names_kept u.control ≡ None) (SyncsDir (parent u.control)) answer old new (moving_not old.present sound) steps
