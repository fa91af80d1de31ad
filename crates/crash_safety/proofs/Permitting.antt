-- The fact of a permit: once a name is gone and its directory is on the disk, no crash brings it back.
use Rattle.std.proofs.Common.{◌≡◌, ◌∙◌, ◌++◌, ◌∷◌, [], List, Some, None, refl, sym, ap, subst, true, cond, not}
use Rattle.std.proofs.lemmas.List.Elements.{filter-append}
use Rattle.std.specs.List.{filter}
use Rattle.std.specs.FinMap.{get}
use Rattle.fs_model.specs.declared.node.Node.TheVariants.{File}
use Rattle.fs_model.specs.declared.effect.Effect.TheVariants.{KeepNames}
use Rattle.fs_model.specs.Names.{Path, parent}
use Rattle.fs_model.specs.State.{FsState, Change}
use Rattle.fs_model.specs.PathLaws.{same_path_refl}
use Rattle.fs_model.specs.Effects.{apply, with_change, is_in}
use Rattle.fs_model.specs.Calls.{Renames, SyncsDir}
use Rattle.fs_model.specs.Crash.{Image}
use Rattle.fs_model.specs.Trail.{Trail, Steps, Since}
use Rattle.fs_model.proofs.Runs.{present_after, since_weaker}
use Rattle.crash_safety.specs.Frame.{IsInside, IsOutside, IsUntouched}
use Rattle.crash_safety.specs.Upgrade.{Upgrade, IsReady}
use Rattle.crash_safety.specs.Sound.{Moved, Sound, IsSound}
use Rattle.crash_safety.specs.Crashes.{IsRenamed, StaysRenamed}
use Rattle.crash_safety.specs.Lacks.{Lacks}
use Rattle.crash_safety.specs.Tracked.{Tracked}
use Rattle.crash_safety.specs.Synced.{NeedsOnly}
use Rattle.crash_safety.proofs.Needing.{renamed_needs}
use Rattle.crash_safety.proofs.Renamed.{may_rename}
use Rattle.crash_safety.proofs.Crashed.{moved_stays}
use Rattle.crash_safety.proofs.Lacking.{untouched_lacks}
use Rattle.crash_safety.proofs.SoundRuns.{gone_moved}
use Rattle.crash_safety.proofs.Tracking.{call_tracked, untouched_out}

pub synced_lacks : (gone : Path) (a b : Trail) → Tracked a.present → get a.present.names gone ≡ None → Steps (SyncsDir (parent gone)) None a b → Lacks gone b.present
synced_lacks gone a b tracked none steps =
    let (effect, free, kept, after) = present_after (SyncsDir (parent gone)) a b steps in
    let last : b.present ≡ apply a.present (KeepNames (parent gone)) = after ∙ ap (apply a.present) kept in
    let end : Tracked b.present = subst Tracked (sym after) (call_tracked a.present tracked (SyncsDir (parent gone)) None effect (free, kept)) in
    untouched_lacks gone b.present end (ap (λ (s : FsState). get s.names gone) last ∙ none)
    (subst (λ (changes : List Change). IsUntouched changes gone) (sym (ap (λ (s : FsState). s.pending) last)) (untouched_out gone (parent gone) a.present.pending tracked.together refl))

pub moved_renamed : (u : Upgrade) → IsReady u → (s x : FsState) → Sound u Moved s → Image s x → IsRenamed u x
moved_renamed u ready s x sound image = let (gone, there) = moved_stays u ready s x sound image in record { gone = gone; there = there }

-- where the names on the disk lack the control file, each crash has it renamed
pub sound_renamed : (u : Upgrade) → IsReady u → u.disables ≡ true → (s : FsState) → IsSound u s → StaysRenamed u s
sound_renamed u ready disables s (stage, sound) none x image = moved_renamed u ready s x (subst (λ t. Sound u t s) (gone_moved u ready disables stage s sound none) sound) image

pub since_renamed : (u : Upgrade) → IsReady u → u.disables ≡ true → (old new : Trail) → Since (IsSound u) old new → Since (StaysRenamed u) old new
since_renamed u ready disables old new since = since_weaker (IsSound u) (StaysRenamed u) (sound_renamed u ready disables) old new since

-- after the rename and the sync of its directory, what needs a sync is inside as before
module _ (tops holders : List Path) (rewritten control renamed : Path) (a b c : Trail) (renames : Steps (Renames control renamed) None a b) (syncs : Steps (SyncsDir (parent control)) None b c) where
  pub disabled_needs : NeedsOnly tops holders rewritten a.present → IsInside tops rewritten → IsOutside tops control → IsOutside tops renamed → NeedsOnly tops holders rewritten c.present
  disabled_needs needs inside outside outside_renamed =
      let dir = parent control in
      let (effect, free, (inode, named, is), present) = present_after (Renames control renamed) a b renames in
      let (later, _, kept, after) = present_after (SyncsDir dir) b c syncs in
      let change : Change = (control, None) ∷ (renamed, Some (File inode)) ∷ [] in
      let first : b.present ≡ with_change a.present change = present ∙ ap (apply a.present) is in
      let last : c.present ≡ apply b.present (KeepNames dir) = after ∙ ap (apply b.present) kept in
      renamed_needs tops holders rewritten a.present c.present control renamed dir inode needs inside outside outside_renamed named (may_rename a.present control renamed free).free
      (ap (λ (s : FsState). s.names) last ∙ ap (λ (s : FsState). s.names) first)
      (ap (λ (s : FsState). s.pending) last ∙ ap (λ (s : FsState). filter (λ c. not (is_in dir c)) s.pending) first
      ∙ filter-append (λ c. not (is_in dir c)) a.present.pending (change ∷ [])
      ∙ ap (λ b. filter (λ c. not (is_in dir c)) a.present.pending ++ cond (not b) (change ∷ []) []) (same_path_refl dir)
      ∙ append-nil (filter (λ c. not (is_in dir c)) a.present.pending))
      (ap (λ (s : FsState). s.dirty) last ∙ ap (λ (s : FsState). s.dirty) first)
    where
      append-nil : (changes : List Change) → changes ++ [] ≡ changes
      append-nil [] = refl
      append-nil (c ∷ changes) = ap (λ rest. c ∷ rest) (append-nil changes)
