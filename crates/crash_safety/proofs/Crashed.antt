-- What a crash leaves of a sound state, and that a settled start is one.
use Rattle.std.proofs.Common.{◌≡◌, Bool, true, false, not, cond, List, [], Option, Some, None, refl, sym, ◌∙◌, ap, subst}
use Rattle.std.specs.Prelude.{is_some, ◌||◌}
use Rattle.std.specs.List.{AllByRecursion}
use Rattle.std.specs.FinMap.{get}
use Rattle.fs_model.specs.declared.node.Node.{Node}
use Rattle.fs_model.specs.declared.node.Node.TheVariants.{File}
use Rattle.fs_model.specs.State.{Names, Change, FsState}
use Rattle.fs_model.specs.Effects.{all_changed}
use Rattle.fs_model.specs.Calls.{blocked}
use Rattle.fs_model.specs.Crash.{Image, is_reached, reached}
use Rattle.fs_model.specs.WellFormed.{Each, EachPair, IsTree}
use Rattle.fs_model.proofs.Lookups.{each_all_changed}
use Rattle.crash_safety.specs.Frame.{IsOutside}
use Rattle.crash_safety.specs.Upgrade.{Upgrade, names_of, IsReady}
use Rattle.crash_safety.specs.Sound.{Stage, Whole, Moving, Moved, is_moved, is_moved_kept, is_moving, AsAtStart, Waits, KeepsOld, IsNoOldFile, Sound}
use Rattle.crash_safety.specs.Crashes.{OldKept, Apart, IsSafe, AsBefore}
use Rattle.crash_safety.proofs.WithinImages.{picked_all, get-reached, reached_or_none, blocked_alike}
use Rattle.crash_safety.proofs.Renamed.{control_gone, renamed_there, moved_tree}
use Rattle.crash_safety.proofs.Waiting.{waits_names, waits_picked}

was_there : (b : Bool) (found : Option Node) (node : Node) → cond b found None ≡ Some node → found ≡ Some node
was_there true found node e = e
was_there false found node e = absurd (cc e)

module _ (u : Upgrade) (ready : IsReady u) where
  tree_of : (moved : Bool) → (moved ≡ true → u.disables ≡ true) → IsTree (names_of u moved)
  tree_of false in_mode = ready.well_formed.tree
  tree_of true in_mode = moved_tree u (ready.can_disable (in_mode refl)) ready.well_formed.tree

  -- what is as at the start stays so without the names whose way is blocked
  reached_as : (moved : Bool) → (moved ≡ true → u.disables ≡ true) → (names : Names) → Each (AsAtStart u moved) names → Each (AsAtStart u moved) (reached names)
  reached_as moved in_mode names each path outside =
      let way : blocked names path ≡ blocked (names_of u moved) path = blocked_alike u.new_tops names (names_of u moved) each [] path outside in
      get-reached names path ∙ ap (λ node. cond (is_reached names path) node None) (each path outside)
      ∙ reached_or_none (get (names_of u moved) path) (is_reached names path) (λ stands. ap (λ r. not (is_some r)) (way ∙ tree_of moved in_mode path stands))

  reached_apart : (names : Names) → Each (IsNoOldFile u) names → Each (IsNoOldFile u) (reached names)
  reached_apart names each path inside inode there old =
      each path inside inode (was_there (is_reached names path) (get names path) (File inode) (sym (get-reached names path) ∙ there)) old

  module _ (stage : Stage) (s x : FsState) (keeps : KeepsOld u stage s) (image : Image s x) where
    -- whether the rename was among the waiting changes that came onto the disk
    picks : (picks : Bool) × (picks ≡ true → is_moving stage ≡ true) × Waits u picks image.picked
    picks = waits_picked u (is_moving stage) image.some keeps.pending

    left_as : Each (AsAtStart u (is_moved_kept stage || picks.0)) (all_changed s.names_kept image.picked)
    left_as = waits_names u (is_moved_kept stage) picks.0 s.names_kept image.picked keeps.names_kept picks.2

    stage_in_mode : (stage : Stage) (picks : Bool) → (picks ≡ true → is_moving stage ≡ true) → (is_moved_kept stage || picks) ≡ true → is_moved stage ≡ true
    stage_in_mode Whole picks moves e = absurd (let no = moves e in cc no)
    stage_in_mode Moving picks moves e = refl
    stage_in_mode Moved picks moves e = refl

    here_in_mode : (is_moved_kept stage || picks.0) ≡ true → u.disables ≡ true
    here_in_mode e = keeps.in_mode (stage_in_mode stage picks.0 picks.1 e)

    pub image_kept : OldKept u x
    image_kept = record {
      moved = is_moved_kept stage || picks.0;
      in_mode = here_in_mode;
      names = subst (Each (AsAtStart u (is_moved_kept stage || picks.0))) (sym image.names) (reached_as (is_moved_kept stage || picks.0) here_in_mode (all_changed s.names_kept image.picked) left_as);
      bytes = λ inode old. let f = keeps.files inode old in image.clean inode f.clean ∙ f.kept;
    }

  -- once the rename is on the disk, every image has it
  pub moved_stays : (s x : FsState) → Sound u Moved s → Image s x → (get x.names u.control ≡ None) × (get x.names u.renamed ≡ get u.start.names u.control)
  unfolding image_kept
  moved_stays s x sound image =
      let can = ready.can_disable (sound.keeps.in_mode refl) in
      let names = (image_kept Moved s x sound.keeps image).names in
      (names u.control (ready.apart u.control ready.control_old) ∙ control_gone u can, names u.renamed (ready.apart u.renamed can.renamed_old) ∙ renamed_there u can)

  module _ (stage : Stage) (s x : FsState) (sound : Sound u stage s) (image : Image s x) where
    -- while the control file stands, the rename isn't on the disk
    still_here : (stage : Stage) (moved : Bool) → (is_moved_kept stage || moved) ≡ false → (is_moved_kept stage ≡ false) × (moved ≡ false)
    still_here Whole moved e = (refl, e)
    still_here Moving moved e = (refl, e)
    still_here Moved moved e = absurd (cc e)

    not_moved : (moved : Bool) → (moved ≡ true → u.disables ≡ true) → get x.names u.control ≡ get (names_of u moved) u.control → is_some (get x.names u.control) ≡ true → moved ≡ false
    not_moved false in_mode is stands = refl
    not_moved true in_mode is stands = absurd (let gone = control_gone u (ready.can_disable (in_mode refl)) in cc (is, gone, stands))

    -- the names at old places are those of the start, if the control file stands
    unmoved : (stage : Stage) → (keeps : KeepsOld u stage s) → is_some (get x.names u.control) ≡ true → IsOutside u.new_tops u.control → (is_moved_kept stage || (picks stage s x keeps image).0) ≡ false
    unfolding image_kept
    unmoved stage keeps stands outside =
        let kept = image_kept stage s x keeps image in not_moved kept.moved kept.in_mode (kept.names u.control outside) stands

    pub image_apart : Apart u x
    unfolding image_kept
    image_apart stands path other inode old new at_path at_other =
        let kept = image_kept stage s x sound.keeps image in
        let here : kept.moved ≡ false = unmoved stage sound.keeps stands (ready.apart u.control ready.control_old) in
        let a = sound.apart (still_here stage (picks stage s x sound.keeps image).0 here).0 in
        let left = all_changed s.names_kept image.picked in
        let apart = each_all_changed (IsNoOldFile u) s.names_kept image.picked a.kept (picked_all (EachPair (IsNoOldFile u)) image.some a.waiting) in
        let was : get u.start.names path ≡ Some (File inode) = ap (λ b. get (names_of u b) path) (sym here) ∙ sym (kept.names path (ready.apart path old)) ∙ at_path in
        reached_apart left apart other new inode (ap (λ (m : Names). get m other) (sym image.names) ∙ at_other) (path, old, was)

    pub image_safe : IsSafe u x
    image_safe = record { old_kept = image_kept stage s x sound.keeps image; apart = image_apart }

-- where all is on the disk, an upgrade may begin
none_waits : (changes : List Change) (P : Change → Type 0) → changes ≡ [] → AllByRecursion P changes
none_waits changes P e = subst (AllByRecursion P) (sym e) tt

pub start_keeps : (u : Upgrade) → IsReady u → KeepsOld u Whole u.start
start_keeps u ready = record {
  in_mode = λ e. absurd (cc e);
  names = λ path outside. refl;
  names_kept = λ path outside. ap (λ (m : Names). get m path) ready.settled.names;
  pending = subst (Waits u false) (sym ready.settled.nothing_pending) refl;
  files = λ inode old. record { clean = ready.settled.clean old.0 inode old.2; now = refl; kept = ready.settled.bytes old.0 inode old.2 };
  inodes = λ inode has. has;
}

pub start_sound : (u : Upgrade) → IsReady u → Each (IsNoOldFile u) u.start.names → Sound u Whole u.start
start_sound u ready unshared = record {
  keeps = start_keeps u ready;
  apart = λ _. record {
    now = unshared;
    kept = subst (Each (IsNoOldFile u)) (sym ready.settled.names) unshared;
    waiting = none_waits u.start.pending (EachPair (IsNoOldFile u)) ready.settled.nothing_pending;
  };
}

-- an upgrade that disables nothing leaves the old cluster as before
pub kept_before : (u : Upgrade) → IsReady u → u.disables ≡ false → (x : FsState) → OldKept u x → AsBefore u.start u.old_tops x
kept_before u ready copies x kept = record {
  names = λ path old. kept.names path (ready.apart path old) ∙ ap (λ b. get (names_of u b) path) (unmoved kept.moved kept.in_mode);
  bytes = λ path inode old named. kept.bytes inode (path, old, named);
}
  where
    unmoved : (moved : Bool) → (moved ≡ true → u.disables ≡ true) → moved ≡ false
    unmoved true in_mode = absurd (let disables = in_mode refl in cc (disables, copies))
    unmoved false in_mode = refl
