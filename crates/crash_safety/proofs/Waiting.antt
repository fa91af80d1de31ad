-- The changes that wait in an upgrade: those of new places, and the rename.
use Rattle.std.proofs.Common.{◌≡◌, ◌≢◌, inl, inr, Bool, true, false, cond, List, [], ◌∷◌, ◌++◌, None, refl, sym, ◌∙◌, ap, subst}
use Rattle.std.specs.Prelude.{not, ◌&&◌, ◌||◌}
use Rattle.std.specs.List.{filter}
use Rattle.std.specs.FinMap.{get}
use Rattle.fs_model.specs.Names.{Path, parent, same_path}
use Rattle.fs_model.specs.PathLaws.{same_path_true, same_path_refl}
use Rattle.fs_model.specs.State.{Names, Change}
use Rattle.fs_model.specs.Effects.{changed, all_changed, is_in}
use Rattle.fs_model.specs.Crash.{IsSubsequence, none, with, without}
use Rattle.fs_model.specs.WellFormed.{Each, EachPair}
use Rattle.fs_model.proofs.Lookups.{each_changed}
use Rattle.crash_safety.specs.Frame.{IsInside, ChangesInside}
use Rattle.crash_safety.specs.Upgrade.{Upgrade, renaming, names_of}
use Rattle.crash_safety.specs.Sound.{Stage, Whole, Moving, Moved, is_moved_kept, is_moving, AsAtStart, Waits}
use Rattle.crash_safety.proofs.Keeping.{each_pair_weaker}
use Rattle.crash_safety.proofs.Renamed.{changed_alike, changed_twice}

or_false : (b : Bool) → b ≡ (b || false)
or_false true = refl
or_false false = refl

or_true : (b : Bool) → true ≡ (b || true)
or_true true = refl
or_true false = refl

module _ (u : Upgrade) where
  pub waits_push_new : (moving : Bool) (changes : List Change) (change : Change) → Waits u moving changes → ChangesInside u.new_tops change → Waits u moving (changes ++ change ∷ [])
  waits_push_new moving [] change waits inside = inl (inside, waits)
  waits_push_new moving (c ∷ changes) change (inl (here, rest)) inside = inl (here, waits_push_new moving changes change rest inside)
  waits_push_new moving (c ∷ changes) change (inr (is, moves, rest)) inside = inr (is, moves, waits_push_new false changes change rest inside)

  pub waits_push_rename : (changes : List Change) → Waits u false changes → Waits u true (changes ++ renaming u ∷ [])
  waits_push_rename [] waits = inr (refl, refl, refl)
  waits_push_rename (c ∷ changes) (inl (here, rest)) = inl (here, waits_push_rename changes rest)
  waits_push_rename (c ∷ changes) (inr (is, moves, rest)) = absurd (cc moves)

  pub waits_filter : (test : Change → Bool) (moving : Bool) (changes : List Change) → Waits u moving changes → Waits u (moving && test (renaming u)) (filter test changes)
  waits_filter test moving [] waits = ap (λ b. b && test (renaming u)) waits
  waits_filter test moving (c ∷ changes) (inl (here, rest)) =
      elim (test c) as (λ b. Waits u (moving && test (renaming u)) (cond b (c ∷ filter test changes) (filter test changes))) [
        | true ↦ inl (here, waits_filter test moving changes rest)
        | false ↦ waits_filter test moving changes rest
      ]
  waits_filter test moving (c ∷ changes) (inr (is, moves, rest)) =
      elim (test c) as (λ b. test c ≡ b → Waits u (moving && test (renaming u)) (cond b (c ∷ filter test changes) (filter test changes))) [
        | true ↦ λ e. inr (is, (λ i. moves i && (ap test (sym is) ∙ e) i), waits_filter test false changes rest)
        | false ↦ λ e. subst (λ b. Waits u b (filter test changes)) (sym (λ i. moves i && (ap test (sym is) ∙ e) i)) (waits_filter test false changes rest)
      ] refl

  -- what is new is none of what is as at the start
  pub new_as : (moved : Bool) (change : Change) → ChangesInside u.new_tops change → EachPair (AsAtStart u moved) change
  new_as moved change inside = each_pair_weaker (λ path _. IsInside u.new_tops path) (AsAtStart u moved) (λ path node in_it out. absurd (out in_it)) change inside

  pub renamed_as : (from : Bool) (names : Names) → Each (AsAtStart u from) names → Each (AsAtStart u true) (changed names (renaming u))
  renamed_as false names each path outside = changed_alike names u.start.names (renaming u) path (each path outside)
  renamed_as true names each path outside =
      changed_alike names (names_of u true) (renaming u) path (each path outside)
      ∙ changed_twice u.start.names u.control u.renamed None (get u.start.names u.control) path

  -- the names once the waiting changes are there
  pub waits_names : (from moving : Bool) (names : Names) (changes : List Change) → Each (AsAtStart u from) names → Waits u moving changes → Each (AsAtStart u (from || moving)) (all_changed names changes)
  waits_names from moving names [] each waits = subst (λ b. Each (AsAtStart u b) names) (or_false from ∙ ap (λ b. from || b) (sym waits)) each
  waits_names from moving names (c ∷ changes) each (inl (here, rest)) =
      waits_names from moving (changed names c) changes (each_changed (AsAtStart u from) names c each (new_as from c here)) rest
  waits_names from moving names (c ∷ changes) each (inr (is, moves, rest)) =
      subst (λ b. Each (AsAtStart u b) (all_changed (changed names c) changes)) (or_true from ∙ ap (λ b. from || b) (sym moves))
      (waits_names true false (changed names c) changes (subst (λ change. Each (AsAtStart u true) (changed names change)) (sym is) (renamed_as from names each)) rest)

  not_true : (b : Bool) → (b ≡ true → false ≡ true) → b ≡ false
  not_true true h = absurd (cc (h refl))
  not_true false h = refl

  -- some of the waiting changes
  pub waits_picked : (moving : Bool) {changes picked : List Change} → IsSubsequence changes picked → Waits u moving changes → (picks : Bool) × (picks ≡ true → moving ≡ true) × Waits u picks picked
  waits_picked moving none waits = (false, (λ e. absurd (cc e)), refl)
  waits_picked moving (with some) (inl (here, rest)) = let r = waits_picked moving some rest in (r.0, r.1, inl (here, r.2))
  waits_picked moving (with {change} {changes} {picked} some) (inr (is, moves, rest)) =
      let r = waits_picked false some rest in (true, (λ _. moves), inr (is, refl, subst (λ b. Waits u b picked) (not_true r.0 r.1) r.2))
  waits_picked moving (without some) (inl (here, rest)) = waits_picked moving some rest
  waits_picked moving (without some) (inr (is, moves, rest)) = let r = waits_picked false some rest in (r.0, (λ e. moves), r.2)

  -- putting another directory on the disk leaves the stage
  pub other_kept : (stage : Stage) (dir : Path) → (stage ≡ Moving → dir ≢ parent u.control) → (is_moved_kept stage || (is_moving stage && is_in dir (renaming u))) ≡ is_moved_kept stage
  other_kept Whole dir other = refl
  other_kept Moving dir other = elsewhere dir (other refl)
    where
      elsewhere : (dir : Path) → dir ≢ parent u.control → same_path (parent u.control) dir ≡ false
      elsewhere dir differs =
          elim (same_path (parent u.control) dir) as (λ b. same_path (parent u.control) dir ≡ b → b ≡ false) [
            | true ↦ λ e. absurd (differs (sym (same_path_true (parent u.control) dir e)))
            | false ↦ λ _. refl
          ] refl
  other_kept Moved dir other = refl

  pub other_waits : (stage : Stage) (dir : Path) → (stage ≡ Moving → dir ≢ parent u.control) → (is_moving stage && not (is_in dir (renaming u))) ≡ is_moving stage
  other_waits Whole dir other = refl
  other_waits Moving dir other = ap not (other_kept Moving dir other)
  other_waits Moved dir other = refl

  -- and putting its own there ends it
  pub own_kept : is_in (parent u.control) (renaming u) ≡ true
  own_kept = same_path_refl (parent u.control)
