-- One list of paths has a property, and so one number and one verdict.
use Rattle.std.proofs.Common.{◌≡◌, ◌<◌, ◌-◌, ◌^◌, ◌∙◌, inl, inr, ℕ, Bool, true, false, min, List, [], ◌∷◌, length, refl, sym, ap, arith}
use Rattle.std.specs.declared.cmp.Ordering.TheVariants.{Less}
use Rattle.fs_model.specs.Names.{Path, path_cmp}
use Rattle.fs_model.specs.State.{FsState}
use Rattle.fs_tools.specs.Walked.{IsAmong}
use Rattle.fs_tools.proofs.Naming.{among_all}
use Rattle.tree_checks.proofs.Leasts.{less_flip, not_itself}
use Rattle.shared_inodes.specs.SharedInodes.{IsShared, IsRising, IsNumberOf}
use Rattle.verdicts.specs.declared.verdict.Verdict.{Verdict}
use Rattle.verdicts.specs.declared.verdict.Verdict.TheVariants.{Finished, Untouched, Disabled, Linked, Unsafe, NoControl}
use Rattle.verdicts.specs.Verdicts.{IsVerdict}

-- the paths behind the first of a list in ascending order are greater
behind : (x : Path) (xs : List Path) → IsRising (x ∷ xs) → (z : Path) → IsAmong xs z → path_cmp x z ≡ Less
behind x xs rise z among = among_all (λ q. path_cmp x q ≡ Less) xs rise.0 z among

-- two lists in ascending order with the same paths are one
same_lists : (xs ys : List Path) → IsRising xs → IsRising ys → ((z : Path) → IsAmong xs z → IsAmong ys z) → ((z : Path) → IsAmong ys z → IsAmong xs z) → xs ≡ ys
same_lists [] [] rise other to from = refl
same_lists [] (y ∷ ys) rise other to from = absurd (from y (inl refl))
same_lists (x ∷ xs) [] rise other to from = absurd (to x (inl refl))
same_lists (x ∷ xs) (y ∷ ys) rise other to from = λ i. first i ∷ same_lists xs ys rise.1 other.1 later earlier i
  where
    first : x ≡ y
    first = elim (to x (inl refl)) [
      | inl same ↦ sym same
      | inr among ↦ elim (from y (inl refl)) [ inl same ↦ same | inr there ↦ absurd (less_flip x y (behind x xs rise y there) (behind y ys other x among)) ]
    ]

    later : (z : Path) → IsAmong xs z → IsAmong ys z
    later z among = elim (to z (inr among)) [
      | inl same ↦ absurd (not_itself x z (first ∙ same) (behind x xs rise z among))
      | inr there ↦ there
    ]

    earlier : (z : Path) → IsAmong ys z → IsAmong xs z
    earlier z among = elim (from z (inr among)) [
      | inl same ↦ absurd (not_itself y z (sym first ∙ same) (behind y ys other z among))
      | inr there ↦ there
    ]

number_one : (P : Path → Type 0) (a b : ℕ) → IsNumberOf P a → IsNumberOf P b → a ≡ b
number_one P a b (xs, all, is) (ys, others, same) =
    is ∙ ap (λ (l : List Path). min (length l) (2 ^ 64 - 1))
    (same_lists xs ys all.ascending others.ascending (λ z among. others.whole z (among_all P xs all.each z among)) (λ z among. all.whole z (among_all P ys others.each z among))) ∙ sym same

-- a name is there, or isn't
never_both : (b : Bool) → b ≡ true → b ≡ false → ⊥
never_both b is not = absurd (cc (is, not))

zero_more : (n : ℕ) → 0 ≡ n → 0 < n → ⊥
zero_more n zero more = omega (arith, zero, more)

pub verdict_one : (s : FsState) (old new : Path) (one two : Verdict) → IsVerdict s old new one → IsVerdict s old new two → one ≡ two
verdict_one s old new Finished Finished is other = refl
verdict_one s old new Finished Untouched is other = absurd (never_both _ is other.unfinished)
verdict_one s old new Finished Disabled is other = absurd (never_both _ is other.unfinished)
verdict_one s old new Finished (Linked n) is other = absurd (never_both _ is other.0.unfinished)
verdict_one s old new Finished (Unsafe n) is other = absurd (never_both _ is other.0.unfinished)
verdict_one s old new Finished NoControl is other = absurd (never_both _ is other.unfinished)
verdict_one s old new Untouched Finished is other = absurd (never_both _ other is.unfinished)
verdict_one s old new Untouched Untouched is other = refl
verdict_one s old new Untouched Disabled is other = absurd (never_both _ is.control other.control)
verdict_one s old new Untouched (Linked n) is other = absurd (never_both _ is.control other.0.control)
verdict_one s old new Untouched (Unsafe n) is other = absurd (zero_more n (number_one (IsShared s.names old new) 0 n is.shared other.0.shared) other.1)
verdict_one s old new Untouched NoControl is other = absurd (never_both _ is.control other.control)
verdict_one s old new Disabled Finished is other = absurd (never_both _ other is.unfinished)
verdict_one s old new Disabled Untouched is other = absurd (never_both _ other.control is.control)
verdict_one s old new Disabled Disabled is other = refl
verdict_one s old new Disabled (Linked n) is other = absurd (zero_more n (number_one (IsShared s.names old new) 0 n is.shared other.0.shared) other.1)
verdict_one s old new Disabled (Unsafe n) is other = absurd (never_both _ other.0.control is.control)
verdict_one s old new Disabled NoControl is other = absurd (never_both _ is.disabled other.disabled)
verdict_one s old new (Linked m) Finished is other = absurd (never_both _ other is.0.unfinished)
verdict_one s old new (Linked m) Untouched is other = absurd (never_both _ other.control is.0.control)
verdict_one s old new (Linked m) Disabled is other = absurd (zero_more m (number_one (IsShared s.names old new) 0 m other.shared is.0.shared) is.1)
verdict_one s old new (Linked m) (Linked n) is other = ap (λ k. Linked k) (number_one (IsShared s.names old new) m n is.0.shared other.0.shared)
verdict_one s old new (Linked m) (Unsafe n) is other = absurd (never_both _ other.0.control is.0.control)
verdict_one s old new (Linked m) NoControl is other = absurd (never_both _ is.0.disabled other.disabled)
verdict_one s old new (Unsafe m) Finished is other = absurd (never_both _ other is.0.unfinished)
verdict_one s old new (Unsafe m) Untouched is other = absurd (zero_more m (number_one (IsShared s.names old new) 0 m other.shared is.0.shared) is.1)
verdict_one s old new (Unsafe m) Disabled is other = absurd (never_both _ is.0.control other.control)
verdict_one s old new (Unsafe m) (Linked n) is other = absurd (never_both _ is.0.control other.0.control)
verdict_one s old new (Unsafe m) (Unsafe n) is other = ap (λ k. Unsafe k) (number_one (IsShared s.names old new) m n is.0.shared other.0.shared)
verdict_one s old new (Unsafe m) NoControl is other = absurd (never_both _ is.0.control other.control)
verdict_one s old new NoControl Finished is other = absurd (never_both _ other is.unfinished)
verdict_one s old new NoControl Untouched is other = absurd (never_both _ other.control is.control)
verdict_one s old new NoControl Disabled is other = absurd (never_both _ other.disabled is.disabled)
verdict_one s old new NoControl (Linked n) is other = absurd (never_both _ other.0.disabled is.disabled)
verdict_one s old new NoControl (Unsafe n) is other = absurd (never_both _ other.0.control is.control)
verdict_one s old new NoControl NoControl is other = refl
