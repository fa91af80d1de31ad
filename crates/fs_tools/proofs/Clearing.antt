-- Names of a directory that are unlinked one after another.
use Rattle.std.proofs.Common.{◌≡◌, ◌≢◌, ◌<◌, ◌+◌, ◌++◌, ◌∙◌, inl, inr, ℕ, true, cond, List, [], ◌∷◌, length, drop, get_or, Option, Some, None, refl, sym, ap, arith, length-append, add-one}
use Rattle.std.proofs.Math.Seq.{drop-cons}
use Rattle.std.specs.Prelude.{is_some}
use Rattle.std.specs.List.{AllByRecursion}
use Rattle.std.specs.Cmp.{tied_itself}
use Rattle.std.specs.declared.cmp.Ordering.TheVariants.{Less}
use Rattle.std.specs.FinMap.{get}
use Rattle.fs_model.specs.declared.node.Node.{Node}
use Rattle.fs_model.specs.declared.node.Node.TheVariants.{Dir, File, Sym}
use Rattle.fs_model.specs.Names.{Path, path_cmp}
use Rattle.fs_model.specs.PathLaws.{path_total}
use Rattle.fs_model.specs.State.{FsState}
use Rattle.fs_model.specs.Effects.{apply, set_name, with_change}
use Rattle.fs_model.specs.Calls.{Lists, Unlinks, refusal, blocked, or_else, no_dir, no_leaf, children}
use Rattle.fs_model.specs.Trail.{Trail, Steps}
use Rattle.fs_model.proofs.Lookups.{get-set_name, set_name_here, set_name_other, same_path_or}
use Rattle.fs_model.proofs.Runs.{present_after, all_weaker}
use Rattle.fs_model.proofs.Ways.{blocked_set, blocked_push}
use Rattle.fs_tools.specs.Children.{child_of, paths_in, IsIn}
use Rattle.fs_tools.specs.Cleared.{unlinked, AreFree, HasNoDirs}
use Rattle.fs_tools.specs.Walked.{IsAmong}
use Rattle.fs_tools.proofs.Naming.{IsRising, all_both, path_among, paths_stand, paths_rise, no_children}

-- one element of a list, and those behind it
pub next_of : {A : Type 0} (xs : List A) (i : ℕ) (x : A) → i < length xs → x ≡ get_or xs i x → drop i xs ≡ x ∷ drop (i + 1) xs
next_of xs i x below is = drop-cons xs i x below ∙ (λ k. sym is k ∷ drop (sym (add-one i) k) xs)

pub unlink_present : (path : Path) (old new : Trail) → Steps (Unlinks path) None old new → new.present ≡ with_change old.present ((path, None) ∷ [])
unlink_present path old new steps =
    let (effect, free, is, present) = present_after (Unlinks path) old new steps in
    present ∙ ap (apply old.present) is

-- a name that is before another is not that one
rise_apart : (p q : Path) → path_cmp p q ≡ Less → q ≢ p
rise_apart p q less same =
    let tied = tied_itself path_total p in
    let e : path_cmp p p ≡ Less = ap (path_cmp p) (sym same) ∙ less in
    cc (tied, e)

-- what each of the names has that are to be unlinked
abbrev pub IsLeaf : FsState → Path → Path → Type 0
IsLeaf s at path = IsIn at path × (no_leaf (get s.names path) ≡ None)

module _ (s : FsState) (at p : Path) (inside : IsIn at p) where
  longer : (front back : Path) → at ≡ front ++ back → 0 ≢ length back → front ≢ p
  longer front back whole some same =
      let (name, is) = inside in
      let a = ap length whole in
      let b = ap length same in
      let d = ap length is in
      omega (arith, length-append front back, length-append at (name ∷ []), a, b, d)

  itself : at ≢ p
  itself same =
      let (name, is) = inside in
      let b = ap length same in
      let d = ap length is in
      omega (arith, length-append at (name ∷ []), b, d)

  still_open : refusal s (Lists at) ≡ None → refusal (with_change s ((p, None) ∷ [])) (Lists at) ≡ None
  still_open is_open = (λ i. or_else (blocked_set s.names p None at longer i) (no_dir (set_name_other s.names p None at itself i))) ∙ is_open

  leaf_free : refusal s (Lists at) ≡ None → no_leaf (get s.names p) ≡ None → refusal s (Unlinks p) ≡ None
  leaf_free is_open leaf =
      let (name, is) = inside in
      let way : blocked s.names p ≡ None = ap (blocked s.names) is ∙ blocked_push s.names at name ∙ is_open in
      (λ i. or_else (way i) (leaf i))

pub leaves_free : (s : FsState) (at : Path) (paths : List Path) → refusal s (Lists at) ≡ None → IsRising paths → AllByRecursion (IsLeaf s at) paths → AreFree s paths
leaves_free s at [] is_open rise all = tt
leaves_free s at (p ∷ paths) is_open rise all = (
  leaf_free s at p all.0.0 is_open all.0.1,
  leaves_free (with_change s ((p, None) ∷ [])) at paths (still_open s at p all.0.0 is_open) rise.1
      (all_weaker (λ q. (path_cmp p q ≡ Less) × IsLeaf s at q) (IsLeaf (with_change s ((p, None) ∷ [])) at)
      (λ q both. (both.1.0, ap no_leaf (set_name_other s.names p None q (rise_apart p q both.0)) ∙ both.1.1))
      paths (all_both (λ q. path_cmp p q ≡ Less) (IsLeaf s at) paths rise.0 all.1)),
)

leaf_of : (node : Option Node) → is_some node ≡ true → node ≢ Some Dir → no_leaf node ≡ None
leaf_of None stands other = absurd (cc stands)
leaf_of (Some Dir) stands other = absurd (other refl)
leaf_of (Some (File inode)) stands other = refl
leaf_of (Some (Sym target)) stands other = refl

-- where no name of a directory is one of a directory, none of its unlinks is refused
pub names_free : (s : FsState) (at : Path) → refusal s (Lists at) ≡ None → HasNoDirs s.names at → AreFree s (paths_in s.names at)
names_free s at is_open none =
    leaves_free s at (paths_in s.names at) is_open (paths_rise s.names at)
    (all_weaker (λ p. IsIn at p × (is_some (get s.names p) ≡ true)) (IsLeaf s at)
    (λ p both. (both.0, leaf_of (get s.names p) both.1 (λ is. none both.0.0 (ap (get s.names) (sym both.0.1) ∙ is))))
    (paths_in s.names at) (paths_stand s.names at))

pub names_in : (s : FsState) (at : Path) → AllByRecursion (IsIn at) (paths_in s.names at)
names_in s at = all_weaker (λ p. IsIn at p × (is_some (get s.names p) ≡ true)) (IsIn at) (λ p both. both.0) (paths_in s.names at) (paths_stand s.names at)

-- what doesn't stand doesn't afterwards
unlinked_stays : (s : FsState) (paths : List Path) (q : Path) → get s.names q ≡ None → get (unlinked s paths).names q ≡ None
unlinked_stays s [] q none = none
unlinked_stays s (p ∷ paths) q none =
    unlinked_stays (with_change s ((p, None) ∷ [])) paths q
    (get-set_name s.names p None q ∙ same_path_or q p (λ b. cond b None (get s.names q) ≡ None) (λ _. refl) none)

unlinked_gone : (s : FsState) (paths : List Path) (q : Path) → IsAmong paths q → get (unlinked s paths).names q ≡ None
unlinked_gone s [] q none = absurd none
unlinked_gone s (p ∷ paths) q (inl same) = unlinked_stays (with_change s ((p, None) ∷ [])) paths q (ap (get (set_name s.names p None)) (sym same) ∙ set_name_here s.names p None)
unlinked_gone s (p ∷ paths) q (inr among) = unlinked_gone (with_change s ((p, None) ∷ [])) paths q among

pub unlinked_empty : (s : FsState) (at : Path) → children (unlinked s (paths_in s.names at)).names at ≡ []
unlinked_empty s at =
    no_children (unlinked s (paths_in s.names at)).names at (λ name stands.
    let q = child_of at name in
    let none : get (unlinked s (paths_in s.names at)).names q ≡ None =
    elim (get s.names q) as (λ o. get s.names q ≡ o → get (unlinked s (paths_in s.names at)).names q ≡ None) [
      | None ↦ λ e. unlinked_stays s (paths_in s.names at) q e
      | Some node ↦ λ e. unlinked_gone s (paths_in s.names at) q (path_among s.names at name (ap is_some e))
    ] refl in
    let no = ap is_some none in
    cc (stands, no))
