-- The least path of a directory, and of several.
use Rattle.std.proofs.Common.{◌≡◌, ◌≢◌, ◌∙◌, ◌⊎◌, inl, inr, ℕ, Bool, true, false, cond, List, [], ◌∷◌, map, Option, Some, None, refl, sym, ap, subst, arith}
use Rattle.std.specs.Prelude.{is_some, if◌then◌else◌}
use Rattle.std.specs.Option.{option_map}
use Rattle.std.specs.List.{find}
use Rattle.std.specs.Ordering.{is_lt, ordering_reverse}
use Rattle.std.specs.declared.cmp.Ordering.TheVariants.{Less, Equal, Greater}
use Rattle.std.specs.FinMap.{get}
use Rattle.fs_model.specs.declared.node.Node.TheVariants.{Dir}
use Rattle.fs_model.specs.Names.{Path, path_cmp}
use Rattle.fs_model.specs.PathLaws.{path_total, path_exact}
use Rattle.fs_model.specs.State.{Names}
use Rattle.fs_model.specs.Calls.{children}
use Rattle.fs_model.specs.WellFormed.{IsTree}
use Rattle.fs_tools.specs.Children.{child_of, paths_in, IsIn}
use Rattle.fs_tools.specs.Walked.{IsAmong}
use Rattle.fs_tools.proofs.Copying.{prefix_is_dir}
use Rattle.fs_tools.proofs.Naming.{among_all, IsRising, paths_rise, paths_stand, path_among}
use Rattle.tree_checks.specs.Findings.{IsLeast, lesser}
use Rattle.tree_checks.specs.NewDirs.{IsNameIn}

pub less_flip : (a b : Path) → path_cmp a b ≡ Less → path_cmp b a ≢ Less
less_flip a b less back = absurd (let flip = path_total.antisymm b a in cc (flip, ap ordering_reverse less, back))

pub not_itself : (a b : Path) → a ≡ b → path_cmp a b ≢ Less
not_itself a b same less = less_flip a b less ((λ i. path_cmp (sym same i) (same i)) ∙ less)

-- the same property in other words
pub least_by : (P Q : Path → Type 0) (found : Option Path) → ((p : Path) → P p → Q p) → ((p : Path) → Q p → P p) → IsLeast P found → IsLeast Q found
least_by P Q None to from none = λ p has. none p (from p has)
least_by P Q (Some least) to from (has, under) = (to least has, λ p other. under p (from p other))

pub lesser_least : (P Q : Path → Type 0) (one two : Option Path) → IsLeast P one → IsLeast Q two → IsLeast (λ p. P p ⊎ Q p) (lesser one two)
lesser_least P Q None None first second = λ p has. elim has [ inl here ↦ first p here | inr there ↦ second p there ]
lesser_least P Q None (Some b) first second = (inr second.0, λ p has. elim has [ inl here ↦ absurd (first p here) | inr there ↦ second.1 p there ])
lesser_least P Q (Some a) None first second = (inl first.0, λ p has. elim has [ inl here ↦ first.1 p here | inr there ↦ absurd (second p there) ])
lesser_least P Q (Some a) (Some b) first second =
    elim (path_cmp b a) as (λ o. path_cmp b a ≡ o → IsLeast (λ p. P p ⊎ Q p) (if is_lt o then Some b else Some a)) [
      | Less ↦ λ is. (inr second.0, λ p has. elim has [ inl here ↦ (λ less. first.1 p here (path_total.trans p b a less is)) | inr there ↦ second.1 p there ])
      | Equal ↦ λ is. (inl first.0, λ p has. elim has [ inl here ↦ first.1 p here | inr there ↦ (λ less. second.1 p there (ap (path_cmp p) (path_exact b a is) ∙ less)) ])
      | Greater ↦ λ is. (
        inl first.0,
        λ p has. elim has [
          | inl here ↦ first.1 p here
          | inr there ↦ (λ less. second.1 p there (path_total.trans p a b less (path_total.antisymm a b ∙ ap ordering_reverse is)))
        ],
      )
    ] refl

push_same : (at : Path) (m n : List ℕ) → child_of at m ≡ child_of at n → m ≡ n
push_same [] m n same = cc same
push_same (a ∷ at) m n same = push_same at m n (cc same)

-- of names in ascending order, the first that passes gives the least path
abbrev pub IsListed : Path → List (List ℕ) → (List ℕ → Bool) → Path → Type 0
IsListed at names test path = (name : List ℕ) × (path ≡ child_of at name) × IsAmong (map (child_of at) names) path × (test name ≡ true)

first_least : (at : Path) (test : List ℕ → Bool) (names : List (List ℕ)) → IsRising (map (child_of at) names) → IsLeast (IsListed at names test) (option_map (child_of at) (find test names))
first_least at test [] rise = λ p listed. absurd listed.2
first_least at test (x ∷ xs) rise =
    elim (test x) as (λ b. test x ≡ b → IsLeast (IsListed at (x ∷ xs) test) (option_map (child_of at) (cond b (Some x) (find test xs)))) [
      | true ↦ λ passes. ((x, refl, inl refl, passes), λ p listed. after p listed.2)
      | false ↦ λ fails. least_by (IsListed at xs test) (IsListed at (x ∷ xs) test) (option_map (child_of at) (find test xs)) (λ p listed. (listed.0, listed.1, inr listed.2, listed.3)) (λ p listed. later fails p listed.0 listed.1 listed.3 listed.2) (first_least at test xs rise.1)
    ] refl
  where
    after : (p : Path) → IsAmong (child_of at x ∷ map (child_of at) xs) p → path_cmp p (child_of at x) ≢ Less
    after p (inl same) = not_itself p (child_of at x) (sym same)
    after p (inr among) = less_flip (child_of at x) p (among_all (λ q. path_cmp (child_of at x) q ≡ Less) (map (child_of at) xs) rise.0 p among)

    later : test x ≡ false → (p : Path) (name : List ℕ) → p ≡ child_of at name → test name ≡ true → IsAmong (child_of at x ∷ map (child_of at) xs) p → IsListed at xs test p
    later fails p name is passes (inl same) =
        let e : x ≡ name = push_same at x name (same ∙ is) in
        absurd (let f = sym (ap test e) ∙ fails in cc (f, passes))
    later fails p name is passes (inr among) = (name, is, among, passes)

-- the least path of a directory that passes
pub listed_least : (names : Names) (at : Path) (test : List ℕ → Bool) → IsLeast (IsNameIn names at test) (option_map (child_of at) (find test (children names at)))
listed_least names at test =
    least_by (IsListed at (children names at) test) (IsNameIn names at test) (option_map (child_of at) (find test (children names at)))
    (λ p listed. (listed.0, listed.1, (among_all (λ q. IsIn at q × (is_some (get names q) ≡ true)) (paths_in names at) (paths_stand names at) p listed.2).1, listed.3))
    (λ p has. (has.0, has.1, subst (IsAmong (paths_in names at)) (sym has.1) (path_among names at has.0 (ap (λ q. is_some (get names q)) (sym has.1) ∙ has.2)), has.3))
    (first_least at test (children names at) (paths_rise names at))

-- below what is no directory nothing stands
pub none_below : (names : Names) → IsTree names → (at : Path) → get names at ≢ Some Dir → (name : List ℕ) → is_some (get names (child_of at name)) ≡ true → ⊥
none_below names tree at other name stands = other (prefix_is_dir names at (name ∷ []) (λ z. absurd (omega arith)) (tree (child_of at name) stands))

pub none_least : (names : Names) → IsTree names → (at : Path) (test : List ℕ → Bool) → get names at ≢ Some Dir → IsLeast (IsNameIn names at test) None
none_least names tree at test other = λ p has. none_below names tree at other has.0 (ap (λ q. is_some (get names q)) (sym has.1) ∙ has.2)
