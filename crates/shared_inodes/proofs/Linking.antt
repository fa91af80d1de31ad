-- The locations that links lead to, collected one after another.
use Rattle.std.proofs.Common.{◌≡◌, ◌<◌, ◌+◌, ◌++◌, ◌∙◌, ℕ, List, [], ◌∷◌, length, take, get_or, Option, Some, None, refl, sym, ap, append_assoc, add-one}
use Rattle.std.specs.Prelude.{option_to_list}
use Rattle.std.specs.List.{filter_map, cons_option}
use Rattle.std.proofs.Math.Seq.{take-suc}
use Rattle.fs_model.specs.Names.{Path}
use Rattle.fs_model.specs.State.{Names}
use Rattle.fs_model.specs.WellFormed.{IsTree}
use Rattle.std.proofs.lemmas.List.{append-nil}
use Rattle.fs_tools.proofs.Naming.{no_children}
use Rattle.crash_safety.specs.Places.{locations, links_at, target_at}
use Rattle.tree_checks.specs.Looks.{names_at}
use Rattle.tree_checks.proofs.Leasts.{none_below}
use Rattle.tree_checks.proofs.Looking.{listed_is, unlisted_is}

one_more : (f : List ℕ → Option Path) (names : List (List ℕ)) (name : List ℕ) → filter_map f (names ++ name ∷ []) ≡ filter_map f names ++ option_to_list (f name)
one_more f [] name = elim (f name) as (λ o. cons_option o [] ≡ option_to_list o) [ None ↦ refl | Some path ↦ refl ]
one_more f (first ∷ names) name =
    ap (cons_option (f first)) (one_more f names name) ∙ elim (f first) as (λ o. cons_option o (filter_map f names ++ option_to_list (f name)) ≡ cons_option o (filter_map f names) ++ option_to_list (f name)) [ None ↦ refl | Some path ↦ refl ]

-- the next name's target comes behind those of the names before it
pub linked_next : (f : List ℕ → Option Path) (names : List (List ℕ)) (i : ℕ) (name : List ℕ) → i < length names → name ≡ get_or names i name → (start before after : List Path) (target : Option Path)
    → before ≡ start ++ filter_map f (take i names) → target ≡ f name → after ≡ before ++ option_to_list target → after ≡ start ++ filter_map f (take (i + 1) names)
linked_next f names i name below is start before after target front shown added =
    let taken : take (i + 1) names ≡ take i names ++ name ∷ [] = ap (λ n. take n names) (add-one i) ∙ take-suc names i name below ∙ ap (λ n. take i names ++ n ∷ []) (sym is) in
    added ∙ (λ j. front j ++ option_to_list (shown j)) ∙ append_assoc start (filter_map f (take i names)) (option_to_list (f name))
    ∙ ap (λ l. start ++ l) (sym (ap (filter_map f) taken ∙ one_more f (take i names) name))

-- of a directory's names, the targets are its locations
pub linked_all : (names : Names) (root : Path) (items : List (List ℕ)) (start after : List Path) → Some items ≡ names_at names (links_at root) → after ≡ start ++ filter_map (target_at names (links_at root)) items → after ≡ start ++ locations names root
linked_all names root items start after listed is = is ∙ ap (λ l. start ++ filter_map (target_at names (links_at root)) l) (listed_is names (links_at root) items listed)

-- without a directory there is no location
pub linked_none : (names : Names) (root : Path) (start : List Path) → IsTree names → None ≡ names_at names (links_at root) → start ≡ start ++ locations names root
linked_none names root start tree unlisted =
    let none = no_children names (links_at root) (λ name stands. none_below names tree (links_at root) (unlisted_is names (links_at root) unlisted) name stands) in
    sym (ap (λ l. start ++ filter_map (target_at names (links_at root)) l) none ∙ append-nil start)
