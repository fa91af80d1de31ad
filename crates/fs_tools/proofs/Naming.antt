-- The names in a directory, as they stand among all names.
use Rattle.std.proofs.Common.{◌≡◌, ◌<◌, ◌-◌, ◌∙◌, inl, inr, ℕ, suc, Bool, true, false, if◌then◌else◌, ◌||◌, List, [], ◌∷◌, length, take, get_or, map, Some, None, refl, sym, ap, subst, arith, length-append, T}
use Rattle.std.specs.Prelude.{◌&&◌, slice_get, is_some}
use Rattle.std.specs.List.{AllByRecursion, filter_map, cons_option, list_any}
use Rattle.std.specs.Ordering.{is_lt}
use Rattle.std.specs.declared.cmp.Ordering.{Ordering}
use Rattle.std.specs.declared.cmp.Ordering.TheVariants.{Less, Equal, Greater}
use Rattle.std.specs.FinMap.{get, keys, entries, entries_sorted, contains_key-keys, is_sorted}
use Rattle.std.specs.FinMap.Entries.{below_all}
use Rattle.std.proofs.Math.Seq.{take-suc, take-append_seam}
use Rattle.std.proofs.lemmas.List.{take_all}
use Rattle.std.proofs.lemmas.Option.{slice_get_within, slice_get-get_or}
use Rattle.fs_model.specs.declared.node.Node.{Node}
use Rattle.fs_model.specs.Names.{Path, path_cmp, same_path, parent}
use Rattle.fs_model.specs.PathLaws.{same_path_true, same_path_refl}
use Rattle.fs_model.specs.State.{Names}
use Rattle.fs_model.specs.Calls.{child_name, children}
use Rattle.fs_model.proofs.Lookups.{same_path_or}
use Rattle.fs_model.proofs.Runs.{all_weaker}
use Rattle.fs_tools.specs.Children.{child_of, paths_in, IsIn}
use Rattle.fs_tools.specs.Walked.{IsAmong}

pub all_among : {A : Type 0} (P : A → Type 0) (xs : List A) → ((x : A) → IsAmong xs x → P x) → AllByRecursion P xs
all_among P [] each = tt
all_among P (x ∷ xs) each = (each x (inl refl), all_among P xs (λ y among. each y (inr among)))

pub among_all : {A : Type 0} (P : A → Type 0) (xs : List A) → AllByRecursion P xs → (x : A) → IsAmong xs x → P x
among_all P [] all x none = absurd none
among_all P (y ∷ ys) all x (inl same) = subst P same all.0
among_all P (y ∷ ys) all x (inr among) = among_all P ys all.1 x among

pub all_both : {A : Type 0} (P Q : A → Type 0) (xs : List A) → AllByRecursion P xs → AllByRecursion Q xs → AllByRecursion (λ x. P x × Q x) xs
all_both P Q [] ps qs = tt
all_both P Q (x ∷ xs) ps qs = ((ps.0, qs.0), all_both P Q xs ps.1 qs.1)

either : (a b : Bool) → b ≡ true → (a || b) ≡ true
either true b h = refl
either false b h = h

any_among : (q : Path) (ks : List Path) → list_any (same_path q) ks ≡ true → IsAmong ks q
any_among q [] e = absurd (cc e)
any_among q (k ∷ ks) e = same_path_or q k (λ b. (b || list_any (same_path q) ks) ≡ true → IsAmong (k ∷ ks) q) (λ same _. inl (sym same)) (λ rest. inr (any_among q ks rest)) e

among_any : (q : Path) (ks : List Path) → IsAmong ks q → list_any (same_path q) ks ≡ true
among_any q [] none = absurd none
among_any q (k ∷ ks) (inl same) = ap (λ p. same_path q p || list_any (same_path q) ks) same ∙ ap (λ b. b || list_any (same_path q) ks) (same_path_refl q)
among_any q (k ∷ ks) (inr among) = either (same_path q k) (list_any (same_path q) ks) (among_any q ks among)

-- the keys of the names are the paths that stand
pub key_among : (names : Names) (q : Path) → is_some (get names q) ≡ true → IsAmong (keys names) q
key_among names q stands = any_among q (keys names) (sym (contains_key-keys names q) ∙ stands)

pub among_key : (names : Names) (q : Path) → IsAmong (keys names) q → is_some (get names q) ≡ true
among_key names q among = contains_key-keys names q ∙ among_any q (keys names) among

pub keys_stand : (names : Names) → AllByRecursion (λ k. is_some (get names k) ≡ true) (keys names)
keys_stand names = all_among (λ k. is_some (get names k) ≡ true) (keys names) (λ k among. among_key names k among)

-- each path is before those behind it
abbrev pub IsRising : List Path → Type 0
IsRising [] = Unit {0}
IsRising (p ∷ ps) = AllByRecursion (λ q. path_cmp p q ≡ Less) ps × IsRising ps

first : (a b : Bool) → T (a && b) → T a
first true b p = tt
first false b p = p

second : (a b : Bool) → T (a && b) → T b
second true b p = p
second false b p = absurd p

less : (o : Ordering) → T (is_lt o) → o ≡ Less
less Less p = refl
less Equal p = absurd p
less Greater p = absurd p

below_rise : (p : Path) (es : List (Path × Node)) → T (below_all path_cmp p es) → AllByRecursion (λ q. path_cmp p q ≡ Less) (map (λ e. e.0) es)
below_rise p [] below = tt
below_rise p (e ∷ es) below = (less (path_cmp p e.0) (first _ _ below), below_rise p es (second _ _ below))

sorted_rise : (es : List (Path × Node)) → T (is_sorted path_cmp es) → IsRising (map (λ e. e.0) es)
sorted_rise [] sorted = tt
sorted_rise (e ∷ es) sorted = (below_rise e.0 es (first _ _ sorted), sorted_rise es (second _ _ sorted))

pub keys_rise : (names : Names) → IsRising (keys names)
keys_rise names = sorted_rise (entries names) (entries_sorted names)

-- the last name of a path
last_is : (k : Path) (name : List ℕ) → slice_get k (length k - 1) ≡ Some name → k ≡ child_of (parent k) name
last_is k name found =
    let below = slice_get_within k (length k - 1) name found in
    let is : get_or k (length k - 1) name ≡ name = (let e = slice_get-get_or k (length k - 1) name below in cc (e, found)) in
    sym (take_all (suc (length k - 1)) k (omega arith)) ∙ take-suc k (length k - 1) name below ∙ ap (child_of (parent k)) is

pub child_is : (at k : Path) (name : List ℕ) → child_name at k ≡ Some name → k ≡ child_of at name
child_is at k name is =
    elim (same_path (parent k) at) as (λ b. same_path (parent k) at ≡ b → (if b then slice_get k (length k - 1) else None) ≡ Some name → k ≡ child_of at name) [
      | true ↦ λ same found. last_is k name found ∙ ap (λ dir. child_of dir name) (same_path_true (parent k) at same)
      | false ↦ λ same none. absurd (cc none)
    ] refl is

pub parent_child : (at : Path) (name : List ℕ) → parent (child_of at name) ≡ at
parent_child at name = ap (λ n. take n (child_of at name)) (let e = length-append at (name ∷ []) in omega arith) ∙ take-append_seam at (name ∷ [])

push_same : (at : Path) (m n : List ℕ) → child_of at m ≡ child_of at n → m ≡ n
push_same [] m n same = cc same
push_same (a ∷ at) m n same = push_same at m n (cc same)

pub name_of_child : (at : Path) (name : List ℕ) → child_name at (child_of at name) ≡ Some name
name_of_child at name =
    let q = child_of at name in
    let within : length q - 1 < length q = (let e = length-append at (name ∷ []) in omega arith) in
    let found = slice_get-get_or q (length q - 1) name within in
    let same : name ≡ get_or q (length q - 1) name = push_same at name (get_or q (length q - 1) name) (last_is q (get_or q (length q - 1) name) found ∙ ap (λ dir. child_of dir (get_or q (length q - 1) name)) (parent_child at name)) in
    ap (λ b. if b then slice_get q (length q - 1) else None) (ap (λ p. same_path p at) (parent_child at name) ∙ same_path_refl at) ∙ found ∙ ap (λ n. Some n) (sym same)

-- what the paths of some keys have, those of the names in a directory have
child_each : (at : Path) (P : Path → Type 0) (ks : List Path) → AllByRecursion P ks → AllByRecursion (λ p. IsIn at p × P p) (map (child_of at) (filter_map (child_name at) ks))
child_each at P [] all = tt
child_each at P (k ∷ ks) all =
    elim (child_name at k) as (λ o. child_name at k ≡ o → AllByRecursion (λ p. IsIn at p × P p) (map (child_of at) (cons_option o (filter_map (child_name at) ks)))) [
      | None ↦ λ _. child_each at P ks all.1
      | Some name ↦ λ is. (((name, refl), subst P (child_is at k name is) all.0), child_each at P ks all.1)
    ] refl

child_rise : (at : Path) (ks : List Path) → IsRising ks → IsRising (map (child_of at) (filter_map (child_name at) ks))
child_rise at [] rise = tt
child_rise at (k ∷ ks) rise =
    elim (child_name at k) as (λ o. child_name at k ≡ o → IsRising (map (child_of at) (cons_option o (filter_map (child_name at) ks)))) [
      | None ↦ λ _. child_rise at ks rise.1
      | Some name ↦ λ is. (
        all_weaker (λ p. IsIn at p × (path_cmp k p ≡ Less)) (λ q. path_cmp (child_of at name) q ≡ Less) (λ q both. subst (λ p. path_cmp p q ≡ Less) (child_is at k name is) both.1) (map (child_of at) (filter_map (child_name at) ks))
            (child_each at (λ q. path_cmp k q ≡ Less) ks rise.0),
        child_rise at ks rise.1,
      )
    ] refl

child_among : (at : Path) (name : List ℕ) (ks : List Path) → IsAmong ks (child_of at name) → IsAmong (map (child_of at) (filter_map (child_name at) ks)) (child_of at name)
child_among at name [] none = absurd none
child_among at name (k ∷ ks) (inl same) =
    subst (λ o. IsAmong (map (child_of at) (cons_option o (filter_map (child_name at) ks))) (child_of at name)) (sym (ap (child_name at) same ∙ name_of_child at name)) (inl refl)
child_among at name (k ∷ ks) (inr among) =
    elim (child_name at k) as (λ o. IsAmong (map (child_of at) (cons_option o (filter_map (child_name at) ks))) (child_of at name)) [
      | None ↦ child_among at name ks among
      | Some other ↦ inr (child_among at name ks among)
    ]

pub paths_stand : (names : Names) (at : Path) → AllByRecursion (λ p. IsIn at p × (is_some (get names p) ≡ true)) (paths_in names at)
paths_stand names at = child_each at (λ k. is_some (get names k) ≡ true) (keys names) (keys_stand names)

pub paths_rise : (names : Names) (at : Path) → IsRising (paths_in names at)
paths_rise names at = child_rise at (keys names) (keys_rise names)

pub path_among : (names : Names) (at : Path) (name : List ℕ) → is_some (get names (child_of at name)) ≡ true → IsAmong (paths_in names at) (child_of at name)
path_among names at name stands = child_among at name (keys names) (key_among names (child_of at name) stands)

-- a directory in which no name stands
pub no_children : (names : Names) (at : Path) → ((name : List ℕ) → is_some (get names (child_of at name)) ≡ true → ⊥) → children names at ≡ []
no_children names at none = empty (keys names) (all_weaker (λ k. is_some (get names k) ≡ true) (λ k. (name : List ℕ) → child_name at k ≡ Some name → ⊥) (λ k stands name is. none name (subst (λ p. is_some (get names p) ≡ true) (child_is at k name is) stands)) (keys names) (keys_stand names))
  where
    empty : (ks : List Path) → AllByRecursion (λ k. (name : List ℕ) → child_name at k ≡ Some name → ⊥) ks → filter_map (child_name at) ks ≡ []
    empty [] each = refl
    empty (k ∷ ks) each =
        elim (child_name at k) as (λ o. child_name at k ≡ o → cons_option o (filter_map (child_name at) ks) ≡ []) [
          | None ↦ λ _. empty ks each.1
          | Some name ↦ λ is. absurd (each.0 name is)
        ] refl
