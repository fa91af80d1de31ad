-- The names stay a tree: what stands has directories on its way.
use Rattle.std.proofs.Common.{◌≡◌, ℕ, Bool, true, false, ⊎_elim, List, [], ◌∷◌, ◌++◌, length, ◌-◌, ◌<◌, Option, Some, None, refl, sym, ◌∙◌, ap, append_assoc, append-nil, arith, length-append}
use Rattle.std.specs.Prelude.{is_some, ◌||◌, slice_get, if◌then◌else◌}
use Rattle.std.specs.List.{list_any}
use Rattle.std.specs.FinMap as map
use Rattle.std.proofs.lemmas.Grind.{common_steps}
use Rattle.std.proofs.lemmas.Option.{slice_get-get_or}
use Rattle.fs_model.specs.declared.node.Node.{Node}
use Rattle.fs_model.specs.declared.error.FsError.{FsError}
use Rattle.fs_model.specs.Names.{Path, same_path, parent}
use Rattle.fs_model.specs.PathLaws.{same_path_refl}
use Rattle.fs_model.specs.State.{Names}
use Rattle.fs_model.specs.Effects.{set_name}
use Rattle.fs_model.specs.Calls.{or_else, no_dir, taken, blocked, blocked_from, child_name, has_child}
use Rattle.fs_model.specs.WellFormed.{IsTree}
use Rattle.fs_state.proofs.Preserved.{same_cases, get_set_same, get_set_other}

-- no refusal of two is none of either
pub or_else_none : (first later : Option FsError) → or_else first later ≡ None → (first ≡ None) × (later ≡ None)
or_else_none None later none = (refl, none)
or_else_none (Some error) later none = cc

pub none_or_else : (first later : Option FsError) → first ≡ None → later ≡ None → or_else first later ≡ None
none_or_else first later f l = ap (λ x. or_else x later) f ∙ l

pub taken_none : (node : Option Node) → taken node ≡ None → node ≡ None
taken_none None free = refl
taken_none (Some node) free = cc

-- where directories stay, a way stays open
open_kept : (names names' : Names) → ((p : Path) → no_dir (map.get names p) ≡ None → no_dir (map.get names' p) ≡ None) → (done rest : Path) → blocked_from names done rest ≡ None → blocked_from names' done rest ≡ None
open_kept names names' kept done [] is_open = refl
open_kept names names' kept done (name ∷ rest) is_open =
    let both = or_else_none (no_dir (map.get names done)) (blocked_from names (done ++ name ∷ []) rest) is_open in
    none_or_else (no_dir (map.get names' done)) (blocked_from names' (done ++ name ∷ []) rest) (kept done both.0) (open_kept names names' kept (done ++ name ∷ []) rest both.1)

-- a change at what is no directory leaves every directory
dirs_kept : (names : Names) (path : Path) (node : Option Node) → (no_dir (map.get names path) ≡ None → ⊥) → (p : Path) → no_dir (map.get names p) ≡ None → no_dir (map.get (set_name names path node) p) ≡ None
dirs_kept names path node never p dir =
    ⊎_elim
    (λ same. absurd (never (ap (λ q. no_dir (map.get names q)) (sym same) ∙ dir)))
    (λ other. ap no_dir (get_set_other names path node p other) ∙ dir)
    (same_cases p path)

-- an open way stays open where what is no directory changes
pub way_stays : (names : Names) (path : Path) → (no_dir (map.get names path) ≡ None → ⊥) → (q : Path) → blocked names q ≡ None → blocked (set_name names path None) q ≡ None
way_stays names path never q = open_kept names (set_name names path None) (dirs_kept names path None never) [] q

pub tree_set : (names : Names) → IsTree names → (path : Path) (node : Option Node) → (no_dir (map.get names path) ≡ None → ⊥) → blocked names path ≡ None → IsTree (set_name names path node)
tree_set names tree path node never is_open q stands =
    let kept = open_kept names (set_name names path node) (dirs_kept names path node never) [] in
    ⊎_elim
    (λ same. kept q (ap (blocked names) same ∙ is_open))
    (λ other. kept q (tree q (ap is_some (sym (get_set_other names path node q other)) ∙ stands)))
    (same_cases q path)

-- what stands in a list passes the test that it passes
any_of : (p : Path) (test : Path → Bool) → test p ≡ true → (paths : List Path) → list_any (same_path p) paths ≡ true → list_any test paths ≡ true
any_of p test passes [] stands = cc
any_of p test passes (q ∷ paths) stands =
    ⊎_elim
    (λ same. ap (λ r. test r || list_any test paths) (sym same) ∙ ap (λ b. b || list_any test paths) passes)
    (λ other. either (test q) (list_any test paths) (any_of p test passes paths (ap (λ b. b || list_any (same_path p) paths) (sym other) ∙ stands)))
    (same_cases p q)
  where
    either : (a b : Bool) → b ≡ true → a || b ≡ true
    either true b h = refl
    either false b h = h

parent_push : (path : Path) (name : List ℕ) → parent (path ++ name ∷ []) ≡ path
parent_push path name = grind (arith, common_steps)

last_stands : (path : Path) (name : List ℕ) → is_some (slice_get (path ++ name ∷ []) (length (path ++ name ∷ []) - 1)) ≡ true
last_stands path name =
    let within : length (path ++ name ∷ []) - 1 < length (path ++ name ∷ []) = omega (arith, length-append path (name ∷ [])) in
    ap is_some (slice_get-get_or (path ++ name ∷ []) (length (path ++ name ∷ []) - 1) name within)

child_stands : (path : Path) (name : List ℕ) → is_some (child_name path (path ++ name ∷ [])) ≡ true
child_stands path name =
    ap (λ b. is_some (if b then slice_get (path ++ name ∷ []) (length (path ++ name ∷ []) - 1) else None)) (ap (λ p. same_path p path) (parent_push path name) ∙ same_path_refl path)
    ∙ last_stands path name

has_child_there : (names : Names) (path : Path) (name : List ℕ) → is_some (map.get names (path ++ name ∷ [])) ≡ true → has_child names path ≡ true
has_child_there names path name stands =
    any_of (path ++ name ∷ []) (λ p. is_some (child_name path p)) (child_stands path name) (map.keys names) (sym (map.contains_key-keys names (path ++ name ∷ [])) ∙ stands)

dir_stands : (node : Option Node) → no_dir node ≡ None → is_some node ≡ true
dir_stands None dir = cc
dir_stands (Some node) dir = refl

-- the next name of an open way stands
next_stands : (names : Names) (done : Path) (name : List ℕ) (rest : Path) → is_some (map.get names (done ++ name ∷ rest)) ≡ true → blocked_from names (done ++ name ∷ []) rest ≡ None → is_some (map.get names (done ++ name ∷ [])) ≡ true
next_stands names done name [] stands is_open = stands
next_stands names done name (next ∷ rest) stands is_open = dir_stands (map.get names (done ++ name ∷ [])) (or_else_none (no_dir (map.get names (done ++ name ∷ []))) (blocked_from names ((done ++ name ∷ []) ++ next ∷ []) rest) is_open).0

module _ (names : Names) (path : Path) (empty : has_child names path ≡ false) where
  open_without : (done rest : Path) → is_some (map.get names (done ++ rest)) ≡ true → blocked_from names done rest ≡ None → blocked_from (set_name names path None) done rest ≡ None
  open_without done [] stands is_open = refl
  open_without done (name ∷ rest) stands is_open =
      let both = or_else_none (no_dir (map.get names done)) (blocked_from names (done ++ name ∷ []) rest) is_open in
      let child = next_stands names done name rest stands both.1 in
      none_or_else (no_dir (map.get (set_name names path None) done)) (blocked_from (set_name names path None) (done ++ name ∷ []) rest)
      (⊎_elim
      (λ same. let yes : true ≡ false = sym (has_child_there names path name (ap (λ p. is_some (map.get names (p ++ name ∷ []))) (sym same) ∙ child)) ∙ empty in cc)
      (λ other. ap no_dir (get_set_other names path None done other) ∙ both.0)
      (same_cases done path))
      (open_without (done ++ name ∷ []) rest (ap (λ p. is_some (map.get names p)) (append_assoc done (name ∷ []) rest) ∙ stands) both.1)

  pub tree_without : IsTree names → IsTree (set_name names path None)
  tree_without tree q stands =
      ⊎_elim
      (λ same. let gone : is_some {T = Node} None ≡ true = ap is_some (sym (get_set_same names path None)) ∙ ap (λ p. is_some (map.get (set_name names path None) p)) (sym same) ∙ stands in cc)
      (λ other. let stood = ap is_some (sym (get_set_other names path None q other)) ∙ stands in open_without [] q stood (tree q stood))
      (same_cases q path)

-- a way that is open stays so behind a directory
pub blocked_push : (names : Names) (done rest : Path) (name : List ℕ) → blocked_from names done rest ≡ None → no_dir (map.get names (done ++ rest)) ≡ None → blocked_from names done (rest ++ name ∷ []) ≡ None
blocked_push names done [] name is_open dir = none_or_else (no_dir (map.get names done)) None (ap (λ p. no_dir (map.get names p)) (sym (append-nil done)) ∙ dir) refl
blocked_push names done (next ∷ rest) name is_open dir =
    let both = or_else_none (no_dir (map.get names done)) (blocked_from names (done ++ next ∷ []) rest) is_open in
    none_or_else (no_dir (map.get names done)) (blocked_from names (done ++ next ∷ []) (rest ++ name ∷ [])) both.0
    (blocked_push names (done ++ next ∷ []) rest name both.1 (ap (λ p. no_dir (map.get names p)) (append_assoc done (next ∷ []) rest) ∙ dir))
