-- Every effect that a call may have keeps a state well-formed.
use Rattle.std.proofs.Common.{◌≡◌, ◌≢◌, ◌⊎◌, ℕ, Bool, true, false, cond, inl, inr, ⊎_elim, List, [], ◌∷◌, ◌++◌, Option, Some, None, refl, sym, ◌∙◌, ap, subst}
use Rattle.std.specs.Prelude.{is_some}
use Rattle.std.specs.List.{AllByRecursion, filter}
use Rattle.std.specs.FinMap as map
use Rattle.fs_model.specs.declared.node.Node.{Node}
use Rattle.fs_model.specs.declared.node.Node.TheVariants.{Dir, File, Sym}
use Rattle.fs_model.specs.Names.{Path, same_path}
use Rattle.fs_model.specs.PathLaws.{path_total, same_path_true, same_path_refl}
use Rattle.fs_model.specs.State.{Names, Contents, Change, Devices}
use Rattle.fs_model.specs.Effects.{set_name, changed, all_changed}
use Rattle.fs_model.specs.WellFormed.{Each, EachPair, IsKnown, IsBelowRoot}

-- what stands at a path after one name changed
get_set : (names : Names) (path : Path) (node : Option Node) (q : Path) → map.get (set_name names path node) q ≡ cond (same_path q path) node (map.get names q)
get_set names path (Some node) q = map.get-insert path_total names path node q
get_set names path None q = map.get-remove path_total names path q

pub same_cases : (q p : Path) → (q ≡ p) ⊎ (same_path q p ≡ false)
same_cases q p =
    elim (same_path q p) as (λ b. same_path q p ≡ b → (q ≡ p) ⊎ (b ≡ false)) [ true ↦ λ e. inl (same_path_true q p e) | false ↦ λ e. inr refl ] refl

pub get_set_same : (names : Names) (path : Path) (node : Option Node) → map.get (set_name names path node) path ≡ node
get_set_same names path node = get_set names path node path ∙ ap (λ b. cond b node (map.get names path)) (same_path_refl path)

pub get_set_other : (names : Names) (path : Path) (node : Option Node) (q : Path) → same_path q path ≡ false → map.get (set_name names path node) q ≡ map.get names q
get_set_other names path node q other = get_set names path node q ∙ ap (λ b. cond b node (map.get names q)) other

-- what each name has, each name has after changes that have it
pub each_set : (P : Path → Option Node → Type 0) (names : Names) → Each P names → (path : Path) (node : Option Node) → P path node → Each P (set_name names path node)
each_set P names each path node here q =
    ⊎_elim
    (λ same. subst (λ p. P p (map.get (set_name names path node) p)) (sym same) (subst (P path) (sym (get_set_same names path node)) here))
    (λ other. subst (P q) (sym (get_set_other names path node q other)) (each q))
    (same_cases q path)

pub each_changed : (P : Path → Option Node → Type 0) (names : Names) (change : Change) → Each P names → EachPair P change → Each P (changed names change)
each_changed P names [] each pairs = each
each_changed P names (pair ∷ change) each pairs = each_changed P (set_name names pair.0 pair.1) change (each_set P names each pair.0 pair.1 pairs.0) pairs.1

pub each_all_changed : (P : Path → Option Node → Type 0) (names : Names) (changes : List Change) → Each P names → AllByRecursion (EachPair P) changes → Each P (all_changed names changes)
each_all_changed P names [] each all = each
each_all_changed P names (change ∷ changes) each all = each_all_changed P (changed names change) changes (each_changed P names change each all.0) all.1

pub all_filter : {X : Type 0} (P : X → Type 0) (test : X → Bool) (xs : List X) → AllByRecursion P xs → AllByRecursion P (filter test xs)
all_filter P test [] all = tt
all_filter P test (x ∷ xs) all =
    elim (test x) as (λ b. AllByRecursion P (cond b (x ∷ filter test xs) (filter test xs))) [ true ↦ (all.0, all_filter P test xs all.1) | false ↦ all_filter P test xs all.1 ]

pub all_push : {X : Type 0} (P : X → Type 0) (xs : List X) (x : X) → AllByRecursion P xs → P x → AllByRecursion P (xs ++ x ∷ [])
all_push P [] x all here = (here, tt)
all_push P (y ∷ ys) x all here = (all.0, all_push P ys x all.1 here)

pub all_map : {X : Type 0} (P Q : X → Type 0) → ((x : X) → P x → Q x) → (xs : List X) → AllByRecursion P xs → AllByRecursion Q xs
all_map P Q f [] all = tt
all_map P Q f (x ∷ xs) all = (f x all.0, all_map P Q f xs all.1)

-- what changes leave at the root
pub root_set : (names : Names) (path : Path) (node : Option Node) → path ≢ [] → map.get (set_name names path node) [] ≡ map.get names []
root_set names path node below = ⊎_elim (λ same. absurd (below (sym same))) (λ other. get_set_other names path node [] other) (same_cases [] path)

pub root_changed : (names : Names) (change : Change) → EachPair IsBelowRoot change → map.get (changed names change) [] ≡ map.get names []
root_changed names [] pairs = refl
root_changed names (pair ∷ change) pairs = root_changed (set_name names pair.0 pair.1) change pairs.1 ∙ root_set names pair.0 pair.1 pairs.0

pub root_all_changed : (names : Names) (changes : List Change) → AllByRecursion (EachPair IsBelowRoot) changes → map.get (all_changed names changes) [] ≡ map.get names []
root_all_changed names [] all = refl
root_all_changed names (change ∷ changes) all = root_all_changed (changed names change) changes all.1 ∙ root_changed names change all.0

-- more bytes and more devices are known
pub more_known : (bytes bytes' : Contents) (devices devices' : Devices)
    → ((inode : ℕ) → is_some (map.get bytes inode) ≡ true → is_some (map.get bytes' inode) ≡ true)
    → ((dir : Path) → is_some (map.get devices dir) ≡ true → is_some (map.get devices' dir) ≡ true)
    → (path : Path) (node : Option Node) → IsKnown bytes devices path node → IsKnown bytes' devices' path node
more_known bytes bytes' devices devices' b d path None known = tt
more_known bytes bytes' devices devices' b d path (Some Dir) known = d path known
more_known bytes bytes' devices devices' b d path (Some (File inode)) known = b inode known
more_known bytes bytes' devices devices' b d path (Some (Sym target)) known = tt
