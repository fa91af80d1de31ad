-- What a change of names leaves at each path, and a change of bytes in each inode.
use Rattle.std.proofs.Common.{◌≡◌, ◌≢◌, ℕ, Bool, true, false, cond, List, [], ◌∷◌, Option, Some, None, refl, sym, ◌∙◌, ap, subst}
use Rattle.std.specs.Ordering.{is_eq, eq_by_cmp, nat_cmp}
use Rattle.std.specs.declared.cmp.Ordering.TheVariants.{Less, Equal, Greater}
use Rattle.std.specs.Cmp.{tied_itself, nat_cmp_total}
use Rattle.std.specs.List.{AllByRecursion}
use Rattle.std.specs.FinMap.{FinMap, get, insert, remove, get-insert, get-remove, nat_cmp-IsAntisymmetric}
use Rattle.fs_model.specs.declared.node.Node.{Node}
use Rattle.fs_model.specs.Names.{Path, path_cmp, same_path}
use Rattle.fs_model.specs.PathLaws.{path_total, path_exact}
use Rattle.fs_model.specs.State.{Names, Change}
use Rattle.fs_model.specs.Effects.{set_name, changed, all_changed}
use Rattle.fs_model.specs.WellFormed.{Each, EachPair}

pub get-set_name : (names : Names) (p : Path) (node : Option Node) (q : Path) → get (set_name names p node) q ≡ cond (same_path q p) node (get names q)
get-set_name names p (Some node) q = get-insert path_total names p node q
get-set_name names p None q = get-remove path_total names p q

-- two paths are the same, or the test says no
pub same_path_or : (q p : Path) (P : Bool → Type 0) → (q ≡ p → P true) → P false → P (same_path q p)
same_path_or q p P here other =
    elim (path_cmp q p) as (λ r. path_cmp q p ≡ r → P (is_eq r)) [ Less ↦ λ _. other | Equal ↦ λ e. here (path_exact q p e) | Greater ↦ λ _. other ] refl

pub set_name_here : (names : Names) (p : Path) (node : Option Node) → get (set_name names p node) p ≡ node
set_name_here names p node = get-set_name names p node p ∙ ap (λ r. cond (is_eq r) node (get names p)) (tied_itself path_total p)

pub set_name_other : (names : Names) (p : Path) (node : Option Node) (q : Path) → q ≢ p → get (set_name names p node) q ≡ get names q
set_name_other names p node q apart = get-set_name names p node q ∙ same_path_or q p (λ b. cond b node (get names q) ≡ get names q) (λ e. absurd (apart e)) refl

pub each_set : (P : Path → Option Node → Type 0) (names : Names) (p : Path) (node : Option Node) → Each P names → P p node → Each P (set_name names p node)
each_set P names p node each here q =
    subst (P q) (sym (get-set_name names p node q))
    (same_path_or q p (λ b. P q (cond b node (get names q))) (λ e. subst (λ x. P x node) (sym e) here) (each q))

pub each_changed : (P : Path → Option Node → Type 0) (names : Names) (change : Change) → Each P names → EachPair P change → Each P (changed names change)
each_changed P names [] each all = each
each_changed P names (pair ∷ pairs) each all = each_changed P (set_name names pair.0 pair.1) pairs (each_set P names pair.0 pair.1 each all.0) all.1

pub each_all_changed : (P : Path → Option Node → Type 0) (names : Names) (changes : List Change) → Each P names → AllByRecursion (EachPair P) changes → Each P (all_changed names changes)
each_all_changed P names [] each all = each
each_all_changed P names (change ∷ changes) each all = each_all_changed P (changed names change) changes (each_changed P names change each all.0) all.1

-- two numbers are the same, or the test says no
pub same_number_or : (i j : ℕ) (P : Bool → Type 0) → (i ≡ j → P true) → P false → P (eq_by_cmp nat_cmp i j)
same_number_or i j P here other =
    elim (nat_cmp i j) as (λ r. nat_cmp i j ≡ r → P (is_eq r)) [ Less ↦ λ _. other | Equal ↦ λ e. here (nat_cmp-IsAntisymmetric i j e) | Greater ↦ λ _. other ] refl

module _ {X : Type 0} where
  pub insert_here : (m : FinMap nat_cmp X) (j : ℕ) (x : X) → get (insert m j x) j ≡ Some x
  insert_here m j x = get-insert nat_cmp_total m j x j ∙ ap (λ r. cond (is_eq r) (Some x) (get m j)) (tied_itself nat_cmp_total j)

  pub insert_other : (m : FinMap nat_cmp X) (j : ℕ) (x : X) (i : ℕ) → i ≢ j → get (insert m j x) i ≡ get m i
  insert_other m j x i apart = get-insert nat_cmp_total m j x i ∙ same_number_or i j (λ b. cond b (Some x) (get m i) ≡ get m i) (λ e. absurd (apart e)) refl

  pub remove_other : (m : FinMap nat_cmp X) (j i : ℕ) → i ≢ j → get (remove m j) i ≡ get m i
  remove_other m j i apart = get-remove nat_cmp_total m j i ∙ same_number_or i j (λ b. cond b None (get m i) ≡ get m i) (λ e. absurd (apart e)) refl
