-- Faults come in the order of the entries, and what was put in stands.
use Rattle.std.proofs.Common.{◌≡◌, ℕ, ◌+◌, Bool, true, false, cond, List, [], ◌∷◌, ◌++◌, length, Option, Some, None, refl, ◌∙◌, ap, arith}
use Rattle.std.specs.Prelude.{is_some, ◌||◌}
use Rattle.std.specs.Option.{option_or}
use Rattle.std.specs.List.{list_any}
use Rattle.std.specs.FinMap as map
use Rattle.fs_model.specs.declared.node.Node.{Node}
use Rattle.fs_model.specs.declared.node.Node.TheVariants.{Dir as DirNode}
use Rattle.fs_model.specs.Names.{Path, path_cmp, same_path}
use Rattle.fs_model.specs.PathLaws.{path_total}
use Rattle.fs_model.specs.State.{Names, Contents}
use Rattle.fs_model.specs.Calls.{is_root}
use Rattle.fs_mem.specs.declared.tree.Entry.{Entry}
use Rattle.fs_mem.specs.declared.error.TreeError.{TreeError}
use Rattle.fs_mem.specs.Laws.{FaultsComeInOrder, EntriesStand}
use Rattle.fs_mem.specs.Tree.{node_of, with_name, with_contents, fault_of, fault_from, names_from, contents_from, root_names, no_contents}

first_of_none : (fault : Option TreeError) → option_or fault None ≡ fault
first_of_none None = refl
first_of_none (Some fault) = refl

first_of_assoc : (a b d : Option TreeError) → option_or a (option_or b d) ≡ option_or (option_or a b) d
first_of_assoc None b d = refl
first_of_assoc (Some fault) b d = refl

fault_push : (names : Names) (contents : Contents) (index : ℕ) (items : List (Path × Entry)) (item : Path × Entry)
    → fault_from names contents index (items ++ item ∷ []) ≡ option_or (fault_from names contents index items) (fault_of (names_from names items) (contents_from contents items) (index + length items) item)
fault_push names contents index [] item =
    let same : index ≡ index + length {A = Path × Entry} [] = omega arith in
    first_of_none (fault_of names contents index item) ∙ ap (λ i. fault_of names contents i item) same
fault_push names contents index (first ∷ items) item =
    let last : ℕ → Option TreeError = λ i. fault_of (names_from (with_name names first) items) (contents_from (with_contents contents first) items) i item in
    let same : index + 1 + length items ≡ index + length (first ∷ items) = omega arith in
    ap (option_or (fault_of names contents index first)) (fault_push (with_name names first) (with_contents contents first) (index + 1) items item)
    ∙ first_of_assoc (fault_of names contents index first) (fault_from (with_name names first) (with_contents contents first) (index + 1) items) (last (index + 1 + length items))
    ∙ ap (λ i. option_or (fault_from names contents index (first ∷ items)) (last i)) same

pub in_order : FaultsComeInOrder
in_order items item =
    let same : 0 + length items ≡ length items = omega arith in
    fault_push root_names no_contents 0 items item ∙ ap (λ i. option_or (fault_from root_names no_contents 0 items) (fault_of (names_from root_names items) (contents_from no_contents items) i item)) same

or_some : (same more : Bool) (at : Option Node) (node : Node) → (is_some (cond same (Some node) at) || more) ≡ (is_some at || (same || more))
or_some true true None node = refl
or_some true false None node = refl
or_some true true (Some at) node = refl
or_some true false (Some at) node = refl
or_some false more None node = refl
or_some false more (Some at) node = refl

stands_from : (names : Names) (items : List (Path × Entry)) (path : Path) → is_some (map.get (names_from names items) path) ≡ (is_some (map.get names path) || list_any (λ item. same_path path item.0) items)
stands_from names [] path = or_false (is_some (map.get names path))
  where
    or_false : (b : Bool) → b ≡ (b || false)
    or_false true = refl
    or_false false = refl
stands_from names (item ∷ items) path =
    stands_from (with_name names item) items path
    ∙ ap (λ at. is_some at || list_any (λ item. same_path path item.0) items) (map.get-insert path_total names item.0 (node_of item.1) path)
    ∙ or_some (same_path path item.0) (list_any (λ item. same_path path item.0) items) (map.get names path) (node_of item.1)

abbrev no_names : Names
no_names = map.empty

root_alone : (path : Path) → is_some (map.get root_names path) ≡ is_root path
root_alone path = ap is_some (map.get-insert path_total no_names [] DirNode path ∙ ap (cond (same_path path []) (Some DirNode)) (map.get-empty path_cmp path)) ∙ alone path
  where
    alone : (path : Path) → is_some (cond (same_path path []) (Some DirNode) None) ≡ is_root path
    alone [] = refl
    alone (name ∷ names) = refl

pub stand : EntriesStand
stand items path = stands_from root_names items path ∙ ap (λ b. b || list_any (λ item. same_path path item.0) items) (root_alone path)
