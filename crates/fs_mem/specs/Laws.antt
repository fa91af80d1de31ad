-- Laws over trees.
use Rattle.std.specs.Prelude.{◌≡◌, ◌||◌, List, [], ◌∷◌, ◌++◌, length, is_some}
use Rattle.std.specs.Option.{option_or}
use Rattle.std.specs.List.{list_any}
use Rattle.std.specs.FinMap as map
use Rattle.fs_model.specs.Names.{Path, same_path}
use Rattle.fs_model.specs.Calls.{is_root}
use Rattle.fs_mem.specs.declared.tree.Entry.{Entry}
use Rattle.fs_mem.specs.Tree.{fault_of, tree_fault, names_from, contents_from, root_names, no_contents}

-- the fault of a list with one entry more is that of the list, or else that of the entry behind all of the list
abbrev pub FaultsComeInOrder : Type 0
FaultsComeInOrder =
    (items : List (Path × Entry)) (item : Path × Entry)
    → tree_fault (items ++ item ∷ []) ≡ option_or (tree_fault items) (fault_of (names_from root_names items) (contents_from no_contents items) (length items) item)

-- the root stands, and the paths of the entries, and no others
abbrev pub EntriesStand : Type 0
EntriesStand = (items : List (Path × Entry)) (path : Path) → is_some (map.get (names_from root_names items) path) ≡ (is_root path || list_any (λ item. same_path path item.0) items)
