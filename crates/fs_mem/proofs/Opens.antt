-- The state that a tree opens with is on the disk and well-formed.
use Rattle.std.proofs.Common.{◌≡◌, ℕ, ◌+◌, ◌-◌, ◌<◌, Bool, true, false, cond, not, List, [], ◌∷◌, ◌++◌, length, take, get_or, Option, Some, None, refl, sym, ◌∙◌, ap, subst, arith, take_all}
use Rattle.std.specs.Prelude.{is_some, if◌then◌else◌}
use Rattle.std.specs.Option.{option_or}
use Rattle.std.specs.Ordering.{nat_cmp}
use Rattle.std.specs.FinMap as map
use Rattle.std.proofs.lemmas.List.{take_more}
use Rattle.fs_model.specs.declared.node.Node.{Node}
use Rattle.fs_model.specs.declared.node.Node.TheVariants.{Dir as DirNode, File as FileNode, Sym as SymNode}
use Rattle.fs_model.specs.Names.{Path, path_cmp, parent}
use Rattle.fs_model.specs.State.{Names, Contents, Devices}
use Rattle.fs_model.specs.Calls.{no_dir, blocked}
use Rattle.fs_model.specs.Crash.{Settled}
use Rattle.fs_model.specs.WellFormed.{Each, IsTree, IsKnown, WellFormed}
use Rattle.fs_model.specs.PathLaws.{path_total, same_path_refl}
use Rattle.fs_state.proofs.Preserved.{each_set, more_known, root_set}
use Rattle.fs_state.proofs.Ways.{tree_set, blocked_push}
use Rattle.fs_state.proofs.Kept.{still, still_device, inserted_there, inserted_device}
use Rattle.fs_state.proofs.Imaged.{IsSound, settled_well_formed}
use Rattle.fs_mem.specs.declared.tree.Entry.{Entry}
use Rattle.fs_mem.specs.declared.tree.Entry.TheVariants.{Dir, File, Sym}
use Rattle.fs_mem.specs.declared.error.TreeError.{TreeError}
use Rattle.fs_mem.specs.declared.error.TreeError.TheVariants.{NoParent, Twice, InodeDiffers}
use Rattle.fs_mem.specs.Tree.{node_of, with_name, with_contents, with_device, with_file, with_dir, is_dir, differs, fault_of, fault_from, tree_fault, names_from, contents_from, devices_from, root_names, root_devices, no_contents, opening_of}

first_none : (first later : Option TreeError) → option_or first later ≡ None → (first ≡ None) × (later ≡ None)
first_none None later none = (refl, none)
first_none (Some fault) later none = cc

no_fault : (dir stood other : Bool) (a b d : TreeError) → (if not dir then Some a else (if stood then Some b else (if other then Some d else None))) ≡ None → (dir ≡ true) × (stood ≡ false) × (other ≡ false)
no_fault true true other a b d h = cc
no_fault true false true a b d h = cc
no_fault true false false a b d h = (refl, refl, refl)
no_fault false stood other a b d h = cc

dir_node : (at : Option Node) → is_dir at ≡ true → at ≡ Some DirNode
dir_node None dir = cc
dir_node (Some DirNode) dir = refl
dir_node (Some (FileNode inode)) dir = cc
dir_node (Some (SymNode target)) dir = cc

nothing_there : (at : Option Node) → is_some at ≡ false → at ≡ None
nothing_there None h = refl
nothing_there (Some x) h = cc

never_none : (at : Option Node) → at ≡ None → no_dir at ≡ None → ⊥
never_none None free h = cc
never_none (Some x) free h = cc

-- a path with names is its directory with one name more
parent_last : (path : Path) → 0 < length path → path ≡ parent path ++ get_or path (length path - 1) [] ∷ []
parent_last path long =
    let within : length path - 1 < length path = omega arith in
    let all : length path - 1 + 1 ≡ length path = omega arith in
    sym (sym (take_more path (length path - 1) [] within) ∙ ap (λ n. take n path) all ∙ take_all (length path) path (omega arith))

has_names : (names : Names) → map.get names [] ≡ Some DirNode → (path : Path) → map.get names path ≡ None → 0 < length path
has_names names root [] free = let clash : None ≡ Some DirNode = sym free ∙ root in cc
has_names names root (name ∷ path) free = omega arith

module _ (names : Names) (contents : Contents) (devices : Devices) (sound : IsSound names contents devices) (path : Path) (entry : Entry) where
  way_open : map.get names (parent path) ≡ Some DirNode → map.get names path ≡ None → blocked names path ≡ None
  way_open dir free =
      let dir_way : blocked names (parent path) ≡ None = sound.tree (parent path) (ap is_some dir) in
      ap (blocked names) (parent_last path (has_names names sound.root path free))
      ∙ blocked_push names [] (parent path) (get_or path (length path - 1) []) dir_way (ap no_dir dir)

  more_contents : (entry : Entry) (inode : ℕ) → is_some (map.get contents inode) ≡ true → is_some (map.get (with_file contents entry) inode) ≡ true
  more_contents (Dir device) inode h = h
  more_contents (File i bytes) inode h = still contents i bytes inode h
  more_contents (Sym target) inode h = h

  more_devices : (entry : Entry) (dir : Path) → is_some (map.get devices dir) ≡ true → is_some (map.get (with_dir devices path entry) dir) ≡ true
  more_devices (Dir device) dir h = still_device devices path device dir h
  more_devices (File i bytes) dir h = h
  more_devices (Sym target) dir h = h

  here_known : (entry : Entry) → IsKnown (with_file contents entry) (with_dir devices path entry) path (Some (node_of entry))
  here_known (Dir device) = inserted_device devices path device
  here_known (File i bytes) = inserted_there contents i bytes
  here_known (Sym target) = tt

  one_sound : map.get names (parent path) ≡ Some DirNode → map.get names path ≡ None → IsSound (with_name names (path, entry)) (with_contents contents (path, entry)) (with_device devices (path, entry))
  one_sound dir free = record {
    root = root_set names path (Some (node_of entry)) (λ e. let clash : None ≡ Some DirNode = sym free ∙ ap (map.get names) e ∙ sound.root in cc) ∙ sound.root;
    tree = tree_set names sound.tree path (Some (node_of entry)) (never_none (map.get names path) free) (way_open dir free);
    known = each_set (IsKnown (with_file contents entry) (with_dir devices path entry)) names
        (λ p. more_known contents (with_file contents entry) devices (with_dir devices path entry) (more_contents entry) (more_devices entry) p (map.get names p) (sound.known p))
        path (Some (node_of entry)) (here_known entry);
  }

all_sound : (names : Names) (contents : Contents) (devices : Devices) (index : ℕ) (items : List (Path × Entry)) → IsSound names contents devices → fault_from names contents index items ≡ None → IsSound (names_from names items) (contents_from contents items) (devices_from devices items)
all_sound names contents devices index [] sound none = sound
all_sound names contents devices index (item ∷ items) sound none =
    let both = first_none (fault_of names contents index item) _ none in
    let good = no_fault (is_dir (map.get names (parent item.0))) (is_some (map.get names item.0)) (differs contents item.1) (NoParent index) (Twice index) (InodeDiffers index) both.0 in
    all_sound (with_name names item) (with_contents contents item) (with_device devices item) (index + 1) items
    (one_sound names contents devices sound item.0 item.1 (dir_node (map.get names (parent item.0)) good.0) (nothing_there (map.get names item.0) good.1))
    both.1

abbrev no_names : Names
no_names = map.empty

root_there : map.get root_names [] ≡ Some DirNode
root_there = map.get-insert path_total no_names [] DirNode [] ∙ ap (λ b. cond b (Some DirNode) (map.get no_names [])) (same_path_refl [])

other_empty : (name : List ℕ) (path : Path) → map.get root_names (name ∷ path) ≡ None
other_empty name path = map.get-insert path_total no_names [] DirNode (name ∷ path) ∙ map.get-empty path_cmp (name ∷ path)

root_sound : IsSound root_names no_contents root_devices
root_sound = record {
  root = root_there;
  tree = root_tree;
  known = root_known;
}
  where
    root_tree : IsTree root_names
    root_tree [] stands = refl
    root_tree (name ∷ path) stands = let clash : false ≡ true = ap is_some (sym (other_empty name path)) ∙ stands in cc

    root_known : Each (IsKnown no_contents root_devices) root_names
    root_known [] = subst (IsKnown no_contents root_devices []) (sym root_there) (inserted_device map.empty [] 0)
    root_known (name ∷ path) = subst (IsKnown no_contents root_devices (name ∷ path)) (sym (other_empty name path)) tt

pub opening_settled : (items : List (Path × Entry)) → Settled (opening_of items)
opening_settled items = record {
  nothing_pending = refl;
  names = refl;
  clean = λ path inode _. ap is_some (map.get-empty nat_cmp inode);
  bytes = λ path inode _. refl;
}

pub opening_well_formed : (items : List (Path × Entry)) → tree_fault items ≡ None → WellFormed (opening_of items)
opening_well_formed items none =
    settled_well_formed (names_from root_names items) (contents_from no_contents items) (devices_from root_devices items) (all_sound root_names no_contents root_devices 0 items root_sound none)
