-- Trees: when a list of entries is one, the state that holds it, and what stands in a state.
use Rattle.std.specs.Prelude.{ℕ, ◌+◌, Bool, true, false, not, if◌then◌else◌, List, [], ◌∷◌, Option, Some, None, is_some}
use Rattle.std.specs.Option.{option_map, option_or}
use Rattle.std.specs.List.{filter_map}
use Rattle.std.specs.Ordering.{nat_cmp, eq_by_cmp}
use Rattle.std.specs.Cmp.Lexicographic.{slice_cmp}
use Rattle.std.specs.FinMap as map
use Rattle.fs_model.specs.declared.node.Node.{Node}
use Rattle.fs_model.specs.declared.node.Node.TheVariants.{Dir as DirNode, File as FileNode, Sym as SymNode}
use Rattle.fs_model.specs.Names.{Path, parent}
use Rattle.fs_model.specs.State.{Names, Contents, Devices, FsState}
use Rattle.fs_model.specs.Effects.{bytes_of}
use Rattle.fs_model.specs.Calls.{is_root, device_of}
use Rattle.fs_state.specs.Settled.{settled}
use Rattle.fs_mem.specs.declared.tree.Entry.{Entry}
use Rattle.fs_mem.specs.declared.tree.Entry.TheVariants.{Dir, File, Sym}
use Rattle.fs_mem.specs.declared.error.TreeError.{TreeError}
use Rattle.fs_mem.specs.declared.error.TreeError.TheVariants.{NoParent, Twice, InodeDiffers}

-- what a path's entry makes stand there
abbrev pub node_of : Entry → Node
node_of (Dir device) = DirNode
node_of (File inode bytes) = FileNode inode
node_of (Sym target) = SymNode target

-- the names with an entry more
abbrev pub with_name : Names → Path × Entry → Names
with_name names item = map.insert names item.0 (node_of item.1)

abbrev pub with_file : Contents → Entry → Contents
with_file contents (File inode bytes) = map.insert contents inode bytes
with_file contents entry = contents

-- the bytes with those of an entry more
abbrev pub with_contents : Contents → Path × Entry → Contents
with_contents contents item = with_file contents item.1

abbrev pub with_dir : Devices → Path → Entry → Devices
with_dir devices path (Dir device) = map.insert devices path device
with_dir devices path entry = devices

-- the devices with that of an entry more
abbrev pub with_device : Devices → Path × Entry → Devices
with_device devices item = with_dir devices item.0 item.1

abbrev pub is_dir : Option Node → Bool
is_dir (Some DirNode) = true
is_dir other = false

abbrev pub same_bytes : List ℕ → List ℕ → Bool
same_bytes = eq_by_cmp (slice_cmp nat_cmp)

abbrev pub has_other : Option (List ℕ) → List ℕ → Bool
has_other None bytes = false
has_other (Some earlier) bytes = not (same_bytes earlier bytes)

-- it is a file, and its inode has other bytes
abbrev pub differs : Contents → Entry → Bool
differs contents (File inode bytes) = has_other (map.get contents inode) bytes
differs contents entry = false

-- why an entry can't stand behind those with these names and bytes
abbrev pub fault_of : Names → Contents → ℕ → Path × Entry → Option TreeError
fault_of names contents index item =
    if not (is_dir (map.get names (parent item.0))) then Some (NoParent index) else
    (if is_some (map.get names item.0) then Some (Twice index) else
    (if differs contents item.1 then Some (InodeDiffers index) else None))

-- the first fault of the entries behind those with these names and bytes, from the place of the first of them
abbrev pub fault_from : Names → Contents → ℕ → List (Path × Entry) → Option TreeError
fault_from names contents index [] = None
fault_from names contents index (item ∷ items) = option_or (fault_of names contents index item) (fault_from (with_name names item) (with_contents contents item) (index + 1) items)

abbrev pub root_names : Names
root_names = map.insert map.empty [] DirNode

abbrev pub root_devices : Devices
root_devices = map.insert map.empty [] 0

abbrev pub no_contents : Contents
no_contents = map.empty

-- why a list of entries is no tree
abbrev pub tree_fault : List (Path × Entry) → Option TreeError
tree_fault items = fault_from root_names no_contents 0 items

abbrev pub names_from : Names → List (Path × Entry) → Names
names_from names [] = names
names_from names (item ∷ items) = names_from (with_name names item) items

abbrev pub contents_from : Contents → List (Path × Entry) → Contents
contents_from contents [] = contents
contents_from contents (item ∷ items) = contents_from (with_contents contents item) items

abbrev pub devices_from : Devices → List (Path × Entry) → Devices
devices_from devices [] = devices
devices_from devices (item ∷ items) = devices_from (with_device devices item) items

-- the state that holds the entries, on the disk as now
abbrev pub opening_of : List (Path × Entry) → FsState
opening_of items = settled (names_from root_names items) (contents_from no_contents items) (devices_from root_devices items)

abbrev pub entry_of : FsState → Path → Node → Entry
entry_of s path DirNode = Dir (device_of s path)
entry_of s path (FileNode inode) = File inode (bytes_of s.bytes inode)
entry_of s path (SymNode target) = Sym target

-- what stands at a path that is not the root
abbrev pub entry_at : FsState → Path → Option Entry
entry_at s path = if is_root path then None else option_map (entry_of s path) (map.get s.names path)

-- a path with what stands there
abbrev pub item_at : FsState → Path → Option (Path × Entry)
item_at s path = option_map (λ entry. (path, entry)) (entry_at s path)

-- what stands now, without the root, in ascending order of the paths
abbrev pub tree_of : FsState → List (Path × Entry)
tree_of s = filter_map (item_at s) (map.keys s.names)
