-- What the reading calls give.
use Rattle.std.specs.Prelude.{◌≡◌, ℕ, ◌-◌, List, length, take, drop, min, Option, Some, None}
use Rattle.std.specs.Option.{option_map}
use Rattle.std.specs.FinMap as map
use Rattle.fs_model.specs.declared.node.Kind.TheVariants as kind
use Rattle.fs_model.specs.declared.node.Stat.{Stat}
use Rattle.fs_model.specs.declared.node.Node.{Node}
use Rattle.fs_model.specs.declared.node.Node.TheVariants.{Dir, File, Sym}
use Rattle.fs_model.specs.Names.{Path, parent}
use Rattle.fs_model.specs.State.{FsState}
use Rattle.fs_model.specs.Effects.{bytes_of}
use Rattle.fs_model.specs.Calls.{device_of}

-- what `stat` says of a node; size and inode are 0 for what is no file
abbrev pub stat_of_node : FsState → Path → Option Node → Option Stat
stat_of_node s path None = None
stat_of_node s path (Some Dir) = Some (record { kind = kind.Dir; size = 0; identity = record { device = device_of s path; inode = 0 } })
stat_of_node s path (Some (File inode)) = Some (record { kind = kind.File; size = length (bytes_of s.bytes inode); identity = record { device = device_of s (parent path); inode = inode } })
stat_of_node s path (Some (Sym target)) = Some (record { kind = kind.Sym; size = 0; identity = record { device = device_of s (parent path); inode = 0 } })

abbrev pub stat_of : FsState → Path → Option Stat
stat_of s path = stat_of_node s path (map.get s.names path)

abbrev pub inode_of_node : Option Node → Option ℕ
inode_of_node None = None
inode_of_node (Some Dir) = None
inode_of_node (Some (File inode)) = Some inode
inode_of_node (Some (Sym target)) = None

-- the inode of the file at a path, where a file stands there
abbrev pub inode_at : FsState → Path → Option ℕ
inode_at s path = inode_of_node (map.get s.names path)

-- the bytes of the file at a path, where a file stands there
abbrev pub file_bytes : FsState → Path → Option (List ℕ)
file_bytes s path = option_map (bytes_of s.bytes) (inode_at s path)

-- the file's bytes from a place on, as many as there are and as the slice takes
pub record Reads (s : FsState) (path : Path) (from count : ℕ) (into : List ℕ) : Type 0 where
  pub inode : ℕ
  pub file : map.get s.names path ≡ Some (File inode)
  pub count_is : count ≡ min (length into) (length (bytes_of s.bytes inode) - from)
  pub bytes : take count into ≡ take count (drop from (bytes_of s.bytes inode))
