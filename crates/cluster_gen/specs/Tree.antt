-- The tree of the two clusters: all directories are on device 0, and the files have the inodes 1, 2, 3 and so on, in
-- ascending order of their paths.
use Rattle.std.specs.Prelude.{ℕ, ◌+◌, List, [], ◌∷◌, Option, Some, None}
use Rattle.fs_model.specs.Names.{Path}
use Rattle.fs_mem.specs.declared.tree.Entry.{Entry}
use Rattle.fs_mem.specs.declared.tree.Entry.TheVariants.{Dir, File}
use Rattle.cluster_gen.specs.declared.parts.Part.{Part}
use Rattle.cluster_gen.specs.Parts.{pair_parts}

abbrev pub entry_of : ℕ → Option (List ℕ) → Entry
entry_of inode None = Dir 0
entry_of inode (Some bytes) = File inode bytes

-- the inode of the next file
abbrev pub inode_after : ℕ → Option (List ℕ) → ℕ
inode_after inode None = inode
inode_after inode (Some bytes) = inode + 1

-- the parts as entries, of which the first file has this inode
abbrev pub numbered : ℕ → List Part → List (Path × Entry)
numbered inode [] = []
numbered inode (part ∷ parts) = (part.path, entry_of inode part.bytes) ∷ numbered (inode_after inode part.bytes) parts

-- the two clusters, the old one with so many tables
unfoldable pub pair_tree : ℕ → List (Path × Entry)
pair_tree tables = numbered 1 (pair_parts tables)
