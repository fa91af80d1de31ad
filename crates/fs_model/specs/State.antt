-- The state of a file system: what a reader sees now, and what is on the disk.
use Rattle.std.specs.Prelude.{ℕ, List, Option}
use Rattle.std.specs.Ordering.{nat_cmp}
use Rattle.std.specs.FinMap.{FinMap}
use Rattle.fs_model.specs.declared.node.Node.{Node}
use Rattle.fs_model.specs.Names.{Path, path_cmp}

-- what stands at each path; the root is one of them
abbrev pub Names : Type 0
Names = FinMap path_cmp Node

-- the bytes of each file, by inode
abbrev pub Contents : Type 0
Contents = FinMap nat_cmp (List ℕ)

-- the names that one call changed, all in one directory, each with what stands there since, or nothing
abbrev pub Change : Type 0
Change = List (Path × Option Node)

-- the device of each directory
abbrev pub Devices : Type 0
Devices = FinMap path_cmp ℕ

pub record FsState : Type 0 where
  -- now
  pub names : Names
  pub bytes : Contents
  -- on the disk
  pub names_kept : Names
  pub bytes_kept : Contents
  -- changes of names that are not on the disk yet, the oldest first
  pub pending : List Change
  -- inodes whose bytes are not on the disk yet
  pub dirty : FinMap nat_cmp (Unit {0})
  pub devices : Devices
