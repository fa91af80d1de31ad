-- Files that both clusters name.
use Rattle.std.specs.Prelude.{◌≡◌, List, ◌++◌, Some}
use Rattle.fs_model.specs.declared.node.Stat.{Stat}
use Rattle.fs_model.specs.declared.node.Kind.TheVariants as kind
use Rattle.fs_model.specs.Names.{Path}
use Rattle.fs_model.specs.State.{Names, FsState}
use Rattle.fs_model.specs.Reading.{stat_of}
use Rattle.control_file.specs.Version.{dir_name_of}
use Rattle.control_file.specs.declared.releases.Release.TheVariants.{V15, V16}
use Rattle.crash_safety.specs.Frame.{IsInside}
use Rattle.crash_safety.specs.Places.{locations, tops_at}

-- both paths are names of files of one identity: the device of their directories and the number of the inode
pub record IsSameFile (s : FsState) (p q : Path) : Type 0 where
  pub first : Stat
  pub second : Stat
  pub first_is : stat_of s p ≡ Some first
  pub second_is : stat_of s q ≡ Some second
  pub first_file : first.kind ≡ kind.File
  pub second_file : second.kind ≡ kind.File
  pub same : first.identity ≡ second.identity

-- the directories that the old cluster lives in
abbrev pub old_regions : Names → Path → List Path
old_regions names old = tops_at (locations names old) (dir_name_of V15) old

-- the directories that the new cluster lives in; a crash may drop a link of it and keep the files at its location, so the
-- old cluster's links count too
abbrev pub new_regions : Names → Path → Path → List Path
new_regions names old new = tops_at (locations names old ++ locations names new) (dir_name_of V16) new

-- the path is a name of the new cluster of a file that the old one names too
abbrev pub IsShared : FsState → Path → Path → Path → Type 0
IsShared s old new path = IsInside (new_regions s.names old new) path × (other : Path) × IsInside (old_regions s.names old) other × IsSameFile s path other
