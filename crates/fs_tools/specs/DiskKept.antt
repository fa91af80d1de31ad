-- What the sync of a tree leaves of the disk.
use Rattle.std.specs.Prelude.{◌≡◌, ◌≢◌, ℕ, Some}
use Rattle.std.specs.List.{AllByRecursion}
use Rattle.std.specs.FinMap.{get}
use Rattle.fs_model.specs.declared.node.Node.TheVariants.{File}
use Rattle.fs_model.specs.Names.{Path, IsUnder, parent}
use Rattle.fs_model.specs.State.{FsState}
use Rattle.fs_model.specs.Calls.{Call, Stats, Lists, SyncsFile, SyncsDir}
use Rattle.fs_model.specs.WellFormed.{IsOfOneDir}

-- a call that looks, or puts a file or a directory under the top on the disk
abbrev pub SyncsUnder : Path → FsState → Call → Type 0
SyncsUnder top s (Stats path) = Unit {0}
SyncsUnder top s (Lists path) = Unit {0}
SyncsUnder top s (SyncsFile path) = IsUnder top path
SyncsUnder top s (SyncsDir path) = IsUnder top path
SyncsUnder top s call = ⊥

-- On the disk of s, each file that has no name under the top is as on that of a, and so is each name that is in no directory under the top.
pub record KeepsDisk (top : Path) (a s : FsState) : Type 0 where
  pub now : s.names ≡ a.names
  pub together : AllByRecursion IsOfOneDir s.pending
  pub bytes : (inode : ℕ) → ((path : Path) → IsUnder top path → get a.names path ≢ Some (File inode)) → get s.bytes_kept inode ≡ get a.bytes_kept inode
  pub names : (path : Path) → (IsUnder top (parent path) → ⊥) → get s.names_kept path ≡ get a.names_kept path
