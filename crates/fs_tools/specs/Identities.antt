-- When two paths have one identity.
use Rattle.std.specs.Prelude.{◌≡◌, ◌↔◌, Bool, Some, IsTrue}
use Rattle.fs_model.specs.declared.node.Stat.{Stat}
use Rattle.fs_model.specs.Names.{Path}
use Rattle.fs_model.specs.State.{FsState}
use Rattle.fs_model.specs.Reading.{stat_of}

-- both paths stand, and the answer tells whether their devices and inodes are equal
pub record ComparesIdentities (s : FsState) (a b : Path) (same : Bool) : Type 0 where
  pub first : Stat
  pub second : Stat
  pub first_is : stat_of s a ≡ Some first
  pub second_is : stat_of s b ≡ Some second
  pub exact : IsTrue same ↔ (first.identity ≡ second.identity)
