-- What a crash of an upgrade leaves, as far as a verdict looks at it.
use Rattle.std.specs.Prelude.{◌≡◌, ℕ, Bool, List, [], ◌∷◌, ◌++◌, Option, Some}
use Rattle.std.specs.List.{AllByRecursion}
use Rattle.fs_model.specs.declared.node.Node.{Node}
use Rattle.fs_model.specs.declared.node.Node.TheVariants.{Sym}
use Rattle.fs_model.specs.Names.{Path}
use Rattle.fs_model.specs.State.{Names, FsState}
use Rattle.fs_model.specs.WellFormed.{Each, EachPair}
use Rattle.control_file.specs.Version.{dir_name_of}
use Rattle.control_file.specs.declared.releases.Release.TheVariants.{V15, V16}
use Rattle.crash_safety.specs.Places.{links_at, locations, upgrade_of}
use Rattle.crash_safety.specs.Upgrade.{Upgrade}
use Rattle.fs_tools.specs.Walked.{IsAmong}

-- the upgrade of the cluster at one root to that at another, from PostgreSQL 15 to 16
abbrev pub upgrade_to_16 : FsState → Path → Path → Bool → Upgrade
upgrade_to_16 start old new disables = upgrade_of start old new (dir_name_of V15) (dir_name_of V16) disables

-- each location that the new cluster links to in x is one of the old cluster's at the start
abbrev pub LinksToKnown : Names → Path → Names → Path → Type 0
LinksToKnown start old x new = (location : Path) → IsAmong (locations x new) location → IsAmong (locations start old) location

-- what stands at the path is no symbolic link of the directory, or one to one of these locations
abbrev pub IsKnownLink : List Path → Path → Path → Option Node → Type 0
IsKnownLink known dir path node = (name : List ℕ) (location : Path) → path ≡ dir ++ name ∷ [] → node ≡ Some (Sym location) → IsAmong known location

-- The links of the new cluster that are on the disk, and those that wait to be put there, lead to locations of the old cluster at the start.
pub record MakesKnownLinks (start : Names) (old new : Path) (s : FsState) : Type 0 where
  pub kept : Each (IsKnownLink (locations start old) (links_at new)) s.names_kept
  pub waiting : AllByRecursion (EachPair (IsKnownLink (locations start old) (links_at new))) s.pending
