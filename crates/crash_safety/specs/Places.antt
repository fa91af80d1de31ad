-- The places of an upgrade: those of its two clusters, as the state that it began in has them.
use Rattle.std.specs.Prelude.{◌≡◌, ℕ, Bool, List, [], ◌∷◌, ◌++◌, map, codes, Option, Some, None}
use Rattle.std.specs.List.{AllByRecursion, filter_map}
use Rattle.std.specs.FinMap.{get}
use Rattle.fs_model.specs.declared.node.Node.{Node}
use Rattle.fs_model.specs.declared.node.Node.TheVariants.{Dir, File, Sym}
use Rattle.fs_model.specs.Names.{Path, IsUnder}
use Rattle.fs_model.specs.State.{Names, FsState}
use Rattle.fs_model.specs.Calls.{children}
use Rattle.crash_safety.specs.Upgrade.{Upgrade}

-- a cluster's control file, and the name of it in a cluster that is disabled
abbrev pub control_at : Path → Path
control_at root = root ++ codes "global" ∷ codes "pg_control" ∷ []

abbrev pub disabled_at : Path → Path
disabled_at root = root ++ codes "global" ∷ codes "pg_control.old" ∷ []

-- the directory of a cluster's symbolic links to its tablespaces' locations
abbrev pub links_at : Path → Path
links_at root = root ++ codes "pg_tblspc" ∷ []

abbrev pub target_of : Option Node → Option Path
target_of None = None
target_of (Some Dir) = None
target_of (Some (File inode)) = None
target_of (Some (Sym target)) = Some target

-- the target of the symbolic link of this name, where one stands in the directory
abbrev pub target_at : Names → Path → List ℕ → Option Path
target_at names dir name = target_of (get names (dir ++ name ∷ []))

-- the locations of a cluster's tablespaces
abbrev pub locations : Names → Path → List Path
locations names root = filter_map (target_at names (links_at root)) (children names (links_at root))

-- The directories that a cluster of a release lives in: its root and, at each of these locations, the release's directory.
abbrev pub tops_at : List Path → List ℕ → Path → List Path
tops_at locations release root = root ∷ map (λ location. location ++ release ∷ []) locations

-- the path is one of the release's places at a location that the cluster at the root has
abbrev pub IsAtLocation : Names → Path → List ℕ → Path → Type 0
IsAtLocation names root release path = (name : List ℕ) × (location : Path) × (get names (links_at root ++ name ∷ []) ≡ Some (Sym location)) × IsUnder (location ++ release ∷ []) path

-- The upgrade of the cluster at one root, of one release, to that at another of another; each release by the name of its directories. Both
-- have the old cluster's locations.
abbrev pub upgrade_of : FsState → Path → Path → List ℕ → List ℕ → Bool → Upgrade
upgrade_of start old new old_release new_release disables = record {
  start = start;
  old_tops = tops_at (locations start.names old) old_release old;
  new_tops = tops_at (locations start.names old) new_release new;
  control = control_at old;
  renamed = disabled_at old;
  new_control = control_at new;
  disables = disables;
}

-- no directory of the one list is, or is below, one of the other
abbrev pub StandApart : List Path → List Path → Type 0
StandApart tops others = AllByRecursion (λ top. AllByRecursion (λ other. (IsUnder top other → ⊥) × (IsUnder other top → ⊥)) others) tops
