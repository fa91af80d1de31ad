-- The directories of an old cluster's tablespaces.
use Rattle.std.specs.Prelude.{◌≡◌, ℕ, Bool, false, bytes_eq, not, ◌&&◌, ◌||◌, ◌==◌, List, [], ◌∷◌, ◌++◌, Option, Some, None, is_some}
use Rattle.std.specs.List.{filter, list_any}
use Rattle.std.specs.FinMap.{get}
use Rattle.std.specs.Fmt.{decimal}
use Rattle.fs_model.specs.Names.{Path, is_under, same_path}
use Rattle.fs_model.specs.State.{Names, FsState}
use Rattle.control_file.specs.Version.{dir_name_of}
use Rattle.control_file.specs.declared.releases.Release.TheVariants.{V15, V16}
use Rattle.catalog.specs.declared.owners.Tablespace.{Tablespace}
use Rattle.catalog.specs.Cluster.{Cluster, default_tablespace}
use Rattle.crash_safety.specs.Places.{links_at, target_of}
use Rattle.tree_checks.specs.Findings.{IsLeast, found_if, IsFirstOf, IsFirstAmong}
use Rattle.tree_checks.specs.NewDirs.{IsNameIn}
use Rattle.tree_checks.specs.MissingDirs.{IsNoDir}

-- whether a tablespace stands at a location of its own, as each but `pg_default` does
abbrev pub is_placed : Tablespace → Bool
is_placed tablespace = not (tablespace.oid == default_tablespace)

abbrev pub placed : List Tablespace → List Tablespace
placed = filter is_placed

-- the path of a tablespace's link
abbrev pub link_of : Path → Tablespace → Path
link_of root tablespace = links_at root ++ decimal tablespace.oid ∷ []

abbrev pub is_target : Path → Option Path → Bool
is_target location None = false
is_target location (Some target) = same_path target location

-- one directory is the other, or is below it
abbrev pub overlaps : Path → Path → Bool
overlaps a b = is_under a b || is_under b a

-- whether these are two tablespaces whose locations overlap
abbrev pub overlaps_other : Tablespace → Tablespace → Bool
overlaps_other tablespace other = not (other.oid == tablespace.oid) && overlaps tablespace.location other.location

-- whether a tablespace's location overlaps the directory of a cluster, or the location of another of these tablespaces
abbrev pub is_overlapped : List Tablespace → Path → Path → Tablespace → Bool
is_overlapped tablespaces old new tablespace =
    overlaps tablespace.location old || (overlaps tablespace.location new || list_any (overlaps_other tablespace) tablespaces)

-- a tablespace's link, where it is no symbolic link to the location
abbrev pub IsBadLink : Names → Path → Tablespace → Option Path → Type 0
IsBadLink names old tablespace found =
    found ≡ found_if (not (is_target tablespace.location (target_of (get names (link_of old tablespace))))) (link_of old tablespace)

-- a tablespace's location, where it overlaps another directory
abbrev pub IsOverlap : List Tablespace → Path → Path → Tablespace → Option Path → Type 0
IsOverlap tablespaces old new tablespace found = found ≡ found_if (is_overlapped tablespaces old new tablespace) tablespace.location

-- this path, where anything stands there
abbrev pub IsTaken : Names → Path → Option Path → Type 0
IsTaken names path found = found ≡ found_if (is_some (get names path)) path

-- in a location, the old release's directory, which has to stand, or that of the new one, which must not
abbrev pub IsBadReleases : Names → Path → Option Path → Type 0
IsBadReleases names location = IsFirstOf (IsNoDir names (location ++ dir_name_of V15 ∷ [])) (IsTaken names (location ++ dir_name_of V16 ∷ []))

-- what is wrong with the directory at a location: it overlaps another, or the releases' directories in it are wrong
abbrev pub IsBadPlace : Names → Path → Path → List Tablespace → Tablespace → Option Path → Type 0
IsBadPlace names old new tablespaces tablespace =
    IsFirstOf (IsOverlap tablespaces old new tablespace) (IsBadReleases names tablespace.location)

-- what is wrong with a location, which has to be a directory
abbrev pub IsBadLocation : Names → Path → Path → List Tablespace → Tablespace → Option Path → Type 0
IsBadLocation names old new tablespaces tablespace =
    IsFirstOf (IsNoDir names tablespace.location) (IsBadPlace names old new tablespaces tablespace)

-- the first path of a tablespace that is wrong: its link, or one of its location
abbrev pub IsBadTablespace : Names → Path → Path → List Tablespace → Tablespace → Option Path → Type 0
IsBadTablespace names old new tablespaces tablespace =
    IsFirstOf (IsBadLink names old tablespace) (IsBadLocation names old new tablespaces tablespace)

-- whether a name is that of no tablespace's link
abbrev pub is_no_link : List Tablespace → List ℕ → Bool
is_no_link tablespaces name = not (list_any (λ tablespace. bytes_eq name (decimal tablespace.oid)) tablespaces)

-- the directory of links, where it is none; else the least name in it that is no tablespace's
abbrev pub IsStrayLink : Names → Path → List Tablespace → Option Path → Type 0
IsStrayLink names old tablespaces =
    IsFirstOf (IsNoDir names (links_at old)) (IsLeast (IsNameIn names (links_at old) (is_no_link tablespaces)))

-- The finding of the first tablespace, in the order of the catalog, of which a path is wrong; then that of the directory of
-- links.
abbrev pub IsTablespaceDir : FsState → Path → Path → Cluster → Option Path → Type 0
IsTablespaceDir s old new catalog =
    IsFirstOf (IsFirstAmong (IsBadTablespace s.names old new (placed catalog.tablespaces)) (placed catalog.tablespaces))
    (IsStrayLink s.names old (placed catalog.tablespaces))
