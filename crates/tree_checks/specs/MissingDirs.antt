-- Directories that both clusters need: those of status files, and those of a new cluster into which an upgrade writes.
use Rattle.std.specs.Prelude.{◌≡◌, ℕ, Bool, not, map, List, [], ◌∷◌, ◌++◌, codes, Option, Some, None}
use Rattle.fs_model.specs.Names.{Path}
use Rattle.fs_model.specs.State.{Names}
use Rattle.fs_tools.specs.Children.{child_of}
use Rattle.tree_checks.specs.Findings.{found_if, IsFirstOf, IsFirstAmong}
use Rattle.tree_checks.specs.Looks.{kind_at, is_dir, is_file}
use Rattle.tree_checks.specs.NewDirs.{IsNameIn, new_dir, new_dirs}

-- the directories of a cluster's status files, in the order in which they are tested
abbrev pub status_dirs : Path → List Path
status_dirs root =
    (root ++ codes "pg_xact" ∷ [])
    ∷ (root ++ codes "pg_multixact" ∷ codes "offsets" ∷ [])
    ∷ (root ++ codes "pg_multixact" ∷ codes "members" ∷ [])
    ∷ []

-- the directories of a new cluster into which an upgrade writes, in the order in which they are tested
abbrev pub target_dirs : Path → List Path
target_dirs root = map (new_dir root) new_dirs

-- this path, where no directory stands there
abbrev pub IsNoDir : Names → Path → Option Path → Type 0
IsNoDir names dir found = found ≡ found_if (not (is_dir (kind_at names dir))) dir

-- whether something else than a file stands at this name of the directory
abbrev pub is_no_file_in : Names → Path → List ℕ → Bool
is_no_file_in names dir name = not (is_file (kind_at names (child_of dir name)))

-- this path, where something else than a file stands at a name in it
abbrev pub IsMixedDir : Names → Path → Option Path → Type 0
IsMixedDir names dir None = (other : Path) → IsNameIn names dir (is_no_file_in names dir) other → ⊥
IsMixedDir names dir (Some found) = (found ≡ dir) × (other : Path) × IsNameIn names dir (is_no_file_in names dir) other

-- this path, where it isn't that of a directory that holds files alone
abbrev pub IsBadStatus : Names → Path → Option Path → Type 0
IsBadStatus names dir = IsFirstOf (IsNoDir names dir) (IsMixedDir names dir)

-- the first of the directories of both clusters that is missing, or holds what it may not
abbrev pub IsMissingDir : Names → Path → Path → Option Path → Type 0
IsMissingDir names old new =
    IsFirstOf (IsFirstAmong (IsBadStatus names) (status_dirs old ++ status_dirs new))
    (IsFirstAmong (IsNoDir names) (target_dirs new))
