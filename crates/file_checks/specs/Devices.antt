-- The devices of the directories that have relations' files.
use Rattle.std.specs.Prelude.{◌≡◌, ◌≢◌, ℕ, Option, Some, None, if◌then◌else◌}
use Rattle.std.specs.Ordering.{nat_cmp}
use Rattle.std.specs.FinMap.{FinMap, get}
use Rattle.fs_model.specs.declared.node.Stat.{Stat}
use Rattle.fs_model.specs.declared.node.Node.TheVariants.{Dir}
use Rattle.fs_model.specs.Names.{Path, IsUnder}
use Rattle.fs_model.specs.State.{Names, FsState}
use Rattle.fs_model.specs.Calls.{device_of}
use Rattle.catalog.specs.Cluster.{Cluster}
use Rattle.relation_files.specs.declared.relation.Relation.{Relation}
use Rattle.relation_files.specs.Places.{Site, relation_dir}
use Rattle.relation_files.specs.Relations.{relations_of}
use Rattle.tree_checks.specs.Findings.{IsFirstAmong}
use Rattle.tree_checks.specs.Looks.{kind_at, is_dir}
use Rattle.file_checks.specs.Clusters.{old_site, new_site}

-- the device of the directory at a path, where one stands
abbrev pub device_at : FsState → Path → Option ℕ
device_at s path = if is_dir (kind_at s.names path) then Some (device_of s path) else None

abbrev pub device_in : Option Stat → Option ℕ
device_in None = None
device_in (Some stat) = if is_dir (Some stat.kind) then Some stat.identity.device else None

-- the nearest directory that stands on the way to a path, the path itself included
pub record IsNearest (names : Names) (path dir : Path) : Type 0 where
  pub on_way : IsUnder dir path
  pub stands : get names dir ≡ Some Dir
  pub nearest : (other : Path) → IsUnder other path → get names other ≡ Some Dir → IsUnder other dir

-- the old directory's device isn't the one that the new directory has or, where it doesn't stand, will have: that of the
-- nearest directory that does; an old directory that doesn't stand has no device
abbrev pub Differs : FsState → Path → Path → Type 0
Differs s old new = (dir : Path) × IsNearest s.names new dir × (device_at s old ≢ Some (device_of s dir))

-- the device of the nearest directory that stands on the way to a path
abbrev pub IsNearestDevice : FsState → Path → Option ℕ → Type 0
IsNearestDevice s path device = (dir : Path) × IsNearest s.names path dir × (device ≡ Some (device_of s dir))

-- the old directory, where its device differs from that of the new one
abbrev pub IsDifferingDir : FsState → Path → Path → Option Path → Type 0
IsDifferingDir s old new None = Differs s old new → ⊥
IsDifferingDir s old new (Some path) = (path ≡ old) × Differs s old new

-- the directory of an old relation, where its device differs from that of the new one
abbrev pub IsOtherDevice : FsState → Site → Site → Relation → Option Path → Type 0
IsOtherDevice s old new relation = IsDifferingDir s (relation_dir old relation) (relation_dir new relation)

-- by tablespaces, databases whose directories there were looked at: nothing was found
abbrev pub ArePassed : FsState → Site → Site → FinMap nat_cmp ℕ → Type 0
ArePassed s old new passed =
    (tablespace database : ℕ) → get passed tablespace ≡ Some database
    → IsOtherDevice s old new (record { database = database; tablespace = tablespace; file = 0 }) None

-- the first of these directories, in the order of the catalog
abbrev pub IsDeviceDiffers : FsState → Path → Path → Cluster → Option Path → Type 0
IsDeviceDiffers s old new catalog = IsFirstAmong (IsOtherDevice s (old_site old catalog) (new_site new catalog)) (relations_of catalog)
