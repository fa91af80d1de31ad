-- A test that finds nothing finds no refusal.
use Rattle.std.proofs.Common.{◌≡◌, inl, inr, List, [], ◌∷◌, ◌++◌, Option, Some, None, Result, Ok, Err}
use Rattle.fs_model.specs.Names.{Path}
use Rattle.fs_model.specs.State.{Names, FsState}
use Rattle.control_file.specs.declared.job.Job.{Job}
use Rattle.control_file.specs.declared.modes.Mode.{Mode}
use Rattle.control_file.specs.declared.modes.Mode.TheVariants.{Copy, Link}
use Rattle.catalog.specs.Cluster.{Cluster, started}
use Rattle.dump_grammar.specs.declared.error.TextError.{TextError}
use Rattle.tree_checks.specs.Findings.{IsLeast, IsFirstOf, IsFirstAmong}
use Rattle.tree_checks.specs.NewDirs.{IsUsed}
use Rattle.tree_checks.specs.MissingDirs.{IsMissingDir, IsNoDir, IsBadStatus, status_dirs, target_dirs}
use Rattle.compat_checks.specs.declared.refusal.Refusal.{Refusal}
use Rattle.compat_checks.specs.declared.refusal.Refusal.TheVariants.{NewNotEmpty, NewUsed, TablespaceDir, MissingFile, SharedInode, DeviceDiffers}
use Rattle.compat_checks.specs.Order.{Condition, OverlapIs, MissingDirIs, MissingVersionIs, WrongVersionIs, RunningIs, OldDisabledIs, NoControlIs, ControlShortIs, ControlCrcIs, ControlVersionIs, CatalogVersionIs, NotShutDownIs, BlockSizeIs, ControlDiffersIs, PreparedIs, CatalogTextIs, TooManyIs, InstallUserIs, NewRolesIs, ConnectFlagIs, RegColumnIs, AclColumnIs, NewNotEmptyIs, NewUsedIs, TablespaceDirIs, MissingFileIs, SharedInodeIs, DeviceDiffersIs, ControlOldExistsIs}
use Rattle.upgrade_checks.specs.Findings.{Readings, Finds, RefusedUnless, TellsPath, OfCatalog, OfCatalogs, OfLink}
use Rattle.file_checks.specs.Tablespaces.{IsTablespaceDir, IsBadTablespace, IsStrayLink, placed}
use Rattle.file_checks.specs.RelationFiles.{IsMissingFile, IsBadRelation}
use Rattle.file_checks.specs.Devices.{IsDeviceDiffers, IsOtherDevice}
use Rattle.file_checks.specs.Clusters.{old_site, new_site}
use Rattle.relation_files.specs.declared.relation.Relation.{Relation}
use Rattle.relation_files.specs.Places.{Site}
use Rattle.relation_files.specs.Relations.{relations_of}
use Rattle.catalog.specs.declared.owners.Tablespace.{Tablespace}
use Rattle.shared_inodes.specs.SharedInodes.{IsSharedInode}

-- ---- of paths

abbrev pub IsPathTest : (Option Path → Type 0) → Type 0
IsPathTest F = (path : Path) → F None → F (Some path) → ⊥

pub least_excludes : (P : Path → Type 0) → IsPathTest (IsLeast P)
least_excludes P path none some = none path some.0

pub first_excludes : (F G : Option Path → Type 0) → IsPathTest F → IsPathTest G → IsPathTest (IsFirstOf F G)
first_excludes F G one two path none (inl some) = one path none.0 some
first_excludes F G one two path none (inr some) = two path none.1 some.1

pub among_excludes : {A : Type 0} (F : A → Option Path → Type 0) → ((x : A) → IsPathTest (F x)) → (xs : List A) → IsPathTest (IsFirstAmong F xs)
among_excludes F each [] path none some = absurd (cc some)
among_excludes F each (x ∷ xs) path none some = first_excludes (F x) (IsFirstAmong F xs) (each x) (among_excludes F each xs) path none some

-- ---- of refusals

abbrev pub IsTest : (Option Refusal → Type 0) → Type 0
IsTest F = (refusal : Refusal) → F None → F (Some refusal) → ⊥

pub unless_excludes : (P : Type 0) (told : Refusal) → IsTest (RefusedUnless P told)
unless_excludes P told refusal none some = some.1 none

pub path_excludes : (tell : Path → Refusal) (F : Option Path → Type 0) → IsPathTest F → IsTest (TellsPath tell F)
path_excludes tell F test refusal none some = test some.0 none some.2

pub catalog_excludes : (F : Cluster → Option Refusal → Type 0) → ((c : Cluster) → IsTest (F c)) → (reading : Result Cluster TextError) → IsTest (OfCatalog F reading)
catalog_excludes F each (Ok c) refusal none some = each c refusal none some
catalog_excludes F each (Err e) refusal none some = absurd (cc some)

pub catalogs_exclude : (F : Cluster → Cluster → Option Refusal → Type 0) → ((old new : Cluster) → IsTest (F old new)) → (readings : Readings) → IsTest (OfCatalogs F readings)
catalogs_exclude F each readings = catalog_excludes (λ old. OfCatalog (F old) readings.new) (λ old. catalog_excludes (F old) (each old) readings.new) readings.old

pub link_excludes : (mode : Mode) (F : Option Refusal → Type 0) → IsTest F → IsTest (OfLink mode F)
link_excludes Link F test refusal none some = test refusal none some
link_excludes Copy F test refusal none some = absurd (cc some)

-- ---- of conditions

bad_tablespace : (names : Names) (old new : Path) (tablespaces : List Tablespace) (tablespace : Tablespace) → IsPathTest (IsBadTablespace names old new tablespaces tablespace)
bad_tablespace names old new tablespaces tablespace path none (inl some) = absurd (cc (none.0, some))
bad_tablespace names old new tablespaces tablespace path none (inr (a, inl some)) = absurd (cc (none.1.0, some))
bad_tablespace names old new tablespaces tablespace path none (inr (a, inr (b, inl some))) = absurd (cc (none.1.1.0, some))
bad_tablespace names old new tablespaces tablespace path none (inr (a, inr (b, inr (c, inl some)))) = absurd (cc (none.1.1.1.0, some))
bad_tablespace names old new tablespaces tablespace path none (inr (a, inr (b, inr (c, inr (d, some))))) = absurd (cc (none.1.1.1.1, some))

stray_link : (names : Names) (old : Path) (tablespaces : List Tablespace) → IsPathTest (IsStrayLink names old tablespaces)
stray_link names old tablespaces path none (inl some) = absurd (cc (none.0, some))
stray_link names old tablespaces path none (inr some) = none.1 path some.1.0

tablespace_excludes : (s : FsState) (old new : Path) (c : Cluster) → IsPathTest (IsTablespaceDir s old new c)
tablespace_excludes s old new c =
    first_excludes (IsFirstAmong (IsBadTablespace s.names old new (placed c.tablespaces)) (placed c.tablespaces)) (IsStrayLink s.names old (placed c.tablespaces))
    (among_excludes (IsBadTablespace s.names old new (placed c.tablespaces)) (bad_tablespace s.names old new (placed c.tablespaces)) (placed c.tablespaces))
    (stray_link s.names old (placed c.tablespaces))

bad_relation : (names : Names) (site : Site) (relation : Relation) → IsPathTest (IsBadRelation names site relation)
bad_relation names site relation path none (inl some) = absurd (cc (none.0, some))
bad_relation names site relation path none (inr some) = none.1 path some.1.0

missing_file_excludes : (s : FsState) (old : Path) (c : Cluster) → IsPathTest (IsMissingFile s old c)
missing_file_excludes s old c = among_excludes (IsBadRelation s.names (old_site old c)) (bad_relation s.names (old_site old c)) (relations_of c)

device_excludes : (s : FsState) (old new : Path) (c : Cluster) → IsPathTest (IsDeviceDiffers s old new c)
device_excludes s old new c = among_excludes (IsOtherDevice s (old_site old c) (new_site new c)) (λ relation path none some. none some.1) (relations_of c)

bad_status : (names : Names) (dir : Path) → IsPathTest (IsBadStatus names dir)
bad_status names dir path none (inl some) = absurd (cc (none.0, some))
bad_status names dir path none (inr (stands, (is, other, named))) = none.1 other named

missing_dir_excludes : (s : FsState) (old new : Path) → IsPathTest (IsMissingDir s.names old new)
missing_dir_excludes s old new =
    first_excludes (IsFirstAmong (IsBadStatus s.names) (status_dirs old ++ status_dirs new)) (IsFirstAmong (IsNoDir s.names) (target_dirs new))
    (among_excludes (IsBadStatus s.names) (bad_status s.names) (status_dirs old ++ status_dirs new))
    (among_excludes (IsNoDir s.names) (λ dir path none some. absurd (cc (none, some))) (target_dirs new))

module _ (s : FsState) (job : Job) (readings : Readings) where
  pub excludes : (condition : Condition) → IsTest (Finds s job readings condition)
  excludes OverlapIs refusal none some = absurd (cc (none, some))
  excludes (MissingDirIs side) refusal none some = absurd (cc (none, some))
  excludes (MissingVersionIs side) refusal none some = absurd (cc (none, some))
  excludes (WrongVersionIs side) refusal none some = absurd (cc (none, some))
  excludes (RunningIs side) refusal none some = absurd (cc (none, some))
  excludes OldDisabledIs refusal none some = absurd (cc (none, some))
  excludes (NoControlIs side) refusal none some = absurd (cc (none, some))
  excludes (ControlShortIs side) refusal none some = absurd (cc (none, some))
  excludes (ControlCrcIs side) refusal none some = absurd (cc (none, some))
  excludes (ControlVersionIs side) refusal none some = absurd (cc (none, some))
  excludes (CatalogVersionIs side) refusal none some = absurd (cc (none, some))
  excludes (NotShutDownIs side) refusal none some = absurd (cc (none, some))
  excludes (BlockSizeIs side) refusal none some = absurd (cc (none, some))
  excludes ControlDiffersIs refusal none some = absurd (cc (none, some))
  excludes (PreparedIs side) refusal none some = absurd (cc (none, some))
  excludes (CatalogTextIs side) refusal none some = absurd (cc (none, some))
  excludes TooManyIs refusal none some = catalog_excludes _ (λ c refusal none some. absurd (cc (none, some))) readings.old refusal none some
  excludes InstallUserIs refusal none some = catalogs_exclude _ (λ old new refusal none some. absurd (cc (none, some))) readings refusal none some
  excludes NewRolesIs refusal none some = catalog_excludes _ (λ c refusal none some. absurd (cc (none, some))) readings.new refusal none some
  excludes ConnectFlagIs refusal none some = catalog_excludes _ (λ c refusal none some. absurd (cc (none, some))) readings.old refusal none some
  excludes RegColumnIs refusal none some = catalog_excludes _ (λ c refusal none some. absurd (cc (none, some))) readings.old refusal none some
  excludes AclColumnIs refusal none some = catalog_excludes _ (λ c refusal none some. absurd (cc (none, some))) readings.old refusal none some
  excludes NewNotEmptyIs refusal none some = catalog_excludes _ (λ new. unless_excludes (new ≡ started new.bootstrap) NewNotEmpty) readings.new refusal none some
  excludes NewUsedIs refusal none some = path_excludes NewUsed (IsLeast (IsUsed s.names job.new)) (least_excludes (IsUsed s.names job.new)) refusal none some
  excludes TablespaceDirIs refusal none some = catalog_excludes _ (λ old. path_excludes TablespaceDir (IsTablespaceDir s job.old job.new old) (tablespace_excludes s job.old job.new old)) readings.old refusal none some
  excludes MissingFileIs refusal none some =
      catalog_excludes _ (λ old. path_excludes MissingFile (IsFirstOf (IsMissingDir s.names job.old job.new) (IsMissingFile s job.old old)) (first_excludes (IsMissingDir s.names job.old job.new) (IsMissingFile s job.old old) (missing_dir_excludes s job.old job.new) (missing_file_excludes s job.old old))) readings.old refusal none some
  excludes SharedInodeIs refusal none some = path_excludes SharedInode (IsSharedInode s job.old job.new) (λ path none some. none path some.0) refusal none some
  excludes DeviceDiffersIs refusal none some =
      link_excludes job.mode _ (catalog_excludes _ (λ old. path_excludes DeviceDiffers (IsDeviceDiffers s job.old job.new old) (device_excludes s job.old job.new old)) readings.old) refusal none some
  excludes ControlOldExistsIs refusal none some = link_excludes job.mode _ (λ refusal none some. absurd (cc (none, some))) refusal none some
