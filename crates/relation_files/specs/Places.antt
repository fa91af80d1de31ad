-- Where the files of a relation stand (`src/common/relpath.c`; the manual's "Database File Layout").
use Rattle.std.specs.Prelude.{ℕ, zero, suc, ◌==◌, List, [], ◌∷◌, ◌++◌, codes, if◌then◌else◌, Option, Some, None}
use Rattle.std.specs.List.{find}
use Rattle.std.specs.Fmt.{decimal}
use Rattle.fs_model.specs.Names.{Path}
use Rattle.fs_model.specs.State.{FsState}
use Rattle.fs_model.specs.Reading.{file_bytes}
use Rattle.control_file.specs.declared.releases.Release.{Release}
use Rattle.control_file.specs.Version.{dir_name_of}
use Rattle.catalog.specs.declared.owners.Tablespace.{Tablespace}
use Rattle.catalog.specs.Cluster.{default_tablespace}
use Rattle.catalog.specs.Spaces.{tablespace_has}
use Rattle.xact_status.specs.Files.{SegmentFiles}
use Rattle.relation_files.specs.declared.relation.Relation.{Relation}
use Rattle.relation_files.specs.declared.relation.Fork.{Fork}
use Rattle.relation_files.specs.declared.relation.Fork.TheVariants.{Main, FreeSpace, Visibility}

-- where a cluster's files are found: its data directory, its release and its tablespaces
pub record Site : Type 0 where
  pub root : Path
  pub release : Release
  pub tablespaces : List Tablespace

abbrev pub location_in : Option Tablespace → Path
location_in None = []
location_in (Some tablespace) = tablespace.location

-- the release's own directory in a tablespace, or `base`
abbrev pub tablespace_dir : Site → ℕ → Path
tablespace_dir site tablespace =
    if tablespace == default_tablespace then site.root ++ codes "base" ∷ []
    else location_in (find (tablespace_has tablespace) site.tablespaces) ++ dir_name_of site.release ∷ []

abbrev pub fork_suffix : Fork → List ℕ
fork_suffix Main = []
fork_suffix FreeSpace = codes "_fsm"
fork_suffix Visibility = codes "_vm"

-- the first segment's name has no number
abbrev pub segment_suffix : ℕ → List ℕ
segment_suffix zero = []
segment_suffix (suc n) = codes "." ++ decimal (suc n)

-- the directory that has the files of a relation: that of its database
abbrev pub relation_dir : Site → Relation → Path
relation_dir site relation = tablespace_dir site relation.tablespace ++ decimal relation.database ∷ []

-- the name of a segment of a fork
abbrev pub file_name : Relation → Fork → ℕ → List ℕ
file_name relation fork segment = decimal relation.file ++ (fork_suffix fork ++ segment_suffix segment)

-- the path of a segment of a fork
unfoldable pub segment_path : Site → Relation → Fork → ℕ → Path
segment_path site relation fork segment = relation_dir site relation ++ file_name relation fork segment ∷ []

-- the files of a fork by segment; what is no file counts as missing
abbrev pub fork_files : FsState → Site → Relation → Fork → SegmentFiles
fork_files s site relation fork segment = file_bytes s (segment_path site relation fork segment)
