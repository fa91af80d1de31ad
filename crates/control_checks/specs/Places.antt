-- The two sides of an upgrade, and the paths that are looked at below their data directories.
use Rattle.std.specs.Prelude.{[], ◌∷◌, ◌++◌, codes}
use Rattle.fs_model.specs.Names.{Path}
use Rattle.control_file.specs.declared.job.Job.{Job}
use Rattle.control_file.specs.declared.modes.Side.{Side}
use Rattle.control_file.specs.declared.modes.Side.TheVariants.{Old, New}
use Rattle.control_file.specs.declared.releases.Release.{Release}
use Rattle.control_file.specs.declared.releases.Release.TheVariants.{V15, V16}

abbrev pub root_of : Job → Side → Path
root_of job Old = job.old
root_of job New = job.new

abbrev pub release_of : Side → Release
release_of Old = V15
release_of New = V16

-- the file that says the release
abbrev pub version_path : Path → Path
version_path root = root ++ codes "PG_VERSION" ∷ []

-- the file that a running server has
abbrev pub pid_path : Path → Path
pid_path root = root ++ codes "postmaster.pid" ∷ []

abbrev pub control_path : Path → Path
control_path root = root ++ codes "global" ∷ codes "pg_control" ∷ []

-- the control file's name in a cluster that is disabled
abbrev pub disabled_path : Path → Path
disabled_path root = root ++ codes "global" ∷ codes "pg_control.old" ∷ []
