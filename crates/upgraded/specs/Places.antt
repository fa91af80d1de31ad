-- Where both clusters of an upgrade live, and the names that it makes besides files of relations.
use Rattle.std.specs.Prelude.{List, [], ◌∷◌, ◌++◌, codes}
use Rattle.fs_model.specs.Names.{Path}
use Rattle.fs_model.specs.State.{FsState}
use Rattle.crash_safety.specs.Places.{locations, tops_at}
use Rattle.control_file.specs.declared.job.Job.{Job}
use Rattle.control_file.specs.declared.releases.Release.TheVariants.{V15, V16}
use Rattle.control_file.specs.Version.{dir_name_of}
use Rattle.catalog.specs.Cluster.{Cluster, started}
use Rattle.relation_files.specs.Places.{Site}
use Rattle.new_names.specs.declared.names.NewName.{NewName}
use Rattle.catalog_server.specs.Profile.{profile_path}
use Rattle.catalog_server.specs.ReplayNames.{listed_names}

-- the directories that the clusters live in, by the locations of the old one
abbrev pub old_tops : Job → FsState → List Path
old_tops job s = tops_at (locations s.names job.old) (dir_name_of V15) job.old

abbrev pub new_tops : Job → FsState → List Path
new_tops job s = tops_at (locations s.names job.old) (dir_name_of V16) job.new

-- where their files of relations are found
abbrev pub old_site : Job → Cluster → Site
old_site job catalog = record { root = job.old; release = V15; tablespaces = catalog.tablespaces }

abbrev pub new_site : Job → Cluster → Site
new_site job catalog = record { root = job.new; release = V16; tablespaces = catalog.tablespaces }

-- the names that the replay of the old catalog makes in the new cluster, which is as its bootstrap role made it
abbrev pub replay_names : Job → Cluster → List NewName
replay_names job catalog = listed_names job.new V16 (started catalog.bootstrap) catalog

-- the mark of an upgrade that ended
abbrev pub mark_at : Path → Path
mark_at root = profile_path root ++ codes "done" ∷ []

abbrev pub version_at : Path → Path
version_at root = root ++ codes "PG_VERSION" ∷ []
