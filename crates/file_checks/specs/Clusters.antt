-- Where the two clusters of an upgrade stand. Both have the old cluster's tablespaces.
use Rattle.fs_model.specs.Names.{Path}
use Rattle.control_file.specs.declared.releases.Release.TheVariants.{V15, V16}
use Rattle.catalog.specs.Cluster.{Cluster}
use Rattle.relation_files.specs.Places.{Site}

abbrev pub old_site : Path → Cluster → Site
old_site root catalog = record { root = root; release = V15; tablespaces = catalog.tablespaces }

abbrev pub new_site : Path → Cluster → Site
new_site root catalog = record { root = root; release = V16; tablespaces = catalog.tablespaces }
