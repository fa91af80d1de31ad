-- What a `ClusterSite` tells.
use Rattle.relation_files.specs.Places.{Site}
use Rattle.relation_files.specs.declared.site.ClusterSite.{ClusterSite}

abbrev pub site_at : ClusterSite → Site
site_at site = record { root = site.root.now; release = site.release; tablespaces = site.catalog.now.tablespaces }
