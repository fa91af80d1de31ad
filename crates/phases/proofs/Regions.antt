-- The new cluster's directories at its tablespaces' locations stand once the schema is there.
use Rattle.std.proofs.Common.{◌≡◌, ◌∷◌, [], ◌++◌, Some, sym, subst}
use Rattle.std.specs.FinMap.{get}
use Rattle.fs_model.specs.declared.node.Node.TheVariants.{Dir}
use Rattle.fs_model.specs.Names.{Path}
use Rattle.fs_model.specs.Trail.{Trail, Goes}
use Rattle.fs_model.proofs.Runs.{all_weaker}
use Rattle.control_file.specs.declared.job.Job.{Job}
use Rattle.control_file.specs.declared.releases.Release.TheVariants.{V16}
use Rattle.control_file.specs.Version.{dir_name_of}
use Rattle.catalog.specs.Cluster.{Cluster}
use Rattle.crash_safety.specs.Places.{control_at}
use Rattle.status_transfer.specs.Status.{status_dirs}
use Rattle.phase_facts.specs.Places.{locations_of}
use Rattle.phase_facts.specs.Held.{KeepsDirectories}
use Rattle.phase_facts.specs.Finishing.{HasRegions}
use Rattle.phase_facts.proofs.Standing.{dir_stays, status_keeps, counters_keep}
use Rattle.phases.specs.Preparing.{CarriesThenReads}

pub regions_stay : (catalog : Cluster) (a b : Trail) → Goes KeepsDirectories a b → HasRegions catalog a.present → HasRegions catalog b.present
regions_stay catalog a b goes regions =
    all_weaker (λ (location : Path). get a.present.names (location ++ dir_name_of V16 ∷ []) ≡ Some Dir) (λ (location : Path). get b.present.names (location ++ dir_name_of V16 ∷ []) ≡ Some Dir)
    (λ location there. (dir_stays a b (location ++ dir_name_of V16 ∷ []) goes there).present) (locations_of catalog.tablespaces) regions

pub status_regions : (job : Job) (catalog : Cluster) (a b : Trail) → CarriesThenReads job a b → HasRegions catalog a.present → HasRegions catalog b.present
status_regions job catalog a b run regions =
    let carries = run.transactions in
    let first = regions_stay catalog a carries.middle (status_keeps (status_dirs job.new) a carries.middle carries.carries) regions in
    let second = regions_stay catalog carries.middle run.done (counters_keep (control_at job.new) carries.middle run.done carries.counts) first in
    subst (HasRegions catalog) (sym run.unchanged.present) second
