-- The replay of a schema.
use Rattle.std.proofs.Common.{ℕ, List}
use Rattle.fs_model.specs.Trail.{Trail, Goes}
use Rattle.fs_model.proofs.Going.{goes_weaker}
use Rattle.control_file.specs.declared.job.Job.{Job}
use Rattle.control_file.specs.declared.releases.Release.TheVariants.{V16}
use Rattle.catalog.specs.Cluster.{Cluster}
use Rattle.crash_safety.specs.Calling.{MakesWithin}
use Rattle.crash_safety.specs.Sound.{Whole}
use Rattle.new_names.specs.Frame.{MakesListed}
use Rattle.new_names.proofs.Runs.{listed_within}
use Rattle.catalog_server.specs.ReplayNames.{listed_names}
use Rattle.phase_facts.specs.Places.{holders_in}
use Rattle.phase_facts.specs.CanUpgrade.{CanUpgrade}
use Rattle.phase_facts.specs.Held.{Held}
use Rattle.phase_facts.proofs.Tops.{grounds, ground_places}
use Rattle.phase_facts.proofs.Replaying.{listed_inside}
use Rattle.phase_facts.proofs.Holding.{goes_held}

module _ (job : Job) (catalog before : Cluster) (head : List ℕ) (opening a b : Trail) (can : CanUpgrade job catalog head opening.present) (goes : Goes (MakesListed (listed_names job.new V16 before catalog) a.present) a b) where
  pub restore_makes : Goes (MakesWithin (grounds job.new (holders_in job opening.present)) a.present) a b
  restore_makes =
      let listed = listed_names job.new V16 before catalog in
      let tops = grounds job.new (holders_in job opening.present) in
      goes_weaker (MakesListed listed a.present) (MakesWithin tops a.present)
      (λ s call makes. listed_within listed tops (listed_inside job.new (holders_in job opening.present) before catalog can.recorded) a.present s call makes) goes

  pub restored_held : Held job Whole opening a → Held job Whole opening b
  restored_held held = goes_held job Whole opening a b held (λ moving. cc moving) (grounds job.new (holders_in job opening.present)) (ground_places job opening.present can.begins) restore_makes
