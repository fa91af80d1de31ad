-- All points of an upgraded cluster together.
use Rattle.std.proofs.Common.{List}
use Rattle.fs_model.specs.State.{FsState}
use Rattle.control_file.specs.declared.job.Job.{Job}
use Rattle.catalog.specs.Cluster.{Cluster}
use Rattle.transfer_plan.specs.declared.plan.PlanItem.{PlanItem}
use Rattle.upgraded.specs.Upgraded.{ReadsCatalog, Upgraded}
use Rattle.upgraded.specs.Upgradable.{IsUpgradable}
use Rattle.upgraded.specs.Upgrades.{Upgrades}
use Rattle.upgraded.proofs.Reading.{read_back}
use Rattle.upgraded.proofs.Meaning.{meaning_stays}
use Rattle.upgraded.proofs.Control.{control_counted, version_stays}
use Rattle.upgraded.proofs.Status.{status_carried}
use Rattle.upgraded.proofs.Files.{files_carried}
use Rattle.upgraded.proofs.Sharing.{shares_by_mode}
use Rattle.upgraded.proofs.Others.{others_left}

pub upgraded_by_steps : (read : ReadsCatalog) (job : Job) (catalog : Cluster) (items : List PlanItem) (s0 s1 s2 s3 s4 s5 x : FsState) → IsUpgradable read job catalog s0 → Upgrades read job catalog items s0 s1 s2 s3 s4 s5 x → Upgraded read job catalog s0 x
upgraded_by_steps read job catalog items s0 s1 s2 s3 s4 s5 x can went =
    let control = control_counted read job catalog items s0 s1 s2 s3 s4 s5 x can went in
    let status = status_carried read job catalog items s0 s1 s2 s3 s4 s5 x can went in
    let files = files_carried read job catalog items s0 s1 s2 s3 s4 s5 x can went in
    record {
      reading = read_back read job catalog items s0 s1 s2 s3 s4 s5 x can went;
      meaning = meaning_stays job catalog s0 x can.segments_have_blocks can.relseg_size control status files;
      control = control;
      version = version_stays read job catalog items s0 s1 s2 s3 s4 s5 x can went;
      status = status;
      files = files;
      sharing = shares_by_mode read job catalog items s0 s1 s2 s3 s4 s5 x can went;
      others = others_left read job catalog items s0 s1 s2 s3 s4 s5 x can went;
    }
