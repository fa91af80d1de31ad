-- What the status of transactions leaves, as a phase carries it.
use Rattle.fs_model.specs.Trail.{Trail, Since}
use Rattle.fs_model.proofs.Runs.{since_then}
use Rattle.control_file.specs.declared.job.Job.{Job}
use Rattle.phase_facts.specs.CanUpgrade.{CanBegin}
use Rattle.phase_frames.specs.Framed.{IsFramed}
use Rattle.phase_frames.proofs.Widths.{reads_framed}
use Rattle.phase_frames.proofs.Steps.{carried_framed, counted_framed}
use Rattle.phases.specs.Preparing.{CarriesThenReads}

pub status_framed : (job : Job) (opening a b : Trail) → CanBegin job opening.present → IsFramed job opening.present a.present → CarriesThenReads job a b → Since (IsFramed job opening.present) a b
status_framed job opening a b begins framed run =
    let carries = run.transactions in
    let P = IsFramed job opening.present in
    let carried = carried_framed job opening a carries.middle framed begins carries.carries in
    let counted = counted_framed job opening carries.middle run.done carried.present carries.frame in
    let same = reads_framed job opening run.done b counted.present run.unchanged in
    since_then P a carries.middle b carried (since_then P carries.middle run.done b counted same)
