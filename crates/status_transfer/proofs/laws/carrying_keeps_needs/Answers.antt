use Rattle.fs_model.proofs.Going.{goes_weaker}
use Rattle.crash_safety.specs.Calling.{MakesWithin}
use Rattle.crash_safety.specs.Places.{control_at}
use Rattle.crash_safety.proofs.NeedRuns.{makes_need}
use Rattle.status_transfer.specs.Carried.{CarriesInto}
use Rattle.status_transfer.specs.Status.{status_dirs}
use Rattle.status_transfer.proofs.Framing.{carries_within}
use Rattle.status_transfer.proofs.StatusDirs.{dirs_held, control_outside}
use Rattle.status_transfer.proofs.laws.carrying_keeps_needs.Goals as goal

pub returns : goal.returns
returns c tops holders root inside a b tracked needs goes =
    makes_need tops holders (control_at root) (status_dirs root) (control_outside root) (dirs_held tops holders root inside) a b tracked needs
    (goes_weaker (CarriesInto (status_dirs root) a.present) (MakesWithin (status_dirs root) a.present) (carries_within (status_dirs root) a.present) goes)
