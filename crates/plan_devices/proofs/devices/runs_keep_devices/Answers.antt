use Rattle.plan_devices.proofs.Keeping.{run_keeps, start_keeps}
use Rattle.plan_devices.proofs.devices.runs_keep_devices.Goals as goal

pub returns : goal.returns
returns c = record {
  begun = λ a b well goes. run_keeps a.present a b well (start_keeps a.present) goes;
  further = λ start a b well kept goes. run_keeps start a b well kept goes;
}
