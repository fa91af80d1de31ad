use Rattle.transfer_plan.proofs.Staying.{names_stay, devices_stay, call_keeps, call_keeps_devices, run_keeps, run_keeps_devices}
use Rattle.transfer_plan.proofs.laws.plans_stay.Goals as goal

pub returns : goal.returns
returns c = record {
  names = λ items a b same can. names_stay a b items same can;
  devices = λ items a b same have. devices_stay a b items same have;
  calls = λ items s call answer effect spares may can. call_keeps items s call answer effect spares may can;
  device_calls = λ items s call answer effect spares may have. call_keeps_devices items s call answer effect spares may have;
  runs = λ items a b goes can. run_keeps items a b goes can;
  device_runs = λ items a b goes have. run_keeps_devices items a b goes have;
}
