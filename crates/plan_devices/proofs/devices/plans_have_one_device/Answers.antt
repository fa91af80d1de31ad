use Rattle.plan_devices.proofs.Planned.{items_have_one_device}
use Rattle.plan_devices.proofs.devices.plans_have_one_device.Goals as goal

pub returns : goal.returns
returns c job catalog head start s items can links kept of carried = items_have_one_device job catalog head start s can links kept items of carried.each
