use Rattle.file_checks.proofs.Keeping.{passed_more}
use Rattle.file_checks.proofs.devices.next_device.Goals as goal

pub returns-clause-finds : goal.returns-clause-finds
returns-clause-finds g c told formed passed =
    passed_more (g.F.Fs.trail c.args.fs.now).present _ _ c.args.passed.now c.insert.new.self c.args.relation c.other_device.result c.in-Ok.ensures (c.other_device.ensures.finds told formed) passed
