use Rattle.std.proofs.Common.{arith, []}
use Rattle.fs_mem.proofs.Replay.{length-past_after}
use Rattle.fs_mem.proofs.calls.MemFsFs.moment.Goals as goal

pub returns-clause-number : goal.returns-clause-number
returns-clause-number c _ =
    let past = length-past_after [] c.args.self.now.opening c.args.self.now.done in
    omega (arith, past, c.count.ensures.count, c.count.ensures.fits)
