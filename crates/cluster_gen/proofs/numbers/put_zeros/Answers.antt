use Rattle.cluster_gen.specs.Numbers.{zeros}
use Rattle.cluster_gen.proofs.Ranges.{zero_more}
use Rattle.cluster_gen.proofs.numbers.put_zeros.Goals as goal

pub loop-preserved : goal.loop-preserved
unfolding zeros
loop-preserved c = zero_more c.loop.counter c.args.out.now.items c.loop.out.items c.push.new.self.items c.loop.invariant c.in_ok-push.ensures.items
