use Rattle.std.proofs.Common.{None, refl}
use Rattle.shared_inodes.specs.declared.shared.Counted.{Counted}
use Rattle.shared_inodes.proofs.Counting.{counted_all, all_shared}
use Rattle.shared_inodes.proofs.shared.shared_in.Goals as goal

pub returns-in-Ok-clause-exact : goal.returns-in-Ok-clause-exact
returns-in-Ok-clause-exact g c told formed turn others named =
    let (items, taken, walk) = c.in-Ok.ensures.walked told formed turn in
    let start : Counted = record { inodes = c.args.inodes; found = record { count = 0; least = None } } in
    all_shared (g.F.Fs.trail c.args.fs.now).present c.args.tops.now others c.args.inodes items walk named start.found c.look_in.new.look.found refl refl (counted_all start c.look_in.new.look items taken)
