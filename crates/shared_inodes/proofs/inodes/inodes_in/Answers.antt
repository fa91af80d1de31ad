use Rattle.shared_inodes.specs.declared.inodes.Seen.{Seen}
use Rattle.shared_inodes.proofs.Named.{seen_all, named_in, none_in}
use Rattle.shared_inodes.proofs.inodes.inodes_in.Goals as goal

pub returns-in-Ok-clause-exact : goal.returns-in-Ok-clause-exact
returns-in-Ok-clause-exact g c told formed turn =
    let (items, taken, walk) = c.in-Ok.ensures.walked told formed turn in
    let start : Seen = record { inodes = c.new.result } in
    named_in (g.F.Fs.trail c.args.fs.now).present c.args.tops.now items c.new.result c.look_in.new.look.inodes (none_in c.new.result c.new.ensures) (seen_all start c.look_in.new.look items taken) walk
