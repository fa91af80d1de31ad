use Rattle.std.proofs.Common.{ap, ◌∙◌}
use Rattle.std.specs.FinMap as map
use Rattle.std.specs.Cmp.{nat_cmp_total}
use Rattle.std.specs.FinMap.{nat_cmp-IsAntisymmetric}
use Rattle.fs_maps.proofs.Entries.{removed}
use Rattle.fs_maps.proofs.inode_map.InodeMap.remove.Goals as goal

pub returns : goal.returns
returns g c =
    removed nat_cmp_total nat_cmp-IsAntisymmetric c.self.inside.entries.entries c.remove.new.self.entries c.args.inode c.remove.ensures.updates.0
    ∙ ap (λ m. map.remove m c.args.inode) c.self.view_is
