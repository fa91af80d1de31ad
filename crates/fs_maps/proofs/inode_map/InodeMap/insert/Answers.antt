use Rattle.std.proofs.Common.{ap, ◌∙◌}
use Rattle.std.specs.FinMap as map
use Rattle.std.specs.Cmp.{nat_cmp_total}
use Rattle.std.specs.FinMap.{nat_cmp-IsAntisymmetric}
use Rattle.fs_maps.proofs.Entries.{inserted}
use Rattle.fs_maps.proofs.inode_map.InodeMap.insert.Goals as goal

pub returns : goal.returns
returns g c =
    inserted nat_cmp_total nat_cmp-IsAntisymmetric c.self.inside.entries.entries c.insert.new.self.entries c.args.inode c.args.value c.in_ok-insert.ensures.updates.0
    ∙ ap (λ m. map.insert m c.args.inode c.args.value) c.self.view_is
