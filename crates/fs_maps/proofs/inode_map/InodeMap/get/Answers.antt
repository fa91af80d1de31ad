use Rattle.std.proofs.Common.{ap, sym, ◌∙◌}
use Rattle.std.specs.FinMap as map
use Rattle.std.specs.Cmp.{nat_cmp_total}
use Rattle.fs_maps.proofs.Entries.{get_lookup}
use Rattle.fs_maps.proofs.inode_map.InodeMap.get.Goals as goal

pub returns : goal.returns
returns g c = c.get.ensures.value ∙ sym (get_lookup nat_cmp_total c.self.inside.entries.entries c.args.inode) ∙ ap (λ m. map.get m c.args.inode) c.self.view_is
