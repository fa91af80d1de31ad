use Rattle.std.proofs.Common.{ap, sym, ◌∙◌}
use Rattle.std.specs.FinMap as map
use Rattle.std.specs.Cmp.{nat_cmp_total}
use Rattle.std.specs.FinMap.{nat_cmp-IsAntisymmetric}
use Rattle.fs_maps.proofs.Entries.{get_lookup, removed}
use Rattle.fs_maps.proofs.inode_map.InodeMap.take.Goals as goal

pub returns-clause-value : goal.returns-clause-value
returns-clause-value g c = c.remove.ensures.value ∙ sym (get_lookup nat_cmp_total c.self.inside.entries.entries c.args.inode) ∙ ap (λ m. map.get m c.args.inode) c.self.view_is

pub returns-clause-rest : goal.returns-clause-rest
returns-clause-rest g c =
    removed nat_cmp_total nat_cmp-IsAntisymmetric c.self.inside.entries.entries c.remove.new.self.entries c.args.inode c.remove.ensures.updates.0
    ∙ ap (λ m. map.remove m c.args.inode) c.self.view_is
