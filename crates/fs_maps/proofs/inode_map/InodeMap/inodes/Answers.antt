use Rattle.std.proofs.Common.{◌≡◌, ap, sym, ◌∙◌, rules}
use Rattle.std.specs.Map.{keys_of}
use Rattle.std.specs.FinMap as map
use Rattle.std.specs.Cmp.{nat_cmp_total}
use Rattle.std.specs.FinMap.{nat_cmp-IsAntisymmetric}
use Rattle.fs_maps.proofs.Entries.{entries_made}
use Rattle.fs_maps.proofs.inode_map.InodeMap.inodes.Goals as goal

pub returns : goal.returns
returns g c =
    let es = c.self.inside.entries.entries in
    let all : c.loop-inode.inodes.items ≡ keys_of es = search rules in
    all ∙ ap keys_of (sym (entries_made nat_cmp_total nat_cmp-IsAntisymmetric es c.keys-inode-items.ensures.ordered)) ∙ ap map.keys c.self.view_is
