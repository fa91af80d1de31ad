use Rattle.std.proofs.Common.{ap, sym, ◌∙◌}
use Rattle.std.specs.FinMap as map
use Rattle.fs_model.specs.PathLaws.{path_total}
use Rattle.fs_maps.proofs.Entries.{get_lookup}
use Rattle.fs_maps.proofs.path_map.PathMap.get.Goals as goal

pub returns : goal.returns
returns g c = c.get.ensures.value ∙ sym (get_lookup path_total c.self.inside.entries.entries c.args.at.now) ∙ ap (λ m. map.get m c.args.at.now) c.self.view_is
