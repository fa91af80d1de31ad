use Rattle.std.proofs.Common.{ap, ◌∙◌}
use Rattle.std.specs.FinMap as map
use Rattle.fs_model.specs.PathLaws.{path_total, path_exact}
use Rattle.fs_maps.proofs.Entries.{removed}
use Rattle.fs_maps.proofs.path_map.PathMap.remove.Goals as goal

pub returns : goal.returns
returns g c =
    removed path_total path_exact c.self.inside.entries.entries c.remove.new.self.entries c.args.at.now c.remove.ensures.updates.0
    ∙ ap (λ m. map.remove m c.args.at.now) c.self.view_is
