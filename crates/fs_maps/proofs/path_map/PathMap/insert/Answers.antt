use Rattle.std.proofs.Common.{ap, ◌∙◌}
use Rattle.std.specs.FinMap as map
use Rattle.fs_model.specs.PathLaws.{path_total, path_exact}
use Rattle.fs_maps.proofs.Entries.{inserted}
use Rattle.fs_maps.proofs.path_map.PathMap.insert.Goals as goal

pub returns : goal.returns
returns g c =
    inserted path_total path_exact c.self.inside.entries.entries c.insert.new.self.entries c.args.at c.args.value c.in_ok-insert.ensures.updates.0
    ∙ ap (λ m. map.insert m c.args.at c.args.value) c.self.view_is
