use Rattle.std.proofs.Common.{◌≡◌, ap, sym, ◌∙◌, rules}
use Rattle.std.specs.Map.{keys_of}
use Rattle.std.specs.FinMap as map
use Rattle.fs_model.specs.PathLaws.{path_total, path_exact}
use Rattle.fs_maps.proofs.Entries.{entries_made}
use Rattle.fs_maps.proofs.path_map.PathMap.paths.Goals as goal

pub returns : goal.returns
returns g c =
    let es = c.self.inside.entries.entries in
    let all : c.loop-path.paths.items ≡ keys_of es = search rules in
    all ∙ ap keys_of (sym (entries_made path_total path_exact es c.keys-path-items.ensures.ordered)) ∙ ap map.keys c.self.view_is
