use Rattle.std.proofs.Common.{◌≡◌, ◌++◌, drop}
use Rattle.std.specs.Prelude.{map}
use Rattle.std.specs.List.{list_all}
use Rattle.fs_model.specs.Names.{is_name}
use Rattle.fs_model.proofs.path.Path.join.Given as goal

-- the path so far and the names that are left are the whole
abbrev pub invariant-loop-name : goal.invariant-loop-name
invariant-loop-name l =
    (l.path ++ map (λ name. name.now) (drop l.name-index l.names) ≡ l.self ++ map (λ name. name.now) l.names)
    × (list_all is_name (map (λ name. name.now) l.names) ≡ list_all is_name (map (λ name. name.now) (drop l.name-index l.names)))
