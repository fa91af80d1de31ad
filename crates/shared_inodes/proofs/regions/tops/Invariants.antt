use Rattle.std.proofs.Common.{◌≡◌, ◌++◌, ◌∷◌, [], map, take}
use Rattle.control_file.specs.Version.{dir_name_of}
use Rattle.shared_inodes.proofs.regions.tops.Given as goal

abbrev pub invariant-loop-location : goal.invariant-loop-location
invariant-loop-location l = l.tops.items ≡ l.root ∷ map (λ location. location ++ dir_name_of l.release ∷ []) (take l.location-index l.locations)
