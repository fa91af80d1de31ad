use Rattle.std.proofs.Common.{◌≡◌, ◌++◌, ◌∷◌, [], drop}
use Rattle.std.specs.Prelude.{map}
use Rattle.control_file.specs.declared.releases.Release.TheVariants.{V16}
use Rattle.control_file.specs.Version.{dir_name_of}
use Rattle.phase_facts.specs.Places.{locations_of}
use Rattle.phases.proofs.places.add_locations.Given as goal

abbrev pub invariant-loop-i : goal.invariant-loop-i
invariant-loop-i l = record {
  tops : l.tops.items ++ map (λ location. location ++ dir_name_of V16 ∷ []) (locations_of (drop l.i l.catalog.tablespaces)) ≡ l.fn.tops.items ++ map (λ location. location ++ dir_name_of V16 ∷ []) (locations_of l.catalog.tablespaces);
  holders : l.holders.items ++ locations_of (drop l.i l.catalog.tablespaces) ≡ l.fn.holders.items ++ locations_of l.catalog.tablespaces;
}
