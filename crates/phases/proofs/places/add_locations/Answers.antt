use Rattle.std.proofs.Common.{◌++◌, ◌∷◌, [], sym}
use Rattle.control_file.specs.declared.releases.Release.TheVariants.{V16}
use Rattle.control_file.specs.Version.{dir_name_of}
use Rattle.phases.proofs.Locations.{adding_holder, adding_top}
use Rattle.phases.proofs.places.add_locations.Goals as goal

pub loop-i-preserved : goal.loop-i-preserved
loop-i-preserved c = record {
  tops = adding_top c.args.catalog.now.tablespaces c.loop-i.i c.in-Some.tablespace.now (sym c.in-Some.ensures) (λ location. location ++ dir_name_of V16 ∷ []) c.loop-i.tops.items c.add_tablespace.new.tops.items _ c.in_ok-add_tablespace-in-Some.ensures.tops c.loop-i.invariant.tops;
  holders = adding_holder c.args.catalog.now.tablespaces c.loop-i.i c.in-Some.tablespace.now (sym c.in-Some.ensures) c.loop-i.holders.items c.add_tablespace.new.holders.items _ c.in_ok-add_tablespace-in-Some.ensures.holders c.loop-i.invariant.holders;
}
