use Rattle.std.proofs.Common.{◌≡◌, arith}
use Rattle.cluster_gen.specs.declared.parts.Part.{Part}
use Rattle.cluster_gen.specs.Parts.{table_parts}
use Rattle.cluster_gen.proofs.Ranges.{going}
use Rattle.cluster_gen.proofs.Clusters.{app_joined}
use Rattle.cluster_gen.proofs.tables.put_app.Goals as goal

pub loop-table-preserved : goal.loop-table-preserved
loop-table-preserved c =
    going {A = Part} (table_parts c.args.cluster.now.root) c.loop-table.table c.put_place.new.parts.items c.loop-table.parts.items c.put_table.new.parts.items c.loop-table.invariant c.in_ok-put_table.ensures

pub returns : goal.returns
returns c =
    let done : c.loop-table.table ≡ c.args.tables = omega arith in
    app_joined c.args.cluster.now c.args.tables c.loop-table.table c.args.parts.now.items c.put_place.new.parts.items c.loop-table.parts.items c.put_place-2.new.parts.items done c.in_ok-put_place.ensures c.loop-table.invariant c.in_ok-put_place-2.ensures
