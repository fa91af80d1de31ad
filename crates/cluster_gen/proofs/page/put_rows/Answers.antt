use Rattle.std.proofs.Common.{ℕ, ◌-◌}
use Rattle.cluster_gen.specs.Page.{row, rows_below}
use Rattle.cluster_gen.proofs.Ranges.{going}
use Rattle.cluster_gen.proofs.page.put_rows.Goals as goal

pub loop-above-preserved : goal.loop-above-preserved
unfolding rows_below
loop-above-preserved c =
    going {A = ℕ} (λ above. row (c.args.count - above)) c.loop-above.above c.args.out.now.items c.loop-above.out.items c.put_row.new.out.items c.loop-above.invariant c.in_ok-put_row.ensures
