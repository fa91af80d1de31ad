use Rattle.std.proofs.Common.{◌≡◌, ◌∙◌, ◌-◌, ◌^◌, ℕ, List, ap, subst}
use Rattle.std.specs.Prelude.{min}
use Rattle.control_file.specs.declared.releases.Release.TheVariants.{V16}
use Rattle.visibility.specs.Taken.{Taken}
use Rattle.cluster_meaning.specs.Cluster.{opened}
use Rattle.row_counts.specs.Counted.{rows_of_cluster}
use Rattle.upgrade_run.specs.SelfTests.{all_ended}
use Rattle.upgrade_run.proofs.rows.counted.Goals as goal

-- the snapshot by its running transactions
abbrev taken : List ℕ → Taken
taken running = record { xmin = 800; xmax = 800; running = running }

pub returns-in-Ok-count_rows-clause-rows : goal.returns-in-Ok-count_rows-clause-rows
returns-in-Ok-count_rows-clause-rows g c told =
    let s = (g.F.Fs.trail c.args.fs.now).present in
    let root = c.args.root.now in
    subst (λ (t : Taken). c.in-Ok-count_rows.rows ≡ min (rows_of_cluster s (opened s root V16 c.args.catalog.now) t) (2 ^ 64 - 1)) (c.in-Ok.ensures.ok ∙ ap taken c.new.ensures.items) (c.in-Ok-count_rows.ensures.counted told)
