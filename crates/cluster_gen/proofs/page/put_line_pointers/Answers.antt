use Rattle.std.proofs.Common.{ℕ, ◌+◌, ◌++◌, ◌∙◌, ap}
use Rattle.cluster_gen.specs.Numbers.{four_bytes}
use Rattle.cluster_gen.specs.Page.{line_pointer, line_pointers}
use Rattle.cluster_gen.proofs.Ranges.{going}
use Rattle.cluster_gen.proofs.page.put_line_pointers.Goals as goal

pub loop-line-preserved : goal.loop-line-preserved
unfolding line_pointers
loop-line-preserved c =
    going {A = ℕ} (λ i. four_bytes (line_pointer (i + 1))) c.loop-line.line c.args.out.now.items c.loop-line.out.items c.put_u32.new.out.items c.loop-line.invariant
    (c.in_ok-put_u32.ensures ∙ ap (λ n. c.loop-line.out.items ++ four_bytes n) c.line_pointer.ensures)
