use Rattle.std.proofs.Common.{◌∙◌, ◌-◌, ◌+◌, ◌++◌, List, ℕ, flat_map, ap}
use Rattle.std.specs.List.{range_with_len}
use Rattle.toast_read.specs.Chunks.{bytes_at}
use Rattle.toast_read.proofs.Least.{joined_next}
use Rattle.toast_read.proofs.join.bytes_of.Goals as goal

pub loop-seq-preserved : goal.loop-seq-preserved
loop-seq-preserved c =
    let f : ℕ → List ℕ = bytes_at c.args.parts.now in
    let n : ℕ = c.loop-seq.seq in
    let more = c.in_ok-extend_from_slice.ensures.items ∙ ap (λ part. c.loop-seq.bytes.items ++ part) c.part_at.ensures in
    ap (λ (l : List ℕ). l ++ flat_map f (range_with_len (n + 1) (c.args.end - (n + 1)))) more
    ∙ joined_next f c.loop-seq.bytes.items (flat_map f (range_with_len 0 c.args.end)) n c.args.end c.loop-seq-test.true c.loop-seq.invariant
