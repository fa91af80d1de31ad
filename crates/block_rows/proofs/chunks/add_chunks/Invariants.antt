use Rattle.std.proofs.Common.{◌≡◌, ◌++◌, filter_map}
use Rattle.heap_page.specs.Page.{items_of}
use Rattle.cluster_meaning.specs.Chunks.{chunk_of}
use Rattle.block_rows.proofs.chunks.add_chunks.Given as goal

abbrev pub invariant-loop-tuple : goal.invariant-loop-tuple
invariant-loop-tuple l =
    l.chunks.items ++ filter_map (λ item. chunk_of item.1) l.tuple-iterator ≡ l.initial.chunks.items ++ filter_map (λ item. chunk_of item.1) (items_of l.block)
