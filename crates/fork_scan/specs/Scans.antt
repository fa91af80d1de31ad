-- What is gathered from blocks with their numbers.
use Rattle.std.specs.Prelude.{ℕ, List}
use Rattle.toast_read.specs.declared.chunk.Chunk.{Chunk}
use Rattle.cluster_meaning.specs.Chunks.{chunks_in}

abbrev pub chunks_at : ℕ × List ℕ → List Chunk
chunks_at one = chunks_in one.1
