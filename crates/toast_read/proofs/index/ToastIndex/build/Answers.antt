use Rattle.std.proofs.Common.{◌∙◌, ℕ, List, [], ap}
use Rattle.std.specs.Option.{unwrap_or}
use Rattle.std.specs.Ordering.{nat_cmp}
use Rattle.std.specs.Map.{lookup}
use Rattle.std.specs.BTreeMap.{is_at}
use Rattle.toast_read.specs.declared.chunk.Chunk.{Chunk}
use Rattle.toast_read.proofs.Grouping.{at_entries}
use Rattle.toast_read.proofs.index.ToastIndex.build.Goals as goal

pub loop-chunk-init : goal.loop-chunk-init
loop-chunk-init c value = at_entries c.new.result.entries value ∙ ap (λ (es : List (ℕ × List Chunk)). unwrap_or (lookup (is_at (nat_cmp value)) es) []) c.new.ensures.empty
