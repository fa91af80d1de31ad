use Rattle.std.proofs.Common.{◌≡◌, length}
use Rattle.catalog.specs.Lists.{are_distinct}
use Rattle.catalog.specs.Forms.{same_text}
use Rattle.catalog.proofs.labels.label_texts_differ.Given as goal

abbrev pub invariant-loop-first : goal.invariant-loop-first
invariant-loop-first l = are_distinct same_text l.rest ≡ are_distinct same_text l.fn.labels

abbrev pub decreases-loop-first : goal.decreases-loop-first
decreases-loop-first l = length l.rest
