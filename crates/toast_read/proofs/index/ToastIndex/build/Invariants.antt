use Rattle.toast_read.specs.Index.{IsIndexOf}
use Rattle.toast_read.proofs.index.ToastIndex.build.Given as goal

abbrev pub invariant-loop-chunk : goal.invariant-loop-chunk
invariant-loop-chunk l = IsIndexOf l.index l.yielded
