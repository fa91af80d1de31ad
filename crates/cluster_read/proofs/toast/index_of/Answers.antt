use Rattle.std.proofs.Common.{◌≡◌, ◌∙◌, ◌++◌, ℕ, List, [], true, None, Some, Option, Result, Ok, Err, IfOk, refl, sym, ap, subst}
use Rattle.fs_model.specs.State.{FsState}
use Rattle.fs_model.specs.WellFormed.{WellFormed}
use Rattle.fs_model.specs.Trail.{DecidedBy, error_of, unless_lack}
use Rattle.fs_model.specs.Observed.{Observed, OnlyReads}
use Rattle.fs_model.proofs.Observing.{no_reads, reads_then}
use Rattle.toast_read.specs.Index.{IsIndexOf}
use Rattle.status_read.proofs.Deciding.{decided_as}
use Rattle.cluster_read.proofs.toast.index_of.Goals as goal

pub returns-in-Err-clause-unrefused : goal.returns-in-Err-clause-unrefused
returns-in-Err-clause-unrefused g c told formed = decided_as (Unit {0}) (Unit {0}) None c.in-Err.error (c.in-Err.ensures.unrefused told formed)

pub returns-in-Ok-build-clause-index : goal.returns-in-Ok-build-clause-index
returns-in-Ok-build-clause-index g c told formed counters = subst (IsIndexOf c.in-Ok-build.index) (c.in-Ok.ensures.chunks told formed counters) c.in-Ok-build.ensures.index
