-- What became of a transaction.
use Rattle.std.specs.Prelude.{ℕ, ◌==◌, nat_lt, if◌then◌else◌, Option, Some, None}
use Rattle.xact_status.specs.declared.layout.TheConstants.{FIRST_NORMAL_XID}
use Rattle.xact_status.specs.declared.status.Status.{Status}
use Rattle.xact_status.specs.declared.status.Status.TheVariants as status
use Rattle.xact_status.specs.declared.known.Known.{Known}
use Rattle.xact_status.specs.declared.known.Known.TheVariants.{Committed, Aborted, Running, Unknown}
use Rattle.xact_status.specs.declared.window.Window.{Window}
use Rattle.xact_status.specs.Files.{SegmentFiles}
use Rattle.xact_status.specs.Status.{status_at}
use Rattle.xact_status.specs.Window.{is_within}

-- what a status says, or that it is absent
abbrev pub fate_by : Option Status → Known
fate_by None = Unknown
fate_by (Some status.InProgress) = Running
fate_by (Some status.Committed) = Committed
fate_by (Some status.Aborted) = Aborted
fate_by (Some status.SubCommitted) = Running

-- what the commit log says of an id, where the window has it; id 0 is that of no transaction, 1 and 2 always committed
abbrev pub fate_of : SegmentFiles → Window → ℕ → Known
fate_of files window xid =
    if xid == 0 then Aborted
    else (if nat_lt xid FIRST_NORMAL_XID then Committed
    else (if is_within window xid then fate_by (status_at files xid) else Unknown))
