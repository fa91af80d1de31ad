-- The ids that hadn't ended for a snapshot (`snapmgr.c`).
use Rattle.std.specs.Prelude.{ℕ, Bool, true, false, ◌==◌, if◌then◌else◌}
use Rattle.std.specs.List.{list_any}
use Rattle.xact_status.specs.Window.{is_before}
use Rattle.visibility.specs.Taken.{Taken}

abbrev pub is_inside : Taken → ℕ → Bool
is_inside snapshot xid =
    if is_before xid snapshot.xmin then false
    else (if is_before xid snapshot.xmax then list_any (λ running. running == xid) snapshot.running else true)
