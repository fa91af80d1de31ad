use Rattle.std.proofs.Common.{Some, ap, ◌∙◌}
use Rattle.std.specs.FinMap as map
use Rattle.xact_status.proofs.FileLemmas.{status_found}
use Rattle.xact_status.proofs.status.status_in.Goals as goal

pub returns-clause-status : goal.returns-clause-status
returns-clause-status c =
    let place = c.place_of-place.ensures in
    ap Some c.status_by.ensures ∙ rw place (status_found (map.get c.args.files.now) c.args.xid c.in_ok-byte.byte (rw place at c.in_ok-byte.ensures))
