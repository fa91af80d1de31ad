use Rattle.std.proofs.Common.{◌≡◌, ◌-◌}
use Rattle.std.specs.FinMap as map
use Rattle.multixact.proofs.Search.{members_after}
use Rattle.multixact.specs.Update.{updater_among}
use Rattle.multixact.specs.Members.{members_from}
use Rattle.multixact.proofs.update.first_update.Given as goal

-- none of the members so far decides
abbrev pub invariant-loop-index : goal.invariant-loop-index
invariant-loop-index l =
    updater_among (members_after (map.get l.members) l.begin l.index (l.count - l.index))
    ≡ updater_among (members_from (map.get l.members) l.begin l.count)
