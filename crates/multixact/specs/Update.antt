-- The member of a multixact that updated or deleted the row.
use Rattle.std.specs.Prelude.{ℕ, ◌==◌, Bool, true, ◌&&◌, ◌||◌, not, if◌then◌else◌, List, Option, Some, None, option_and_then}
use Rattle.std.specs.List.{find}
use Rattle.control_file.specs.declared.records.Counters.{Counters}
use Rattle.xact_status.specs.Files.{SegmentFiles}
use Rattle.xact_status.specs.Window.{ids_from}
use Rattle.multixact.specs.Window.{is_kept}
use Rattle.multixact.specs.Offset.{offset_at, end_at}
use Rattle.multixact.specs.Members.{members_from}
use Rattle.multixact.specs.declared.layout.TheConstants.{NO_KEY_UPDATE_STATUS, UPDATE_STATUS}
use Rattle.multixact.specs.declared.member.Member.{Member}

-- a member is an update, and isn't passed over
abbrev pub is_update : Member → Bool
is_update member = not (member.xid == 0) && (member.status == NO_KEY_UPDATE_STATUS || member.status == UPDATE_STATUS)

-- a member that isn't there, or that is an update, decides
abbrev pub decides : Option Member → Bool
decides None = true
decides (Some member) = is_update member

-- what the first member that decides says: its id, or nothing where it isn't there; and no update where none decides
abbrev pub told_by : Option (Option Member) → Option (Option ℕ)
told_by None = Some None
told_by (Some None) = None
told_by (Some (Some member)) = Some (Some member.xid)

abbrev pub updater_among : List (Option Member) → Option (Option ℕ)
updater_among members = told_by (find decides members)

-- the updater of an id that the cluster keeps, where the bytes are there that it takes to say
abbrev pub updater_of : SegmentFiles → SegmentFiles → Counters → ℕ → Option (Option ℕ)
updater_of offsets members counters multi =
    if is_kept counters multi
    then option_and_then
    (λ begin. option_and_then (λ end. updater_among (members_from members begin (ids_from begin end))) (end_at offsets counters multi))
    (offset_at offsets multi)
    else None
