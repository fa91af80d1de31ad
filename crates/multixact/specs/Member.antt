-- The members in `pg_multixact/members`.
use Rattle.std.specs.Prelude.{ℕ, Option, option_and_then, option_map}
use Rattle.xact_status.specs.Files.{SegmentFiles, byte_at}
use Rattle.multixact.specs.Numbers.{number_at}
use Rattle.multixact.specs.Place.{member_place_of}
use Rattle.multixact.specs.declared.member.Member.{Member}

-- a member, where its flag byte and its id are there
abbrev pub member_at : SegmentFiles → ℕ → Option Member
member_at files member =
    let place = member_place_of member in
    option_and_then (λ status. option_map (λ xid. record { status = status; xid = xid }) (number_at files place.segment place.xid))
    (byte_at files place.segment place.flag)
