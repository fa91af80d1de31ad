-- The places of `pg_multixact` (`multixact.c`), on pages of 8192 bytes, 32 of them in a segment: offsets of four bytes,
-- and members in groups of four flag bytes and four ids.
use Rattle.std.specs.Prelude.{ℕ, ◌+◌, ◌*◌, ◌/◌, ◌%◌}
use Rattle.xact_status.specs.declared.layout.TheConstants.{PAGE_SIZE, PAGES_PER_SEGMENT}
use Rattle.xact_status.specs.declared.place.Place.{Place}
use Rattle.multixact.specs.declared.layout.TheConstants.{OFFSET_SIZE, OFFSETS_PER_PAGE, XID_SIZE, MEMBERS_PER_GROUP, GROUP_SIZE, MEMBERS_PER_PAGE}
use Rattle.multixact.specs.declared.place.MemberPlace.{MemberPlace}

abbrev pub offset_place_of : ℕ → Place
offset_place_of multi =
    let page = multi / OFFSETS_PER_PAGE in
    record {
      segment = page / PAGES_PER_SEGMENT;
      byte = page % PAGES_PER_SEGMENT * PAGE_SIZE + multi % OFFSETS_PER_PAGE * OFFSET_SIZE;
      shift = 0;
    }

-- where the group of a member begins, in its segment
abbrev pub group_place : ℕ → ℕ
group_place member =
    member / MEMBERS_PER_PAGE % PAGES_PER_SEGMENT * PAGE_SIZE + member % MEMBERS_PER_PAGE / MEMBERS_PER_GROUP * GROUP_SIZE

abbrev pub member_place_of : ℕ → MemberPlace
member_place_of member = record {
  segment = member / MEMBERS_PER_PAGE / PAGES_PER_SEGMENT;
  flag = group_place member + member % MEMBERS_PER_GROUP;
  xid = group_place member + MEMBERS_PER_GROUP + member % MEMBERS_PER_GROUP * XID_SIZE;
}
