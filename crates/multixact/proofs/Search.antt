-- One step of the search for the first update.
use Rattle.std.proofs.Common.{◌≡◌, ◌+◌, ◌-◌, ◌<◌, ◌%◌, ◌^◌, ℕ, suc, List, map, Option, Some, None, true, false, cond, refl, ◌∙◌, arith}
use Rattle.std.specs.List.{range_with_len, find}
use Rattle.xact_status.specs.Files.{SegmentFiles}
use Rattle.multixact.specs.declared.member.Member.{Member}
use Rattle.multixact.specs.Member.{member_at}
use Rattle.multixact.specs.Update.{decides, is_update, told_by, updater_among}

-- the members from an index on
abbrev pub members_after : SegmentFiles → ℕ → ℕ → ℕ → List (Option Member)
members_after files begin index count = map (λ i. member_at files ((begin + i) % 2 ^ 32)) (range_with_len index count)

-- the next member is the first of those that are left
first : (files : SegmentFiles) (begin index count : ℕ) (member : Option Member) → index < count → member ≡ member_at files ((begin + index) % 2 ^ 32) → updater_among (members_after files begin index (count - index)) ≡ told_by (cond (decides member) (Some member) (find decides (members_after files begin (index + 1) (count - (index + 1)))))
first files begin index count member more is =
    let left : count - index ≡ suc (count - (index + 1)) = omega arith in
    rw (left, is) refl

pub first-absent : (files : SegmentFiles) (begin index count : ℕ) → index < count → None ≡ member_at files ((begin + index) % 2 ^ 32) → updater_among (members_after files begin index (count - index)) ≡ None
first-absent files begin index count more is = first files begin index count None more is

pub first-update : (files : SegmentFiles) (begin index count : ℕ) (member : Member) → index < count → Some member ≡ member_at files ((begin + index) % 2 ^ 32) → is_update member ≡ true → updater_among (members_after files begin index (count - index)) ≡ Some (Some member.xid)
first-update files begin index count member more is update =
    first files begin index count (Some member) more is ∙ rw update refl

pub first-other : (files : SegmentFiles) (begin index count : ℕ) (member : Member) → index < count → Some member ≡ member_at files ((begin + index) % 2 ^ 32) → is_update member ≡ false → updater_among (members_after files begin index (count - index)) ≡ updater_among (members_after files begin (index + 1) (count - (index + 1)))
first-other files begin index count member more is other =
    first files begin index count (Some member) more is ∙ rw other refl
