-- When the answer isn't `Unknown`.
use Rattle.std.proofs.Common.{◌≡◌, ◌≢◌, ℕ, Bool, true, false, cond, ◌&&◌, Option, Some, None, refl}
use Rattle.xact_status.specs.declared.known.Known.{Known}
use Rattle.xact_status.specs.declared.known.Known.TheVariants.{Committed, Aborted, Running, Unknown as Untold}
use Rattle.heap_tuple.specs.declared.header.Header.{Header}
use Rattle.visibility.specs.declared.seen.Seen.{Seen}
use Rattle.visibility.specs.declared.seen.Seen.TheVariants.{Yes, No, Unknown}
use Rattle.visibility.specs.Taken.{Taken}
use Rattle.heap_tuple.specs.Header.{has}
use Rattle.heap_tuple.specs.declared.layout.TheConstants.{XMIN_COMMITTED, XMIN_INVALID, XMAX_COMMITTED, XMAX_INVALID, XMAX_IS_MULTI}
use Rattle.visibility.specs.Snapshot.{is_inside}
use Rattle.visibility.specs.Visible.{locks_only, inserted_by, inserted_for, kept_after, seen_despite, seen_despite_updater, kept_for, kept_if, seen_by}

choice_told : (b : Bool) (x y : Seen) → x ≢ Unknown → y ≢ Unknown → cond b x y ≢ Unknown
choice_told true x y first second = first
choice_told false x y first second = second

yes_told : Yes ≢ Unknown
yes_told e = cc

no_told : No ≢ Unknown
no_told e = cc

inserted_by_told : (fate : Known) → fate ≢ Untold → inserted_by fate ≢ Unknown
inserted_by_told Committed known = yes_told
inserted_by_told Aborted known = no_told
inserted_by_told Running known = no_told
inserted_by_told Untold known = absurd (known refl)

kept_after_told : (fate : Known) → fate ≢ Untold → kept_after fate ≢ Unknown
kept_after_told Committed known = no_told
kept_after_told Aborted known = yes_told
kept_after_told Running known = yes_told
kept_after_told Untold known = absurd (known refl)

inserted_told : (fates : ℕ → Known) (header : Header) (snapshot : Taken) → fates header.xmin ≢ Untold → inserted_for fates header snapshot ≢ Unknown
inserted_told fates header snapshot known =
    choice_told (has header.infomask XMIN_COMMITTED && has header.infomask XMIN_INVALID) _ _ yes_told
    (choice_told (has header.infomask XMIN_COMMITTED) _ _ (choice_told (is_inside snapshot header.xmin) _ _ no_told yes_told)
    (choice_told (has header.infomask XMIN_INVALID) _ _ no_told (choice_told (is_inside snapshot header.xmin) _ _ no_told (inserted_by_told (fates header.xmin) known))))

despite_told : (fates : ℕ → Known) (snapshot : Taken) (xid : ℕ) → fates xid ≢ Untold → seen_despite fates snapshot xid ≢ Unknown
despite_told fates snapshot xid known = choice_told (is_inside snapshot xid) _ _ yes_told (kept_after_told (fates xid) known)

updater_told : (fates : ℕ → Known) (snapshot : Taken) (updater : Option (Option ℕ)) → updater ≢ None → ((xid : ℕ) → updater ≡ Some (Some xid) → fates xid ≢ Untold) → seen_despite_updater fates snapshot updater ≢ Unknown
updater_told fates snapshot None there known = absurd (there refl)
updater_told fates snapshot (Some None) there known = yes_told
updater_told fates snapshot (Some (Some xid)) there known = despite_told fates snapshot xid (known xid refl)

kept_told : (fates : ℕ → Known) (updaters : ℕ → Option (Option ℕ)) (header : Header) (snapshot : Taken) → fates header.xmax ≢ Untold → updaters header.xmax ≢ None → ((xid : ℕ) → updaters header.xmax ≡ Some (Some xid) → fates xid ≢ Untold) → kept_for fates updaters header snapshot ≢ Unknown
kept_told fates updaters header snapshot known there by =
    choice_told (has header.infomask XMAX_INVALID) _ _ yes_told
    (choice_told (locks_only header.infomask) _ _ yes_told
    (choice_told (has header.infomask XMAX_IS_MULTI) _ _ (updater_told fates snapshot (updaters header.xmax) there by)
    (choice_told (has header.infomask XMAX_COMMITTED) _ _ (choice_told (is_inside snapshot header.xmax) _ _ yes_told no_told) (despite_told fates snapshot header.xmax known))))

both_told : (inserted kept : Seen) → inserted ≢ Unknown → kept ≢ Unknown → kept_if inserted kept ≢ Unknown
both_told Yes kept first second = second
both_told No kept first second = no_told
both_told Unknown kept first second = absurd (first refl)

pub seen_told : (fates : ℕ → Known) (updaters : ℕ → Option (Option ℕ)) (header : Header) (snapshot : Taken) → fates header.xmin ≢ Untold → fates header.xmax ≢ Untold → updaters header.xmax ≢ None → ((xid : ℕ) → updaters header.xmax ≡ Some (Some xid) → fates xid ≢ Untold) → seen_by fates updaters header snapshot ≢ Unknown
seen_told fates updaters header snapshot inserter deleter there by =
    both_told _ _ (inserted_told fates header snapshot inserter) (kept_told fates updaters header snapshot deleter there by)
