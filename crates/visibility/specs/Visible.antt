-- Which tuples a snapshot sees (`heapam_visibility.c`).
use Rattle.std.specs.Prelude.{ℕ, ◌==◌, ◌&&◌, ◌||◌, bit_and, Bool, if◌then◌else◌, Option, Some, None}
use Rattle.heap_tuple.specs.Header.{has}
use Rattle.heap_tuple.specs.declared.header.Header.{Header}
use Rattle.heap_tuple.specs.declared.layout.TheConstants.{EXCL_LOCK, LOCK_ONLY, XMIN_COMMITTED, XMIN_INVALID, XMAX_COMMITTED, XMAX_INVALID, XMAX_IS_MULTI}
use Rattle.xact_status.specs.declared.known.Known.{Known}
use Rattle.xact_status.specs.declared.known.Known.TheVariants.{Committed, Aborted, Running, Unknown as Untold}
use Rattle.visibility.specs.declared.seen.Seen.{Seen}
use Rattle.visibility.specs.declared.seen.Seen.TheVariants.{Yes, No, Unknown}
use Rattle.visibility.specs.Taken.{Taken}
use Rattle.visibility.specs.Snapshot.{is_inside}

-- what an insertion is worth whose transaction had ended for the snapshot
abbrev pub inserted_by : Known → Seen
inserted_by Committed = Yes
inserted_by Aborted = No
inserted_by Running = No
inserted_by Untold = Unknown

-- whether the tuple is inserted for the snapshot: both xmin bits say that it is frozen, one of them what became of the
-- transaction
abbrev pub inserted_for : (ℕ → Known) → Header → Taken → Seen
inserted_for fates header snapshot =
    if has header.infomask XMIN_COMMITTED && has header.infomask XMIN_INVALID then Yes
    else (if has header.infomask XMIN_COMMITTED then (if is_inside snapshot header.xmin then No else Yes)
    else (if has header.infomask XMIN_INVALID then No
    else (if is_inside snapshot header.xmin then No else inserted_by (fates header.xmin))))

-- whether a tuple is still seen whose deletion had ended for the snapshot
abbrev pub kept_after : Known → Seen
kept_after Committed = No
kept_after Aborted = Yes
kept_after Running = Yes
kept_after Untold = Unknown

-- whether an inserted tuple is still seen that this transaction deleted
abbrev pub seen_despite : (ℕ → Known) → Taken → ℕ → Seen
seen_despite fates snapshot xid = if is_inside snapshot xid then Yes else kept_after (fates xid)

-- whether an inserted tuple is still seen whose xmax is a multixact with this updater
abbrev pub seen_despite_updater : (ℕ → Known) → Taken → Option (Option ℕ) → Seen
seen_despite_updater fates snapshot None = Unknown
seen_despite_updater fates snapshot (Some None) = Yes
seen_despite_updater fates snapshot (Some (Some xid)) = seen_despite fates snapshot xid

-- xmax only locked the tuple: by its bit, or as an exclusive locker that is no multixact and has no other lock bit
abbrev pub locks_only : ℕ → Bool
locks_only infomask = has infomask LOCK_ONLY || bit_and infomask 0x1050 == EXCL_LOCK

-- whether an inserted tuple is still seen
abbrev pub kept_for : (ℕ → Known) → (ℕ → Option (Option ℕ)) → Header → Taken → Seen
kept_for fates updaters header snapshot =
    if has header.infomask XMAX_INVALID then Yes
    else (if locks_only header.infomask then Yes
    else (if has header.infomask XMAX_IS_MULTI then seen_despite_updater fates snapshot (updaters header.xmax)
    else (if has header.infomask XMAX_COMMITTED then (if is_inside snapshot header.xmax then Yes else No)
    else seen_despite fates snapshot header.xmax)))

abbrev pub kept_if : Seen → Seen → Seen
kept_if Yes kept = kept
kept_if No kept = No
kept_if Unknown kept = Unknown

-- whether the snapshot sees the tuple: it is inserted for it, and still seen
abbrev pub seen_by : (ℕ → Known) → (ℕ → Option (Option ℕ)) → Header → Taken → Seen
seen_by fates updaters header snapshot = kept_if (inserted_for fates header snapshot) (kept_for fates updaters header snapshot)
