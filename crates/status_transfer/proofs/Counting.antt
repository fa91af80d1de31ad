-- The write of a control record.
use Rattle.std.proofs.Common.{◌≡◌, ◌≤◌, ◌<◌, ◌+◌, ◌-◌, ◌++◌, ◌∙◌, ℕ, List, length, take, drop, replicate, get_or, Option, Some, None, Result, Ok, Err, OnOk, MatchOption, inl, inr, refl, sym, ap, subst, arith, length-append, length-drop}
use Rattle.std.proofs.lemmas.List.{get_or-append-add, get_or-drop, get_or-take, get_or_append_left, length-take, take_at}
use Rattle.std.proofs.lemmas.Bool.{cases_lt}
use Rattle.std.specs.Prelude.{is_some}
use Rattle.std.specs.Option.{option_map}
use Rattle.std.specs.FinMap.{get}
use Rattle.fs_model.specs.declared.node.Node.{Node}
use Rattle.fs_model.specs.declared.node.Node.TheVariants.{Dir, File, Sym}
use Rattle.fs_model.specs.declared.effect.Effect.{Effect}
use Rattle.fs_model.specs.declared.effect.Effect.TheVariants.{Nothing}
use Rattle.fs_model.specs.declared.error.FsError.{FsError}
use Rattle.fs_model.specs.declared.error.FsError.TheVariants.{Failed}
use Rattle.fs_model.specs.Names.{Path}
use Rattle.fs_model.specs.State.{FsState}
use Rattle.fs_model.specs.Effects.{apply, bytes_of, with_bytes}
use Rattle.fs_model.specs.Calls.{WritesAt, MayDo, MayFail, refusal, or_else, no_file, overwritten}
use Rattle.fs_model.specs.Reading.{inode_of_node}
use Rattle.fs_model.specs.WellFormed.{WellFormed}
use Rattle.fs_model.specs.Trail.{Trail, Steps, Since, error_of}
use Rattle.fs_model.proofs.Lookups.{insert_other}
use Rattle.fs_model.proofs.Runs.{present_after, steps_since}
use Rattle.control_file.specs.declared.records.Counters.{Counters}
use Rattle.control_file.specs.declared.records.Control.{Control}
use Rattle.control_file.specs.ControlRecord.{IsKept, control_of, newest_commit_ts_xid, oldest_commit_ts_xid, right_crc}
use Rattle.control_file.proofs.RecordBytes.{number_at-same}
use Rattle.control_file.proofs.RecordFields.{control_of-take, right_crc-take, counters_of-same}
use Rattle.status_transfer.specs.Counted.{CarriesCounters, SetsCounters, IsHeadOf, KeepsAllBut}

-- ---- the bytes of the file

-- a record that is written over the beginning of a file
pub head_over : (before head : List ℕ) → overwritten before 0 head ≡ head ++ drop (length head) before
head_over before head =
    ap (λ n. (replicate n 0 ++ head) ++ drop (0 + length head) before) (none (length before)) ∙ ap (λ n. head ++ drop n before) (plain (length head))
  where
    none : (n : ℕ) → 0 - n ≡ 0
    none n = omega arith

    plain : (n : ℕ) → 0 + n ≡ n
    plain n = omega arith

module _ (before head : List ℕ) (given : Counters) (long : length head ≡ 296) (carries : CarriesCounters (take 296 before) given head) where
  whole : 296 ≤ length before
  whole = (let size = carries.size in let short = length-take 296 before in omega (arith, size, short, long))

  abbrev pub after : List ℕ
  after = head ++ drop 296 before

  head_of_after : take 296 after ≡ head
  head_of_after = take_at head (drop 296 before) 296 long

  control_is : control_of after ≡ control_of head
  control_is = sym (control_of-take after) ∙ ap control_of head_of_after

  same : (k : ℕ) → k < 296 → get_or after k 0 ≡ get_or head k 0
  same k below = (let within : k < length head = omega (arith, below, long) in get_or_append_left head (drop 296 before) 0 k within)

  oldest : oldest_commit_ts_xid after ≡ oldest_commit_ts_xid head
  unfolding oldest_commit_ts_xid
  oldest = number_at-same 112 4 after head (λ k low high. same k (omega arith))

  newest : newest_commit_ts_xid after ≡ newest_commit_ts_xid head
  unfolding newest_commit_ts_xid
  newest = number_at-same 116 4 after head (λ k low high. same k (omega arith))

  kept_after : (i : ℕ) → IsKept i → get_or after i 0 ≡ get_or before i 0
  kept_after i kept =
      elim (cases_lt i 296) as (λ _. get_or after i 0 ≡ get_or before i 0) [
        | inl below ↦ same i below ∙ carries.kept i kept ∙ get_or-take 296 before i 0 below
        | inr above ↦ (
            let there : i ≡ length head + (i - 296) = omega (arith, above, long) in
            let back : 296 + (i - 296) ≡ i = omega (arith, above) in
            ap (λ k. get_or after k 0) there ∙ get_or-append-add head (drop 296 before) (i - 296) 0 ∙ get_or-drop 296 before (i - 296) 0 ∙ ap (λ k. get_or before k 0) back)
      ]

  pub carried_after : CarriesCounters before given after
  carried_after = record {
    counters = counters_of-same after head (λ k low high. same k (omega arith)) ∙ carries.counters;
    oldest_commit_ts = oldest ∙ carries.oldest_commit_ts;
    newest_commit_ts = newest ∙ carries.newest_commit_ts;
    crc = ap (λ (c : Control). c.crc) control_is ∙ carries.crc ∙ sym (ap right_crc head_of_after) ∙ right_crc-take after;
    size = length-append head (drop 296 before) ∙ (let rest = length-drop 296 before in let enough = whole in omega (arith, rest, enough, long));
    kept = kept_after;
  }

-- ---- the state

file_there : (node : Option Node) (f : ℕ → List ℕ) (bytes : List ℕ) → option_map f (inode_of_node node) ≡ Some bytes → (inode : ℕ) × (node ≡ Some (File inode)) × (bytes ≡ f inode)
file_there None f bytes e = absurd (cc e)
file_there (Some Dir) f bytes e = absurd (cc e)
file_there (Some (File inode)) f bytes e = (inode, refl, cc e)
file_there (Some (Sym target)) f bytes e = absurd (cc e)

pub head_writable : (s : FsState) (at : Path) (head : List ℕ) (from : ℕ) (bytes : List ℕ) → WellFormed s → IsHeadOf s at head → refusal s (WritesAt at from bytes) ≡ None
head_writable s at head from bytes well (found, is, front) =
    let (inode, named, same) = file_there (get s.names at) (bytes_of s.bytes) found is in
    (λ i. or_else (well.tree at (ap is_some named) i) (no_file (named i)))

counters_set : (at : Path) (given : Counters) (old_head head : List ℕ) (old new : Trail) → length head ≡ 296 → CarriesCounters old_head given head → IsHeadOf old.present at old_head
    → Steps (WritesAt at 0 head) None old new → SetsCounters old.present at given new.present
counters_set at given old_head head old new long carries (found, is, front) steps =
    let s = old.present in
    let (effect, free, (inode, named, effect_is), present) = present_after (WritesAt at 0 head) old new steps in
    let (other, other_named, same) = file_there (get s.names at) (bytes_of s.bytes) found is in
    let one : other ≡ inode = (let e = sym other_named ∙ named in cc) in
    let before : found ≡ bytes_of s.bytes inode = same ∙ ap (bytes_of s.bytes) one in
    record {
      inode = inode;
      named = named;
      after = head ++ drop 296 (bytes_of s.bytes inode);
      carries = carried_after (bytes_of s.bytes inode) head given long (subst (λ b. CarriesCounters b given head) (sym front ∙ ap (take 296) before) carries);
      whole = present ∙ ap (apply s) effect_is ∙ ap (with_bytes s inode) (head_over (bytes_of s.bytes inode) head ∙ ap (λ n. head ++ drop n (bytes_of s.bytes inode)) long);
    }

-- ---- what else stays

kept_itself : (at : Path) (a : FsState) → KeepsAllBut at a a
kept_itself at a = record { names = refl; names_kept = refl; pending = refl; devices = refl; bytes_kept = refl; bytes = λ inode apart. refl; dirty = λ inode apart. refl }

kept_written : (at : Path) (a : FsState) (inode : ℕ) (any : List ℕ) → get a.names at ≡ Some (File inode) → KeepsAllBut at a (with_bytes a inode any)
kept_written at a inode any named = record {
  names = refl;
  names_kept = refl;
  pending = refl;
  devices = refl;
  bytes_kept = refl;
  bytes = λ other apart. insert_other a.bytes inode any other (λ same. apart (named ∙ ap (λ n. Some (File n)) (sym same)));
  dirty = λ other apart. insert_other a.dirty inode tt other (λ same. apart (named ∙ ap (λ n. Some (File n)) (sym same)));
}

kept_over : (at : Path) (bytes : List ℕ) (a : FsState) (answer : Option FsError) (effect : Effect) → MayDo a (WritesAt at 0 bytes) answer effect → KeepsAllBut at a (apply a effect)
kept_over at bytes a None effect (free, (inode, named, is)) = subst (λ e. KeepsAllBut at a (apply a e)) (sym is) (kept_written at a inode (overwritten (bytes_of a.bytes inode) 0 bytes) named)
kept_over at bytes a (Some Failed) effect may = failed (refusal a (WritesAt at 0 bytes)) may
  where
    failed : (refused : Option FsError) → MatchOption refused (MayFail a (WritesAt at 0 bytes) effect) (λ _. effect ≡ Nothing) → KeepsAllBut at a (apply a effect)
    failed None (inode, any, named, are_bytes, is) = subst (λ e. KeepsAllBut at a (apply a e)) (sym is) (kept_written at a inode any named)
    failed (Some error) is = subst (λ e. KeepsAllBut at a (apply a e)) (sym is) (kept_itself at a)
kept_over at bytes a (Some error) effect may = subst (λ e. KeepsAllBut at a (apply a e)) (sym may.1) (kept_itself at a)

pub kept_since : (at : Path) (bytes : List ℕ) (answer : Option FsError) (old new : Trail) → Steps (WritesAt at 0 bytes) answer old new → Since (KeepsAllBut at old.present) old new
kept_since at bytes answer old new steps =
    steps_since (KeepsAllBut at old.present) (WritesAt at 0 bytes) answer old new (kept_itself at old.present) (λ effect may. kept_over at bytes old.present answer effect may) steps

-- the same, by the answer
pub ok_counted : {T : Type 0} (at : Path) (given : Counters) (old_head head : List ℕ) (old new : Trail) (result : Result T FsError) → length head ≡ 296 → CarriesCounters old_head given head → IsHeadOf old.present at old_head
    → Steps (WritesAt at 0 head) (error_of result) old new → OnOk result (SetsCounters old.present at given new.present)
ok_counted at given old_head head old new (Ok value) long carries is_head steps = counters_set at given old_head head old new long carries is_head steps
ok_counted at given old_head head old new (Err error) long carries is_head steps = tt
