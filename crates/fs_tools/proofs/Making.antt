-- A file that is created and then written.
use Rattle.std.proofs.Common.{◌≡◌, ◌≢◌, MatchOption, ◌++◌, ◌+◌, ◌∙◌, ℕ, List, [], ◌∷◌, length, Option, Some, None, Result, Ok, Err, OnOk, refl, sym, ap, arith, inl, length-append}
use Rattle.std.proofs.Math.Seq.{drop-nil}
use Rattle.std.specs.Option.{unwrap_or}
use Rattle.std.specs.FinMap.{get}
use Rattle.fs_model.specs.declared.node.Node.TheVariants.{File}
use Rattle.fs_model.specs.declared.effect.Effect.{Effect}
use Rattle.fs_model.specs.declared.effect.Effect.TheVariants.{NewFile, Nothing}
use Rattle.fs_model.specs.declared.error.FsError.{FsError}
use Rattle.fs_model.specs.declared.error.FsError.TheVariants.{NotFound, Exists, NotDir, WrongKind, NotEmpty, CrossDevice, CrossDir, Failed, OutOfMemory}
use Rattle.fs_model.specs.Names.{Path}
use Rattle.fs_model.specs.State.{FsState, Names}
use Rattle.fs_model.specs.Effects.{apply, with_bytes, set_name, bytes_of}
use Rattle.fs_model.specs.Calls.{Call, Creates, WritesAt, MayDo, MayFail, refusal, blocked, or_else, no_file, taken, overwritten}
use Rattle.fs_model.specs.Trail.{Trail, Steps, Goes, on, Unchanged, DecidedBy, error_of}
use Rattle.fs_model.proofs.Lookups.{set_name_here, insert_here}
use Rattle.fs_model.proofs.Runs.{present_after, steps_since, steps_decided}
use Rattle.fs_model.proofs.Going.{goes_one}
use Rattle.fs_model.proofs.Ways.{blocked_set, none_first}
use Rattle.crash_safety.specs.Frame.{IsMadeSince}
use Rattle.crash_safety.specs.Calling.{MakesWithin}
use Rattle.fs_tools.specs.Made.{Makes, MakesFile}

pub append-nil : (path : Path) → path ++ [] ≡ path
append-nil [] = refl
append-nil (name ∷ path) = ap (λ rest. name ∷ rest) (append-nil path)

-- a name is no part of its own way
pub own_way : (names : Names) (path : Path) (node : _) → blocked (set_name names path node) path ≡ blocked names path
own_way names path node = blocked_set names path node path (λ front back whole filled same. filled (
    let lengths = ap length whole in let same_length = ap length same in omega (arith, length-append front back)))

-- what was just created may be written
pub created_writable : (s : FsState) (path : Path) (inode from : ℕ) (bytes : List ℕ) → refusal s (Creates path) ≡ None → refusal (apply s (NewFile path inode)) (WritesAt path from bytes) ≡ None
created_writable s path inode from bytes free =
    (λ i. or_else (own_way s.names path (Some (File inode)) i) (no_file (set_name_here s.names path (Some (File inode)) i)))
    ∙ ap (λ way. or_else way None) (none_first (blocked s.names path) (taken (get s.names path)) free)

pub append-nil-bytes : (xs : List ℕ) → xs ++ [] ≡ xs
append-nil-bytes [] = refl
append-nil-bytes (x ∷ xs) = ap (λ rest. x ∷ rest) (append-nil-bytes xs)

overwritten_empty : (bytes : List ℕ) → overwritten [] 0 bytes ≡ bytes
overwritten_empty bytes = ap (λ rest. bytes ++ rest) (drop-nil (0 + length bytes)) ∙ append-nil-bytes bytes

-- the two states that creating goes through
module _ (path : Path) (bytes : List ℕ) (old mid : Trail) (created : Steps (Creates path) None old mid) where
  pub after_create : (inode : ℕ) × (get old.present.bytes inode ≡ None) × (mid.present ≡ apply old.present (NewFile path inode)) × (refusal old.present (Creates path) ≡ None)
  after_create =
      let (effect, free, (inode, none, is), present) = present_after (Creates path) old mid created in
      (inode, none, present ∙ ap (apply old.present) is, free)

  pub made_here : IsMadeSince old.present mid.present path
  made_here inode named =
      let made = after_create in
      let here : get mid.present.names path ≡ Some (File made.0) = ap (λ s. get s.names path) made.2 ∙ set_name_here old.present.names path (Some (File made.0)) in
      let same : inode ≡ made.0 = (let e = sym named ∙ here in cc) in
      ap (get old.present.bytes) same ∙ made.1

  pub never_refused : (from : ℕ) → refusal mid.present (WritesAt path from bytes) ≡ None
  never_refused from = ap (λ s. refusal s (WritesAt path from bytes)) after_create.2 ∙ created_writable old.present path after_create.0 from bytes after_create.3

  pub write_decided : {T : Type 0} (result : Result T FsError) (new : Trail) → Steps (WritesAt path 0 bytes) (error_of result) mid new → DecidedBy (refusal old.present (Creates path)) result
  write_decided result new steps = decided result (steps_decided (WritesAt path 0 bytes) result mid new steps)
    where
      decided : {T : Type 0} (result : Result T FsError) → DecidedBy (refusal mid.present (WritesAt path 0 bytes)) result → DecidedBy (refusal old.present (Creates path)) result
      decided (Ok value) by = after_create.3
      decided (Err Failed) by = tt
      decided (Err OutOfMemory) by = tt
      decided (Err NotFound) by = absurd (let e = never_refused 0 in cc (e, by))
      decided (Err Exists) by = absurd (let e = never_refused 0 in cc (e, by))
      decided (Err NotDir) by = absurd (let e = never_refused 0 in cc (e, by))
      decided (Err WrongKind) by = absurd (let e = never_refused 0 in cc (e, by))
      decided (Err NotEmpty) by = absurd (let e = never_refused 0 in cc (e, by))
      decided (Err CrossDevice) by = absurd (let e = never_refused 0 in cc (e, by))
      decided (Err CrossDir) by = absurd (let e = never_refused 0 in cc (e, by))

  -- both calls
  pub both_made : (answer : Option FsError) (new : Trail) → Steps (WritesAt path 0 bytes) answer mid new → Goes (Makes path old.present) old new
  both_made answer new steps =
      on (goes_one (Makes path old.present) (Creates path) None old mid refl created) (WritesAt path 0 bytes) answer (refl, made_here) steps

  pub made_whole : (new : Trail) → Steps (WritesAt path 0 bytes) None mid new → MakesFile old.present path bytes new.present
  made_whole new steps =
      let made = after_create in
      let (effect, free, (inode, named, is), present) = present_after (WritesAt path 0 bytes) mid new steps in
      let here : get mid.present.names path ≡ Some (File made.0) = ap (λ s. get s.names path) made.2 ∙ set_name_here old.present.names path (Some (File made.0)) in
      let same : inode ≡ made.0 = (let e = sym named ∙ here in cc) in
      let there : get mid.present.bytes made.0 ≡ Some [] = ap (λ s. get s.bytes made.0) made.2 ∙ insert_here old.present.bytes made.0 [] in
      let empty : bytes_of mid.present.bytes inode ≡ [] = ap (bytes_of mid.present.bytes) same ∙ ap (λ found. unwrap_or found []) there in (
        made.0,
        made.1,
        present ∙ ap (apply mid.present) is ∙ (λ i. with_bytes mid.present inode (overwritten (empty i) 0 bytes)) ∙ (λ i. with_bytes (made.2 i) (same i) (overwritten_empty bytes i)),
      )

-- the same, by the answer
module _ (path : Path) (bytes : List ℕ) (old mid : Trail) where
  pub ok_made : {T : Type 0} (result : Result T FsError) (new : Trail) → Steps (Creates path) None old mid → Steps (WritesAt path 0 bytes) (error_of result) mid new → OnOk result (MakesFile old.present path bytes new.present)
  ok_made (Ok value) new created steps = made_whole path bytes old mid created new steps
  ok_made (Err error) new created steps = tt

-- a call that its state refuses changes nothing, whatever it answers
pub refused_nothing : (s : FsState) (call : Call) (answer : Option FsError) (effect : Effect) → refusal s call ≢ None → MayDo s call answer effect → apply s effect ≡ s
refused_nothing s call None effect refused may = absurd (refused may.0)
refused_nothing s call (Some Failed) effect refused may = failed (refusal s call) refused may
  where
    failed : (found : Option FsError) → found ≢ None → MatchOption found (MayFail s call effect) (λ _. effect ≡ Nothing) → apply s effect ≡ s
    failed None refused may = absurd (refused refl)
    failed (Some error) refused may = ap (apply s) may
refused_nothing s call (Some error) effect refused may = ap (apply s) may.1

pub refused_unchanged : (call : Call) (answer : Option FsError) (old new : Trail) → refusal old.present call ≢ None → Steps call answer old new → Unchanged old new
refused_unchanged call answer old new refused steps =
    steps_since (λ s. s ≡ old.present) call answer old new refl (λ effect may. refused_nothing old.present call answer effect refused may) steps

-- it is a run within the path
pub makes_within : (at : Path) (a s : FsState) (call : Call) → Makes at a s call → MakesWithin (at ∷ []) a s call
makes_within at a s (Creates path) is = (inl ([], is ∙ sym (append-nil at)), tt)
makes_within at a s (WritesAt path from bytes) (is, made) = (made, tt)
makes_within at a s call none = absurd none
