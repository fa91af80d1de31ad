-- What a call would do in a state.
use Rattle.std.specs.Prelude.{◌≡◌, ◌⊎◌, ◌<◌, ◌-◌, ◌^◌, ℕ, true, Option, Some, None, Result, Ok, Err}
use Rattle.std.specs.FinMap as map
use Rattle.fs_model.specs.declared.effect.Effect.{Effect}
use Rattle.fs_model.specs.declared.effect.Effect.TheVariants.{NewFile, Bytes}
use Rattle.fs_model.specs.declared.error.FsError.{FsError}
use Rattle.fs_model.specs.declared.error.FsError.TheVariants.{OutOfMemory}
use Rattle.fs_model.specs.State.{Contents, FsState}
use Rattle.fs_model.specs.Calls.{Call, refusal, Does, AreBytes}

-- the number is one above the greatest of an inode, or 1 where there is none
pub record IsNextInode (contents : Contents) (inode : ℕ) : Type 0 where
  pub above : (other : ℕ) → map.contains_key contents other ≡ true → other < inode
  pub least : (inode ≡ 1) ⊎ (map.contains_key contents (inode - 1) ≡ true)
  pub fits : inode < 2 ^ 64

-- the inode that the effect makes has the next number
abbrev pub IsNumbered : Contents → Effect → Type 0
IsNumbered contents (NewFile path inode) = IsNextInode contents inode
IsNumbered contents effect = Unit {0}

-- the bytes that the effect gives an inode are bytes
abbrev pub HasBytes : Effect → Type 0
HasBytes (Bytes inode bytes) = AreBytes bytes
HasBytes effect = Unit {0}

-- the effect that the call has, or why it is refused; for want of memory it may give up
abbrev pub Wants : FsState → Call → Result Effect FsError → Type 0
Wants s call (Ok effect) = (refusal s call ≡ None) × Does s call effect × IsNumbered s.bytes effect × HasBytes effect
Wants s call (Err OutOfMemory) = Unit {0}
Wants s call (Err error) = refusal s call ≡ Some error

-- a test that passes where there is no refusal, and else gives it; for want of memory it may give up
abbrev pub Tests : {T : Type 0} → Option FsError → Result T FsError → Type 0
Tests refused (Ok value) = refused ≡ None
Tests refused (Err OutOfMemory) = Unit {0}
Tests refused (Err error) = refused ≡ Some error
