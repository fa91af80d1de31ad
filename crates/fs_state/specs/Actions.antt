-- What an action does.
use Rattle.std.specs.Prelude.{Result, Ok, Err}
use Rattle.fs_model.specs.declared.effect.Effect.{Effect}
use Rattle.fs_model.specs.declared.effect.Effect.TheVariants.{Bytes}
use Rattle.fs_model.specs.declared.error.FsError.{FsError}
use Rattle.fs_model.specs.State.{FsState}
use Rattle.fs_model.specs.Effects.{bytes_of}
use Rattle.fs_model.specs.Calls.{overwritten}
use Rattle.fs_state.specs.declared.action.Action.{Action}
use Rattle.fs_state.specs.declared.action.Action.TheVariants.{Effect as Has, Write}

-- the effect that an action has in a state: after a write the file has all of its bytes, with those written over them
abbrev pub effect_in : FsState → Action → Effect
effect_in s (Has effect) = effect
effect_in s (Write inode from bytes) = Bytes inode (overwritten (bytes_of s.bytes inode) from bytes)

-- the effect that is wanted with an action, or why there is none
abbrev pub effect_wanted : FsState → Result Action FsError → Result Effect FsError
effect_wanted s (Ok action) = Ok (effect_in s action)
effect_wanted s (Err error) = Err error
