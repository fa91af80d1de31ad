-- Laws over the definitions of a file system.
use Rattle.std.specs.Prelude.{◌≡◌, Option}
use Rattle.fs_model.specs.declared.effect.Effect.{Effect}
use Rattle.fs_model.specs.declared.error.FsError.{FsError}
use Rattle.fs_model.specs.State.{FsState}
use Rattle.fs_model.specs.Effects.{apply}
use Rattle.fs_model.specs.Calls.{Call, MayDo}
use Rattle.fs_model.specs.Crash.{Image, Settled}
use Rattle.fs_model.specs.WellFormed.{WellFormed}
use Rattle.fs_state.specs.Images.{Picked, NamesBytes, image_of}

-- a call, whatever it answers, leaves a well-formed state well-formed
abbrev pub CallsKeepWellFormed : Type 0
CallsKeepWellFormed = (s : FsState) (call : Call) (answer : Option FsError) (effect : Effect) → WellFormed s → MayDo s call answer effect → WellFormed (apply s effect)

-- a crash of a well-formed state leaves one
abbrev pub ImagesAreWellFormed : Type 0
ImagesAreWellFormed = (s x : FsState) → WellFormed s → Image s x → WellFormed x

-- what a crash leaves is on the disk
abbrev pub ImagesAreSettled : Type 0
ImagesAreSettled = (s x : FsState) → Image s x → Settled x

-- every image of every state is one that a pick names
abbrev pub EveryImageHasAPick : Type 0
EveryImageHasAPick = (s x : FsState) → Image s x → (pick : Picked) × NamesBytes pick × (image_of s pick ≡ x)
