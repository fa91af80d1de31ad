-- The calls that a record tells: a write is recorded with the bytes that it wrote, and its effect is that of the state before it.
use Rattle.std.specs.Prelude.{List, [], ◌∷◌}
use Rattle.fs_model.specs.State.{FsState}
use Rattle.fs_model.specs.Effects.{apply}
use Rattle.fs_state.specs.Actions.{effect_in}
use Rattle.fs_mem.specs.declared.history.Recorded.{Recorded}
use Rattle.fs_mem.specs.History.{Done}

-- a call as it was done in a state
abbrev pub done_in : FsState → Recorded → Done
done_in s r = record { effect = effect_in s r.action; answer = r.answer }

-- the calls that are told from a state on, the first of them first
abbrev pub told_from : FsState → List Recorded → List Done
told_from s [] = []
told_from s (r ∷ recorded) = done_in s r ∷ told_from (apply s (effect_in s r.action)) recorded
