use Rattle.std.proofs.Common.{◌≡◌, drop}
use Rattle.fs_model.specs.Calls.{blocked, blocked_from}
use Rattle.fs_state.proofs.refusing.test_way.Given as goal

-- the rest of the way decides
abbrev pub invariant-loop-name : goal.invariant-loop-name
invariant-loop-name l = blocked l.names l.at ≡ blocked_from l.names l.done (drop l.name-index l.name-items)
