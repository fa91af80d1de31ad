use Rattle.fs_model.specs.Trail.{stays}
use Rattle.failing_server.proofs.server.FailingServerServer.replay.Goals as goal

pub returns-then-fails-clause-calls : goal.returns-then-fails-clause-calls
returns-then-fails-clause-calls g c told = stays

pub returns-in_err-keep-clause-calls : goal.returns-in_err-keep-clause-calls
returns-in_err-keep-clause-calls g c told = stays
