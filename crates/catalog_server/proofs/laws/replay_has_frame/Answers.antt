use Rattle.catalog_server.specs.Replayed.{replayed_over}
use Rattle.catalog_server.specs.ServerFrame.{names_between}
use Rattle.new_names.proofs.Runs.{goes_make_only}
use Rattle.catalog_server.proofs.laws.replay_has_frame.Goals as goal

pub returns : goal.returns
returns c root release reading text a b goes = goes_make_only (names_between root release reading (replayed_over reading text)) a b goes
