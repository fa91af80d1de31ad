use Rattle.catalog_server.proofs.Unused.{room_when_unused}
use Rattle.catalog_server.proofs.laws.unused_clusters_have_room.Goals as goal

pub returns : goal.returns
returns c root release old s formed valid unused ready = room_when_unused root release old s formed valid unused ready
