use Rattle.catalog_server.proofs.Rooms.{needed_gives_room, valid_has_default}
use Rattle.catalog_server.proofs.laws.needed_directories_give_room.Goals as goal

pub returns : goal.returns
returns c root release before after s valid needed free = needed_gives_room root release before after s (valid_has_default before valid) needed free
