use Rattle.sixel_check_laws.proofs.RoomLemmas.{some_has_room}
use Rattle.sixel_check_laws.proofs.laws.some_terminal_has_room.Goals as goal

pub returns : goal.returns
returns c = some_has_room
