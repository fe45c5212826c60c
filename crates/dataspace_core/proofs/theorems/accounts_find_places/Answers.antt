-- By the laws of rooms.
use Rattle.dataspace_core.proofs.RoomLaws.{room_at_first, room_for_one_more, room_stays, room_is_taken, room_under_head, room_is_raised, room_is_shifted, room_is_given_back, room_after_exit}
use Rattle.dataspace_core.proofs.theorems.accounts_find_places.Goals as goal

pub returns-clause-first : goal.returns-clause-first
returns-clause-first c = room_at_first

pub returns-clause-more : goal.returns-clause-more
returns-clause-more c = room_for_one_more

pub returns-clause-stays : goal.returns-clause-stays
returns-clause-stays c = room_stays

pub returns-clause-taken : goal.returns-clause-taken
returns-clause-taken c = room_is_taken

pub returns-clause-under_head : goal.returns-clause-under_head
returns-clause-under_head c = room_under_head

pub returns-clause-raised : goal.returns-clause-raised
returns-clause-raised c = room_is_raised

pub returns-clause-shifted : goal.returns-clause-shifted
returns-clause-shifted c = room_is_shifted

pub returns-clause-given_back : goal.returns-clause-given_back
returns-clause-given_back c = room_is_given_back

pub returns-clause-after_exit : goal.returns-clause-after_exit
returns-clause-after_exit c = room_after_exit
