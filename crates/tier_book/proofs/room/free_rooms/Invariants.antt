use Rattle.std.proofs.Common.{map, take}
use Rattle.tier_book.specs.Rows.{room_row}
use Rattle.tier_book.proofs.Tiers.{FreesRooms}
use Rattle.tier_book.proofs.room.free_rooms.Given as goal

-- the bytes of the reservations so far are taken off
abbrev pub invariant-loop-room : goal.invariant-loop-room
invariant-loop-room l = FreesRooms l.number l.fn.taken l.taken (take l.room-index (map room_row l.rooms))
