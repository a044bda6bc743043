use Rattle.std.proofs.Common.{◌≡◌, map, drop}
use Rattle.tier_book.specs.Rows.{room_row, room_numbered}
use Rattle.tier_book.proofs.room.find_room.Given as goal

-- the reservation is among those to come
abbrev pub invariant-loop-room : goal.invariant-loop-room
invariant-loop-room l = room_numbered l.number (map room_row (drop l.room-index l.rooms)) ≡ room_numbered l.number (map room_row l.rooms)
