use Rattle.std.proofs.Common.{sym, ◌∙◌}
use Rattle.tier_book.proofs.Tiers.{room_tier, room_taken, room_yes, room_no}
use Rattle.tier_book.proofs.room.free_rooms.Goals as goal
use Rattle.tier_book.proofs.room.free_rooms.Goals.{then-has, else-has}

pub give_bytes-requires-clause-tier : goal.give_bytes-requires-clause-tier
give_bytes-requires-clause-tier c = room_tier c.args.number c.args.taken.now c.loop-room.taken c.args.rooms.now c.loop-room.room-index c.room-item.result c.loop-room-test.true c.room-item.is c.loop-room.invariant c.requires.tiers c.requires.taken

pub give_bytes-requires-clause-taken : goal.give_bytes-requires-clause-taken
give_bytes-requires-clause-taken c =
    room_taken c.args.number c.args.taken.now c.loop-room.taken c.args.rooms.now c.loop-room.room-index c.room-item.result c.loop-room-test.true c.room-item.is c.loop-room.invariant c.requires.tiers c.requires.taken
    (sym c.has.ensures ∙ c.if-has.true)

pub loop-room-preserved : goal.loop-room-preserved
loop-room-preserved c = elim c.if-has.branch [
  | then-has w ↦
      room_yes c.args.number c.args.taken.now c.loop-room.taken c.args.rooms.now c.loop-room.room-index c.room-item.result c.loop-room-test.true c.room-item.is c.loop-room.invariant c.requires.tiers c.requires.taken
      c.if-has.taken (w.taken-is ∙ w.give_bytes.ensures) (sym c.has.ensures ∙ w.if-has.true)
  | else-has w ↦
      room_no c.args.number c.args.taken.now c.loop-room.taken c.args.rooms.now c.loop-room.room-index c.room-item.result c.loop-room-test.true c.room-item.is c.loop-room.invariant c.requires.tiers c.requires.taken
      c.if-has.taken w.taken-is (sym c.has.ensures ∙ w.if-has.false)
]
