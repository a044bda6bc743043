use Rattle.std.proofs.Common.{◌≡◌, map, length, drop, ap, ◌∙◌, arith}
use Rattle.std.proofs.lemmas.List.{take_at}
use Rattle.tier_book.specs.Rows.{copied_of, room_row, room_numbered, rooms_without}
use Rattle.tier_book.proofs.Changes.{rooms_out, room_gone, some_there}
use Rattle.tier_book.proofs.book.Book.cancel.Goals as goal

pub invariant_of-self : goal.invariant_of-self
invariant_of-self c =
    let s = c.self.inside in
    let long : length c.free_rooms.new.taken ≡ s.taken.len = omega arith in
    rw (take_at c.free_rooms.new.taken (drop (length c.free_rooms.new.taken) s.taken.items) s.taken.len long) (
      rooms_out s.sizes.items s.taken.items c.deref_mut.result.now c.free_rooms.new.taken (map room_row s.rooms.items) (map room_row c.deref.result.now) (map room_row c.remove_rooms.new.rooms.items) (map copied_of s.rows.items) c.args.room
          c.self.invariant.0 c.deref_mut.ensures.value (ap (map room_row) c.deref.ensures.value) c.free_rooms.ensures.len c.free_rooms.ensures.freed c.remove_rooms.ensures.items,
      omega arith,
    )

pub returns-clause-fewer : goal.returns-clause-fewer
returns-clause-fewer c =
    let found = some_there (room_numbered c.args.room c.args.self.now.rooms) c.requires in
    room_gone c.args.self.now.rooms _ c.args.room found.0 (c.remove_rooms.ensures.items ∙ ap (rooms_without c.args.room) (ap (λ v. v.rooms) c.self.view_is)) found.1
