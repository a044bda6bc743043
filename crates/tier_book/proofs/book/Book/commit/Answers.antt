use Rattle.std.proofs.Common.{◌≡◌, ◌<◌, ◌++◌, map, length, take, drop, get_or, sym, ap, ◌∙◌, subst, arith}
use Rattle.std.proofs.lemmas.List.{take_at, map_push, length-map, length_push}
use Rattle.tier_book.specs.Rows.{copied_of, room_row, room_numbered, rooms_without}
use Rattle.tier_book.proofs.Changes.{rooms_out, commit_rests, row_in, room_gone, there}
use Rattle.tier_book.proofs.book.Book.commit.Goals as goal

pub take_bytes-requires-clause-tier : goal.take_bytes-requires-clause-tier
take_bytes-requires-clause-tier c =
    let s = c.self.inside in
    let may = commit_rests s.sizes.items s.taken.items c.deref_mut.result.now c.free_rooms.new.taken (map room_row s.rooms.items) (map room_row c.deref.result.now) c.args.self.now.rooms (map copied_of s.rows.items) c.args.room (copied_of c.args.row)
    c.self.invariant.0 c.deref_mut.ensures.value (ap (map room_row) c.deref.ensures.value) (ap (λ v. v.rooms) c.self.view_is) c.free_rooms.ensures.freed c.requires.tier c.requires.len in
    subst (λ l. c.args.row.tier < length l) (sym c.deref-2.ensures.value) may.within

pub take_bytes-requires-clause-fits : goal.take_bytes-requires-clause-fits
take_bytes-requires-clause-fits c =
    let s = c.self.inside in
    let may = commit_rests s.sizes.items s.taken.items c.deref_mut.result.now c.free_rooms.new.taken (map room_row s.rooms.items) (map room_row c.deref.result.now) c.args.self.now.rooms (map copied_of s.rows.items) c.args.room (copied_of c.args.row)
    c.self.invariant.0 c.deref_mut.ensures.value (ap (map room_row) c.deref.ensures.value) (ap (λ v. v.rooms) c.self.view_is) c.free_rooms.ensures.freed c.requires.tier c.requires.len in
    let long : length c.free_rooms.new.taken ≡ s.taken.len = omega arith in
    let freed : take s.taken.len (c.free_rooms.new.taken ++ drop (length c.free_rooms.new.taken) s.taken.items) ≡ c.free_rooms.new.taken = take_at c.free_rooms.new.taken (drop (length c.free_rooms.new.taken) s.taken.items) s.taken.len long in
    let held = ap (λ l. get_or l c.args.row.tier 0) (c.deref_mut-2.ensures.value ∙ freed) in
    let size = ap (λ l. get_or l c.args.row.tier 0) c.deref-2.ensures.value in
    omega (arith, may.fits, held, size)

pub invariant_of-self : goal.invariant_of-self
invariant_of-self c =
    let s = c.self.inside in
    let may = commit_rests s.sizes.items s.taken.items c.deref_mut.result.now c.free_rooms.new.taken (map room_row s.rooms.items) (map room_row c.deref.result.now) c.args.self.now.rooms (map copied_of s.rows.items) c.args.room (copied_of c.args.row)
    c.self.invariant.0 c.deref_mut.ensures.value (ap (map room_row) c.deref.ensures.value) (ap (λ v. v.rooms) c.self.view_is) c.free_rooms.ensures.freed c.requires.tier c.requires.len in
    let long : length c.free_rooms.new.taken ≡ s.taken.len = omega arith in
    let freed : take s.taken.len (c.free_rooms.new.taken ++ drop (length c.free_rooms.new.taken) s.taken.items) ≡ c.free_rooms.new.taken = take_at c.free_rooms.new.taken (drop (length c.free_rooms.new.taken) s.taken.items) s.taken.len long in
    let kept = rooms_out s.sizes.items s.taken.items c.deref_mut.result.now c.free_rooms.new.taken (map room_row s.rooms.items) (map room_row c.deref.result.now) (map room_row c.remove_rooms.new.rooms.items) (map copied_of s.rows.items) c.args.room
    c.self.invariant.0 c.deref_mut.ensures.value (ap (map room_row) c.deref.ensures.value) c.free_rooms.ensures.len c.free_rooms.ensures.freed c.remove_rooms.ensures.items in
    let added = ap (map copied_of) c.append_row.ensures.items ∙ map_push copied_of s.rows.items c.args.row in
    let whole : length c.take_bytes.new.taken ≡ s.taken.len = omega arith in
    let one = length-map c.remove_rooms.new.rooms.items room_row in
    let two = length-map s.rooms.items room_row in
    let three = ap length c.remove_rooms.ensures.items in
    let four = ap length c.append_row.ensures.items ∙ length_push s.rows.items c.args.row in
    let five = may.fewer in
    rw (take_at c.take_bytes.new.taken (drop (length c.take_bytes.new.taken) (take s.taken.len (c.free_rooms.new.taken ++ drop (length c.free_rooms.new.taken) s.taken.items))) s.taken.len whole) (
      row_in s.sizes.items c.free_rooms.new.taken c.deref_mut-2.result.now c.take_bytes.new.taken (map room_row c.remove_rooms.new.rooms.items) (map copied_of s.rows.items) (map copied_of c.append_row.new.rows.items) c.args.room (map room_row s.rooms.items) (copied_of c.args.row)
          kept may (c.deref_mut-2.ensures.value ∙ freed) c.take_bytes.ensures added,
      omega arith,
    )

pub returns-clause-fewer : goal.returns-clause-fewer
returns-clause-fewer c =
    let found = there (room_numbered c.args.room c.args.self.now.rooms) _ c.requires.len in
    room_gone c.args.self.now.rooms _ c.args.room found.0 (c.remove_rooms.ensures.items ∙ ap (rooms_without c.args.room) (ap (λ v. v.rooms) c.self.view_is)) found.1
