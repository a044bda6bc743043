use Rattle.std.proofs.Common.{◌≡◌, map, length, drop, ap, arith}
use Rattle.std.proofs.lemmas.List.{take_at}
use Rattle.tier_book.specs.Rows.{copied_of, room_row}
use Rattle.tier_book.proofs.Changes.{rows_out}
use Rattle.tier_book.proofs.book.Book.drop_row.Goals as goal

pub invariant_of-self : goal.invariant_of-self
invariant_of-self c =
    let s = c.self.inside in
    let long : length c.free_rows.new.taken ≡ s.taken.len = omega arith in
    rw (take_at c.free_rows.new.taken (drop (length c.free_rows.new.taken) s.taken.items) s.taken.len long) (
      rows_out s.sizes.items s.taken.items c.deref_mut.result.now c.free_rows.new.taken (map room_row s.rooms.items) (map copied_of s.rows.items) (map copied_of c.deref-2.result.now) (map copied_of c.remove_rows.new.rows.items) c.args.file c.args.block
          c.self.invariant.0 c.deref_mut.ensures.value (ap (map copied_of) c.deref-2.ensures.value) c.free_rows.ensures.len c.free_rows.ensures.freed c.remove_rows.ensures.items,
      omega arith,
    )
