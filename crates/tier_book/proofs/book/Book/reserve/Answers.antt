use Rattle.std.proofs.Common.{◌≡◌, ◌+◌, ◌<◌, ◌≤◌, map, length, drop, sym, ap, ◌∙◌, subst, arith}
use Rattle.std.proofs.lemmas.List.{take_at, map_push, length_push}
use Rattle.tier_book.specs.Rows.{copied_of, room_row, free_at}
use Rattle.tier_book.proofs.Changes.{room_in}
use Rattle.tier_book.proofs.book.Book.reserve.Goals as goal

pub invariant_of-self-2 : goal.invariant_of-self-2
invariant_of-self-2 c =
    let s = c.self.inside in
    let whole : length c.take_bytes.new.taken ≡ s.taken.len = omega arith in
    let pushed = ap (map room_row) c.in_ok-push.ensures.items ∙ map_push room_row s.rooms.items (record { number = s.next; tier = c.args.tier; bytes = c.args.n }) in
    let within = subst (λ v. c.args.tier < length v.sizes) (sym c.self.view_is) c.requires.tier in
    let fits = subst (λ v. c.args.n ≤ free_at v c.args.tier) (sym c.self.view_is) c.requires.fits in
    let more : length c.push.new.self.items ≡ length s.rooms.items + 1 = ap length c.in_ok-push.ensures.items ∙ length_push s.rooms.items (record { number = s.next; tier = c.args.tier; bytes = c.args.n }) in
    let rows : length c.reserve.new.self.items ≡ length s.rows.items = ap length c.reserve.ensures.items in
    rw (take_at c.take_bytes.new.taken (drop (length c.take_bytes.new.taken) s.taken.items) s.taken.len whole) (
      room_in s.sizes.items s.taken.items c.deref_mut.result.now c.take_bytes.new.taken (map room_row s.rooms.items) (map room_row c.push.new.self.items) (map copied_of s.rows.items) (map copied_of c.reserve.new.self.items) (record { number = s.next; tier = c.args.tier; bytes = c.args.n })
          c.self.invariant.0 within fits c.deref_mut.ensures.value c.take_bytes.ensures pushed (ap (map copied_of) c.reserve.ensures.items),
      omega (arith, more, rows, c.in_ok-reserve.ensures.ok),
    )
