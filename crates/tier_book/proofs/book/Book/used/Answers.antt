use Rattle.std.proofs.Common.{◌≡◌, map, length, drop, sym, ap, ◌∙◌, subst, arith}
use Rattle.std.proofs.lemmas.List.{take_at}
use Rattle.fs_model.specs.Updates.{used}
use Rattle.tier_book.specs.Rows.{copied_of, room_row}
use Rattle.tier_book.specs.Kept.{IsKept}
use Rattle.tier_book.proofs.Changes.{used_kept}
use Rattle.tier_book.proofs.book.Book.used.Goals as goal

pub invariant_of-self : goal.invariant_of-self
invariant_of-self c =
    let s = c.self.inside in
    let long : length c.move_last.new.rows ≡ s.rows.len = omega arith in
    let is : used c.args.number (map copied_of s.rows.items) ≡ map copied_of c.move_last.new.rows = ap (λ l. used c.args.number (map copied_of l)) (sym c.deref_mut.ensures.value) ∙ sym c.move_last.ensures in
    rw (take_at c.move_last.new.rows (drop (length c.move_last.new.rows) s.rows.items) s.rows.len long)
    (subst (IsKept s.sizes.items s.taken.items (map room_row s.rooms.items)) is (used_kept _ _ _ _ c.args.number c.self.invariant.0), omega arith)
