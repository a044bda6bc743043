use Rattle.std.proofs.Common.{◌≡◌, map, length, drop, sym, ap, ◌∙◌, subst, arith}
use Rattle.std.proofs.lemmas.List.{take_at}
use Rattle.tier_book.specs.Rows.{copied_of, room_row, flagged}
use Rattle.tier_book.specs.Kept.{IsKept}
use Rattle.tier_book.proofs.Changes.{flagged_kept}
use Rattle.tier_book.proofs.book.Book.flag.Goals as goal

pub invariant_of-self : goal.invariant_of-self
invariant_of-self c =
    let s = c.self.inside in
    let long : length c.set_flags.new.rows ≡ s.rows.len = omega arith in
    let is : flagged c.args.file c.args.block c.args.flags (map copied_of s.rows.items) ≡ map copied_of c.set_flags.new.rows =
    ap (λ l. flagged c.args.file c.args.block c.args.flags (map copied_of l)) (sym c.deref_mut.ensures.value) ∙ sym c.set_flags.ensures in
    rw (take_at c.set_flags.new.rows (drop (length c.set_flags.new.rows) s.rows.items) s.rows.len long)
    (subst (IsKept s.sizes.items s.taken.items (map room_row s.rooms.items)) is (flagged_kept c.args.file c.args.block c.args.flags _ _ _ _ c.self.invariant.0), omega arith)
