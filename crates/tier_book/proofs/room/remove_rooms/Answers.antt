use Rattle.std.proofs.Common.{map, not, nat_eq, ap, ◌∙◌, rules}
use Rattle.std.proofs.lemmas.Fn.{filter_same}
use Rattle.tier_book.specs.Rows.{room_row}
use Rattle.tier_book.proofs.Changes.{filter-map}
use Rattle.tier_book.proofs.room.remove_rooms.Goals as goal

pub returns-clause-items : goal.returns-clause-items
returns-clause-items c =
    ap (map room_row) (filter_same _ (λ r. not (nat_eq r.number c.args.number)) _ (λ x b f' k. search rules) _ _ c.retain.ensures.filtered)
    ∙ filter-map room_row (λ r. not (nat_eq r.number c.args.number)) c.args.rooms.now.items
