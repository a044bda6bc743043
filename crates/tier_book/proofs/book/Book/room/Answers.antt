use Rattle.std.proofs.Common.{map, ap, ◌∙◌, subst, length, ◌<◌}
use Rattle.std.specs.List.{All}
use Rattle.tier_book.specs.Rows.{room_row, room_numbered}
use Rattle.tier_book.proofs.Changes.{found_room_at}
use Rattle.tier_book.proofs.book.Book.room.Goals as goal

pub returns-clause-tier : goal.returns-clause-tier
returns-clause-tier c = found_room_at c.find_room.result c.args.self.now.rooms c.args.room (length c.args.self.now.sizes)
    (c.find_room.ensures ∙ ap (room_numbered c.args.room) (ap (map room_row) c.deref.ensures.value ∙ ap (λ v. v.rooms) c.self.view_is))
    (subst (λ v. All (λ r. r.tier < length v.sizes) v.rooms) c.self.view_is c.self.invariant.0.rooms_at)
