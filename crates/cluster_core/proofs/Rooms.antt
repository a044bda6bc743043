-- Reservations that are not there.
use Rattle.std.proofs.Common.{◌≡◌, ℕ, Bool, true, false, not, cond, List, [], ◌∷◌, nat_eq, refl, sym, ap, is_some, option_map}
use Rattle.std.specs.Prelude.{Option, None, Some}
use Rattle.fs_model.specs.State.{RoomRow}
use Rattle.tier_book.specs.Rows.{room_numbered, room_row, rooms_without}
use Rattle.tier_book.specs.declared.room.Room.{Room}

one_absent : (r : RoomRow) (b : Bool) (found : Option RoomRow) (rest kept : List RoomRow) → (found ≡ None → kept ≡ rest) → cond b (Some r) found ≡ None → cond (not b) (r ∷ kept) kept ≡ r ∷ rest
one_absent r true found rest kept ih h = cc
one_absent r false found rest kept ih h = ap (λ rs. r ∷ rs) (ih h)

-- without a reservation that isn't there, all stay
pub absent_room : (n : ℕ) (rooms : List RoomRow) → room_numbered n rooms ≡ None → rooms_without n rooms ≡ rooms
absent_room n [] h = refl
absent_room n (r ∷ rooms) h = one_absent r (nat_eq r.number n) (room_numbered n rooms) rooms (rooms_without n rooms) (absent_room n rooms) h

-- what was not found isn't there
pub none_there : (found : Option Room) (there : Option RoomRow) → option_map room_row found ≡ there → is_some found ≡ false → there ≡ None
none_there None there same h = sym same
none_there (Some r) there same h = cc
