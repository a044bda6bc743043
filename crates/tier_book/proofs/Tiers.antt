-- The bytes of reservations and rows at the tiers, as `Freed` counts them.
use Rattle.std.proofs.Common.{◌≡◌, ℕ, ◌+◌, ◌-◌, ◌<◌, ◌≤◌, Bool, true, false, cond, ◌&&◌, nat_eq, List, map, take, length, get_or, set, refl, ap}
use Rattle.std.specs.List.{All}
use Rattle.tier_book.specs.declared.room.Room.{Room}
use Rattle.tier_book.specs.declared.row.BlockRow.{BlockRow}
use Rattle.fs_model.specs.State.{Copied, RoomRow}
use Rattle.tier_book.specs.Rows.{room_row, copied_of, room_sum, row_sum, is_block}
use Rattle.tier_book.proofs.Freed.{Frees, step_tier, step_taken, step_yes, step_no}

-- the bytes of a reservation at a tier
abbrev pub room_at : ℕ → RoomRow → ℕ
room_at t r = cond (nat_eq r.tier t) r.bytes 0

-- the bytes of a row at a tier
abbrev pub row_at : ℕ → Copied → ℕ
row_at t c = cond (nat_eq c.tier t && true) c.len 0

pub room_at_is : (t : ℕ) (r : RoomRow) → room_at t r ≡ cond (nat_eq r.tier t) r.bytes 0
room_at_is t r = refl

and_true : (b : Bool) → (b && true) ≡ b
and_true true = refl
and_true false = refl

pub row_at_is : (t : ℕ) (c : Copied) → row_at t c ≡ cond (nat_eq c.tier t) c.len 0
row_at_is t c = ap (λ b. cond b c.len 0) (and_true (nat_eq c.tier t))

-- the bytes of the reservations with this number are taken off
abbrev pub FreesRooms : ℕ → List ℕ → List ℕ → List RoomRow → Type 0
FreesRooms n = Frees (λ (r : RoomRow). r.tier) (λ r. r.bytes) room_at room_at_is (λ r. nat_eq r.number n)

-- the bytes of the rows of this block are taken off
abbrev pub FreesRows : ℕ → ℕ → List ℕ → List ℕ → List Copied → Type 0
FreesRows f i = Frees (λ (c : Copied). c.tier) (λ c. c.len) row_at row_at_is (is_block f i)

-- a step of the loop over the reservations
module _ (n : ℕ) (old now : List ℕ) (rooms : List Room) (i : ℕ) (room : Room) (lt : i < length rooms) (read : room ≡ get_or rooms i room) (so : FreesRooms n old now (take i (map room_row rooms)))
    (tiers : All (λ r. r.tier < length old) (map room_row rooms)) (taken : (t : ℕ) → t < length old → room_sum t (map room_row rooms) ≤ get_or old t 0) where
  pub room_tier : room.tier < length now
  room_tier = step_tier (λ (r : RoomRow). r.tier) (λ r. r.bytes) room_at room_at_is (λ r. nat_eq r.number n) room_row old now rooms i room lt read so tiers taken

  pub room_taken : nat_eq room.number n ≡ true → room.bytes ≤ get_or now room.tier 0
  room_taken = step_taken (λ (r : RoomRow). r.tier) (λ r. r.bytes) room_at room_at_is (λ r. nat_eq r.number n) room_row old now rooms i room lt read so tiers taken

  pub room_yes : (next : List ℕ) → next ≡ set now room.tier (get_or now room.tier 0 - room.bytes) → nat_eq room.number n ≡ true → FreesRooms n old next (take (i + 1) (map room_row rooms))
  room_yes = step_yes (λ (r : RoomRow). r.tier) (λ r. r.bytes) room_at room_at_is (λ r. nat_eq r.number n) room_row old now rooms i room lt read so tiers taken

  pub room_no : (next : List ℕ) → next ≡ now → nat_eq room.number n ≡ false → FreesRooms n old next (take (i + 1) (map room_row rooms))
  room_no = step_no (λ (r : RoomRow). r.tier) (λ r. r.bytes) room_at room_at_is (λ r. nat_eq r.number n) room_row old now rooms i room lt read so tiers taken

-- a step of the loop over the rows
module _ (f b : ℕ) (old now : List ℕ) (rows : List BlockRow) (i : ℕ) (row : BlockRow) (lt : i < length rows) (read : row ≡ get_or rows i row) (so : FreesRows f b old now (take i (map copied_of rows)))
    (tiers : All (λ c. c.tier < length old) (map copied_of rows)) (taken : (t : ℕ) → t < length old → row_sum t (map copied_of rows) ≤ get_or old t 0) where
  pub row_tier : row.tier < length now
  row_tier = step_tier (λ (c : Copied). c.tier) (λ c. c.len) row_at row_at_is (is_block f b) copied_of old now rows i row lt read so tiers taken

  pub row_taken : is_block f b (copied_of row) ≡ true → row.len ≤ get_or now row.tier 0
  row_taken = step_taken (λ (c : Copied). c.tier) (λ c. c.len) row_at row_at_is (is_block f b) copied_of old now rows i row lt read so tiers taken

  pub row_yes : (next : List ℕ) → next ≡ set now row.tier (get_or now row.tier 0 - row.len) → is_block f b (copied_of row) ≡ true → FreesRows f b old next (take (i + 1) (map copied_of rows))
  row_yes = step_yes (λ (c : Copied). c.tier) (λ c. c.len) row_at row_at_is (is_block f b) copied_of old now rows i row lt read so tiers taken

  pub row_no : (next : List ℕ) → next ≡ now → is_block f b (copied_of row) ≡ false → FreesRows f b old next (take (i + 1) (map copied_of rows))
  row_no = step_no (λ (c : Copied). c.tier) (λ c. c.len) row_at row_at_is (is_block f b) copied_of old now rows i row lt read so tiers taken
