-- What a book keeps, in the words of the file machine.
use Rattle.std.specs.Prelude.{ℕ, ◌+◌, ◌-◌, ◌^◌, min, Bool, true, cond, not, ◌&&◌, List, length, get_or, filter, nat_eq, nat_le, Option, sum_by, find}
use Rattle.std.specs.List.{range_with_len}
use Rattle.fs_model.specs.Words.{update_where}
use Rattle.fs_model.specs.State.{Copied, RoomRow}
use Rattle.tier_book.specs.declared.room.Room.{Room}
use Rattle.tier_book.specs.declared.row.BlockRow.{BlockRow}
use Rattle.tier_book.specs.declared.row.Flags.{Flags}

-- a book: the bytes of each tier, what is reserved, the rows in the order of use, the least recent first, and the number of the next reservation
pub record BookView : Type 0 where
  pub sizes : List ℕ
  pub rooms : List RoomRow
  pub rows : List Copied
  pub next : ℕ

-- the machine's copy of a row
abbrev pub copied_of : BlockRow → Copied
copied_of r = record { number = r.number; tier = r.tier; file = r.file; block = r.block; len = r.len; keep = r.keep; pin = r.pin; free = r.free }

-- the machine's room of a reservation
abbrev pub room_row : Room → RoomRow
room_row r = record { number = r.number; tier = r.tier; bytes = r.bytes }

-- ---- bytes

-- the bytes that are reserved at a tier
abbrev pub room_sum : ℕ → List RoomRow → ℕ
room_sum t rooms = sum_by (λ (r : RoomRow). cond (nat_eq r.tier t) r.bytes 0) rooms

-- the bytes of the rows at a tier
abbrev pub row_sum : ℕ → List Copied → ℕ
row_sum t rows = sum_by (λ (c : Copied). cond (nat_eq c.tier t && true) c.len 0) rows

-- the bytes of a tier that are neither reserved nor a row's
abbrev pub free_at : BookView → ℕ → ℕ
free_at B t = get_or B.sizes t 0 - room_sum t B.rooms - row_sum t B.rows

-- the first tier at which so many bytes are free
abbrev pub fitting : BookView → ℕ → Option ℕ
fitting B n = find (λ t. nat_le n (free_at B t)) (range_with_len 0 (length B.sizes))

-- ---- reservations

-- a number one higher; it stays at its last value
abbrev pub next_number : ℕ → ℕ
next_number n = min (n + 1) (2 ^ 64 - 1)

-- the reservation with this number
abbrev pub room_numbered : ℕ → List RoomRow → Option RoomRow
room_numbered n rooms = find (λ r. nat_eq r.number n) rooms

-- the reservations with this number
abbrev pub rooms_with : ℕ → List RoomRow → List RoomRow
rooms_with n rooms = filter (λ r. nat_eq r.number n) rooms

-- the reservations without this number
abbrev pub rooms_without : ℕ → List RoomRow → List RoomRow
rooms_without n rooms = filter (λ r. not (nat_eq r.number n)) rooms

-- ---- rows

-- the row is of this block
abbrev pub is_block : ℕ → ℕ → Copied → Bool
is_block f i c = nat_eq c.file f && nat_eq c.block i

-- the row of a block
abbrev pub row_of : ℕ → ℕ → List Copied → Option Copied
row_of f i rows = find (is_block f i) rows

-- the row with this object number
abbrev pub row_numbered : ℕ → List Copied → Option Copied
row_numbered n rows = find (λ c. nat_eq c.number n) rows

-- the rows of this block
abbrev pub rows_with : ℕ → ℕ → List Copied → List Copied
rows_with f i rows = filter (is_block f i) rows

-- the rows of other blocks
abbrev pub rows_without : ℕ → ℕ → List Copied → List Copied
rows_without f i rows = filter (λ c. not (is_block f i c)) rows

-- the row with these flags
abbrev pub with_flags : Flags → Copied → Copied
with_flags F c = record c { keep = F.keep; pin = F.pin; free = F.free }

-- the rows, where that of the block has these flags
abbrev pub flagged : ℕ → ℕ → Flags → List Copied → List Copied
flagged f i F rows = update_where (is_block f i) (with_flags F) rows
