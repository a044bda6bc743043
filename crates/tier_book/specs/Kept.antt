-- What is true of every book.
use Rattle.std.specs.Prelude.{◌≡◌, ℕ, ◌+◌, ◌≤◌, ◌<◌, ◌^◌, List, length, get_or}
use Rattle.std.specs.List.{All}
use Rattle.fs_model.specs.State.{Copied, RoomRow}
use Rattle.tier_book.specs.Rows.{room_sum, row_sum}

-- what is taken of each tier is what is reserved there and the bytes of the rows there, and no more than the tier has; every reservation and row is at a tier of the worker
pub record IsKept (sizes taken : List ℕ) (rooms : List RoomRow) (rows : List Copied) : Type 0 where
  pub few : length sizes < 2 ^ 32
  pub long : length taken ≡ length sizes
  pub sums : (t : ℕ) → t < length sizes → get_or taken t 0 ≡ room_sum t rooms + row_sum t rows
  pub fits : (t : ℕ) → t < length sizes → get_or taken t 0 ≤ get_or sizes t 0
  pub rooms_at : All (λ r. r.tier < length sizes) rooms
  pub rows_at : All (λ c. c.tier < length sizes) rows
