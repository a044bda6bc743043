-- Numbers that the fakes answer and count.
use Rattle.std.specs.Prelude.{ℕ, Bool, min, max, if◌then◌else◌}
use Rattle.outside.specs.Causes.{next_count}

-- a count, one higher where something happened
abbrev pub counted : ℕ → Bool → ℕ
counted count happened = if happened then next_count count else count

-- how many bytes one call moves: as many as there are and as there is room for, up to the greatest piece, of which 0 stands for 1
abbrev pub piece_len : ℕ → ℕ → ℕ → ℕ
piece_len present room greatest = min (min present room) (max greatest 1)
