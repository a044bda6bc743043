-- What sources give and sinks take, where they tell it. One that doesn't tell before a call doesn't tell after it, and the other way round.
use Rattle.std.specs.Prelude.{ℕ, ◌≡◌, ◌≤◌, ◌<◌, List, [], length, take, Result, OnErr, IfOk, IfSome, option_map}
use Rattle.std.specs.Io.KnownBytes.{append_known, prepend_known, IsAtEnd}
use Rattle.std.specs.declared.option.Option.{Option}

-- a sink took these bytes, after what it had taken before
abbrev pub Takes : Option (List ℕ) → Option (List ℕ) → List ℕ → Type 0
Takes old new bytes = new ≡ append_known old bytes

-- a source gave these bytes: what was left is these and then what is left now
abbrev pub Gives : Option (List ℕ) → Option (List ℕ) → List ℕ → Type 0
Gives old new bytes = old ≡ prepend_known bytes new

-- a source gave all that was left, and is at its end
pub record GivesAll (old new : Option (List ℕ)) (bytes : List ℕ) : Type 0 where
  pub all : IfSome old (λ text. bytes ≡ text)
  pub ended : new ≡ option_map (λ text. []) old

-- a pull gave the next bytes, at the front of the buffer; none for a buffer that isn't empty is the end; a failed one gave nothing
pub record Pulls {E : Type 0} (old new : Option (List ℕ)) (buf : List ℕ) (result : Result ℕ E) : Type 0 where
  pub few : IfOk result (λ n. n ≤ length buf)
  pub given : IfOk result (λ n. Gives old new (take n buf))
  pub ended : IfOk result (λ n. n ≡ 0 → 0 < length buf → IsAtEnd new)
  pub kept : OnErr result (new ≡ old)

-- a push took the first bytes of a piece, at least one of them; a failed one took a prefix, perhaps nothing
pub record Pushes {E : Type 0} (old new : Option (List ℕ)) (piece : List ℕ) (result : Result ℕ E) : Type 0 where
  pub some : IfOk result (λ n. (0 < n) × (n ≤ length piece))
  pub taken : IfOk result (λ n. Takes old new (take n piece))
  pub partly : OnErr result ((n : ℕ) × Takes old new (take n piece))
