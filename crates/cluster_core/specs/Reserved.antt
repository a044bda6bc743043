-- What a hand reserves.
use Rattle.std.specs.Prelude.{ℕ, Option, None, option_map}
use Rattle.cluster_core.specs.declared.hand.Hand.{Hand}

-- the worker, the number of its starts, and the reservation there, if the hand has one
abbrev pub room_in : {R W : Type 0} → Hand R W → Option (ℕ × ℕ × ℕ)
room_in (Hand.Reading x) = None
room_in (Hand.Writing x) = option_map (λ n. (x.worker, x.started, n)) x.room
