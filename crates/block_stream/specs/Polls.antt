-- What a poll of a block's stream gave, by cases.
use Rattle.std.specs.Prelude.{ℕ, ⊤}
use Rattle.block_stream.specs.declared.Polled.{Polled}

-- P holds of how many bytes it gave, where it gave some
abbrev pub IfPiece : Polled → (ℕ → Type 0) → Type 0
IfPiece (Polled.Piece n) P = P n
IfPiece Polled.NotReady P = ⊤
IfPiece Polled.End P = ⊤
IfPiece Polled.Fault P = ⊤

-- P holds where it wasn't ready
abbrev pub OnNotReady : Polled → Type 0 → Type 0
OnNotReady (Polled.Piece n) P = ⊤
OnNotReady Polled.NotReady P = P
OnNotReady Polled.End P = ⊤
OnNotReady Polled.Fault P = ⊤

-- P holds where it was at its end
abbrev pub OnEnd : Polled → Type 0 → Type 0
OnEnd (Polled.Piece n) P = ⊤
OnEnd Polled.NotReady P = ⊤
OnEnd Polled.End P = P
OnEnd Polled.Fault P = ⊤

-- P holds where it failed
abbrev pub OnFault : Polled → Type 0 → Type 0
OnFault (Polled.Piece n) P = ⊤
OnFault Polled.NotReady P = ⊤
OnFault Polled.End P = ⊤
OnFault Polled.Fault P = P
