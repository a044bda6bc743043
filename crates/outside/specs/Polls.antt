-- What a poll of a reader gave, by cases.
use Rattle.std.specs.Prelude.{ℕ, ⊤, Bool, true, false}
use Rattle.outside.specs.declared.objects.Got.{Got}

-- P holds of how many bytes it gave, where it gave some
abbrev pub IfBytes : Got → (ℕ → Type 0) → Type 0
IfBytes (Got.Bytes n) P = P n
IfBytes Got.NotReady P = ⊤
IfBytes Got.Fault P = ⊤

-- it gave bytes
abbrev pub IsBytes : Got → Type 0
IsBytes (Got.Bytes n) = ⊤
IsBytes Got.NotReady = ⊥
IsBytes Got.Fault = ⊥

-- P holds where it wasn't ready
abbrev pub OnNotReady : Got → Type 0 → Type 0
OnNotReady (Got.Bytes n) P = ⊤
OnNotReady Got.NotReady P = P
OnNotReady Got.Fault P = ⊤

-- P holds where it failed
abbrev pub OnFault : Got → Type 0 → Type 0
OnFault (Got.Bytes n) P = ⊤
OnFault Got.NotReady P = ⊤
OnFault Got.Fault P = P

-- it failed
abbrev pub is_fault : Got → Bool
is_fault (Got.Bytes n) = false
is_fault Got.NotReady = false
is_fault Got.Fault = true

-- it wasn't ready
abbrev pub is_not_ready : Got → Bool
is_not_ready (Got.Bytes n) = false
is_not_ready Got.NotReady = true
is_not_ready Got.Fault = false
