-- Which calls of a fake are to fail.
use Rattle.std.specs.Prelude.{ℕ, ◌≡◌, [], Bool, false, ◌&&◌, ◌||◌, length, is_none, nat_eq, nat_le, Some, None}
use Rattle.std.specs.List.{list_any}
use Rattle.std.specs.declared.option.Option.{Option}
use Rattle.outside_mem.specs.declared.failures.Failing.{Failing}

-- a number from which on all calls fail is reached
abbrev pub is_reached : Option ℕ → ℕ → Bool
is_reached None call = false
is_reached (Some first) call = nat_le first call

-- the call of this number is listed, or is one of those that all fail
abbrev pub is_failing : Failing → ℕ → Bool
is_failing failing call = list_any (λ n. nat_eq n call) failing.calls.items || is_reached failing.from call

-- no call is to fail
abbrev pub IsQuiet : Failing → Type 0
IsQuiet failing = (failing.calls.items ≡ []) × (failing.from ≡ None)

-- no call is to fail
abbrev pub is_quiet : Failing → Bool
is_quiet failing = nat_eq (length failing.calls.items) 0 && is_none failing.from
