use Rattle.std.proofs.Common.{◌≡◌, ℕ, drop}
use Rattle.outside_mem.specs.Calls.{is_listed_for}
use Rattle.outside_mem.proofs.calls.listed_for.Given as goal

abbrev pub invariant-loop-one : goal.invariant-loop-one
invariant-loop-one l = (call : ℕ) → is_listed_for (drop l.one-index l.told) l.number call ≡ is_listed_for l.told l.number call
