-- A fuse: a number of calls that pass; each further one fails with nothing done.
use Rattle.std.specs.Prelude.{◌≡◌, ◌⊎◌, ℕ, ◌-◌, ◌<◌, ◌≤◌, Option, Some, None, Result, OnOk, OnErr}
use Rattle.outside.specs.Causes.{Rose}

-- a disk, the calls that still pass where a fuse is set, and how often the fuse has stopped one
pub record Fusing (D : Type 0) : Type 0 where
  pub disk : D
  pub fuse : Option ℕ
  pub blown : ℕ

-- a fuse is set, and fewer calls pass than these
abbrev pub IsBelow : Option ℕ → ℕ → Type 0
IsBelow None calls = ⊥
IsBelow (Some left) calls = left < calls

-- the fuse after so many calls that passed
abbrev pub burnt : ℕ → Option ℕ → Option ℕ
burnt calls None = None
burnt calls (Some left) = Some (left - calls)

-- no fuse was set or cleared, and it has not grown
abbrev pub IsNoLonger : Option ℕ → Option ℕ → Type 0
IsNoLonger None None = Unit {0}
IsNoLonger None (Some left) = ⊥
IsNoLonger (Some left) None = ⊥
IsNoLonger (Some old) (Some new) = new ≤ old

-- P holds where the fuse lets no call pass
abbrev pub OnSpent : Option ℕ → Type 0 → Type 0
OnSpent fuse P = fuse ≡ Some 0 → P

-- Of a run of so many calls, `own` being the disk's own count: it has failed only where the fuse was smaller or that count rose, and has passed only where the fuse was enough and lost just these.
pub record Burns {T E : Type 0} (calls : ℕ) (before now : Option ℕ) (own own' : ℕ) (result : Result T E) : Type 0 where
  pub later : own ≤ own'
  pub shorter : IsNoLonger before now
  pub failed : OnErr result (IsBelow before calls ⊎ Rose own own')
  pub passed : OnOk result (now ≡ burnt calls before)
  pub enough : OnOk result (IsBelow before calls → ⊥)
