-- What becomes of the writes of a disk in memory.
use Rattle.std.proofs.Common.{◌≡◌, ℕ, Bool, true, false, List, length, inl, inr, refl, ap, subst}
use Rattle.std.specs.Prelude.{Err, Ok, OnErr, Result, if◌then◌else◌, replicate}
use Rattle.std.proofs.lemmas.List.{length-replicate}
use Rattle.outside.specs.History.{History, IsTorn, MayWrite, after_write, overwritten, written}
use Rattle.outside_mem.specs.DiskLaws.{torn}

-- a write of other bytes, as many as those of the piece, is one that failed
torn_write : (at : ℕ) (piece other : List ℕ) (h : History) → length other ≡ length piece → MayWrite at piece h (written at other h)
torn_write at piece other h len = inr (overwritten at other h.now.held, subst (λ n. IsTorn at n h.now.held (overwritten at other h.now.held)) len (torn at other h.now.held), ap (λ n. after_write at n (overwritten at other h.now.held) h) len)

pub may_write : (at : ℕ) (piece : List ℕ) (byte : ℕ) (h : History) (fails happens : Bool) → MayWrite at piece h (if happens then written at (if fails then replicate (length piece) byte else piece) h else h)
may_write at piece byte h fails false = inl refl
may_write at piece byte h false true = torn_write at piece piece h refl
may_write at piece byte h true true = torn_write at piece (replicate (length piece) byte) h (length-replicate (length piece) byte)

-- what holds in any case holds of a call that failed
pub whatever : {T E : Type 0} (result : Result T E) (P : Type 0) → P → OnErr result P
whatever (Ok x) P p = tt
whatever (Err x) P p = p
