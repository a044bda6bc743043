-- Counts of pieces and calls.
use Rattle.std.proofs.Common.{◌≡◌, ◌⊎◌, inl, inr, ℕ, ◌+◌, ◌-◌, ◌*◌, ◌≤◌, ◌<◌, Option, Some, None, Ok, refl, ◌∙◌, ap, arith}
use Rattle.outside.specs.Fuse.{Burns, IsBelow, IsNoLonger, burnt}
use Rattle.journal_disk.specs.Journaling.{pieces_of}

-- ---- calls that a fuse lets pass
burnt_more : (count : ℕ) (f : Option ℕ) → burnt 1 (burnt count f) ≡ burnt (count + 1) f
burnt_more count None = refl
burnt_more count (Some k) = ap (λ (n : ℕ). Some n) (omega arith)

no_longer : (f g h : Option ℕ) → IsNoLonger f g → IsNoLonger g h → IsNoLonger f h
no_longer None None h fg gh = gh
no_longer None (Some g) h fg gh = absurd fg
no_longer (Some f) None h fg gh = absurd fg
no_longer (Some f) (Some g) None fg gh = absurd gh
no_longer (Some f) (Some g) (Some h) fg gh = omega (arith, fg, gh)

-- where it lets one more pass, it was enough for that
enough_more : (count : ℕ) (f : Option ℕ) → (IsBelow f count → ⊥) → (IsBelow (burnt count f) 1 → ⊥) → IsBelow f (count + 1) → ⊥
enough_more count None was next below = below
enough_more count (Some k) was next below = next (omega (arith, below))

-- so many calls have passed
abbrev pub HavePassed : ℕ → Option ℕ → Option ℕ → ℕ → ℕ → Type 0
HavePassed calls before now own own' = Burns {T = Unit {0}} {E = Unit {0}} calls before now own own' (Ok tt)

pub one_call_more : {T E : Type 0} (v : T) (count : ℕ) (f g h : Option ℕ) (a b c : ℕ) → HavePassed count f g a b → Burns {E = E} 1 g h b c (Ok v) → HavePassed (count + 1) f h a c
one_call_more v count f g h a b c so_far next = record {
  later = omega (arith, so_far.later, next.later);
  shorter = no_longer f g h so_far.shorter next.shorter;
  failed = tt;
  passed = next.passed ∙ ap (burnt 1) so_far.passed ∙ burnt_more count f;
  enough = enough_more count f so_far.enough (λ below. next.enough (rw so_far.passed below));
}

-- ---- pieces
-- so many pieces end at this place: they are all whole, or the last one is there
abbrev pub AreCounted : ℕ → ℕ → ℕ → Type 0
AreCounted at count len = (at ≡ 65536 * count) ⊎ ((at ≡ len) × (count ≡ pieces_of len))

last_piece : (count len : ℕ) → 65536 * count < len → len ≤ 65536 * count + 65535 → count + 1 ≡ pieces_of len
last_piece count len low high = omega arith

pub counted_short : (at count len n : ℕ) → AreCounted at count len → at < len → n ≡ len - at → len - at < 65536 → AreCounted (at + n) (count + 1) len
counted_short at count len n (inl is) lt n_is short = inr (omega (arith, lt, n_is), last_piece count len (omega (arith, is, lt)) (omega (arith, is, short)))
counted_short at count len n (inr ended) lt n_is short = absurd (omega (arith, ended.0, lt))

pub counted_long : (at count len n : ℕ) → AreCounted at count len → at < len → n ≡ 65536 → AreCounted (at + n) (count + 1) len
counted_long at count len n (inl is) lt n_is = inl (omega (arith, is, n_is))
counted_long at count len n (inr ended) lt n_is = absurd (omega (arith, ended.0, lt))
