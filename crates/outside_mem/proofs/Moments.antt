-- The moments of a disk are those after each of its calls.
use Rattle.std.proofs.Common.{◌≡◌, ℕ, zero, suc, ◌<◌, ◌≤◌, ◌+◌, ◌-◌, List, [], ◌∷◌, true, false, inl, inr, length, take, refl, ◌∙◌, ap, arith}
use Rattle.std.specs.Prelude.{Some, None, nat_le}
use Rattle.std.specs.List.{slice_get, slice_range}
use Rattle.std.proofs.lemmas.Bool.{le-leb}
use Rattle.std.proofs.lemmas.Bool.Decides.{leb_tells}
use Rattle.outside.specs.History.{History, beginning, moments}
use Rattle.outside_mem.specs.DiskHistory.{after_all, after_one, all_len, behind}
use Rattle.outside_mem.specs.Moments.{moment_after, moment_after_all, moment_at}
use Rattle.outside_mem.specs.declared.disk_log.DiskCall.{DiskCall}

-- one call adds one moment
pub now_one : (bytes : List ℕ) (call : DiskCall) (h : History) → (after_one bytes call h).now ≡ moment_after bytes call h.now
now_one bytes (DiskCall.Write at len) h = refl
now_one bytes DiskCall.Sync h = refl

past_one : (bytes : List ℕ) (call : DiskCall) (h : History) → (after_one bytes call h).past ≡ moments h
past_one bytes (DiskCall.Write at len) h = refl
past_one bytes DiskCall.Sync h = refl

pub past_len : (bytes : List ℕ) (calls : List DiskCall) (h : History) → length (after_all bytes calls h).past ≡ length calls + length h.past
past_len bytes [] h = omega arith
past_len bytes (call ∷ calls) h = omega (arith, past_len (behind bytes call) calls (after_one bytes call h), ap (λ ms. length ms) (past_one bytes call h))

-- the moments before the calls are behind those of the calls
before_all : (bytes : List ℕ) (calls : List DiskCall) (h : History) (k : ℕ) → slice_get (moments (after_all bytes calls h)) (length calls + k) ≡ slice_get (moments h) k
before_all bytes [] h k = ap (slice_get (moments h)) (omega arith)
before_all bytes (call ∷ calls) h k =
    ap (slice_get (moments (after_all (behind bytes call) calls (after_one bytes call h)))) (omega arith)
    ∙ before_all (behind bytes call) calls (after_one bytes call h) (suc k)
    ∙ ap (λ ms. slice_get ms k) (past_one bytes call h)

moment_from : (bytes : List ℕ) (calls : List DiskCall) (h : History) (number : ℕ) → number ≤ length calls → slice_get (moments (after_all bytes calls h)) (length calls - number) ≡ Some (moment_after_all bytes (take number calls) h.now)
moment_from bytes calls h zero within = ap (slice_get (moments (after_all bytes calls h))) (omega arith) ∙ before_all bytes calls h 0
moment_from bytes [] h (suc number) within = absurd (omega (arith, within))
moment_from bytes (call ∷ calls) h (suc number) within =
    ap (slice_get (moments (after_all (behind bytes call) calls (after_one bytes call h)))) (omega arith)
    ∙ moment_from (behind bytes call) calls (after_one bytes call h) number (omega (arith, within))
    ∙ ap (λ m. Some (moment_after_all (behind bytes call) (take number calls) m)) (now_one bytes call h)

pub moment_is : (bytes first : List ℕ) (calls : List DiskCall) (number : ℕ) → number ≤ length calls → moment_at (after_all bytes calls (beginning first)) number ≡ Some (moment_after_all bytes (take number calls) (beginning first).now)
moment_is bytes first calls number within =
    let past : length (after_all bytes calls (beginning first)).past ≡ length calls = omega (arith, past_len bytes calls (beginning first)) in
    let there : nat_le number (length calls) ≡ true = le-leb number (length calls) within in
    rw (past, there) (moment_from bytes calls (beginning first) number within)

pub no_moment : (bytes first : List ℕ) (calls : List DiskCall) (number : ℕ) → length calls < number → moment_at (after_all bytes calls (beginning first)) number ≡ None
no_moment bytes first calls number above =
    let past : length (after_all bytes calls (beginning first)).past ≡ length calls = omega (arith, past_len bytes calls (beginning first)) in
    let none : nat_le number (length calls) ≡ false = elim (leb_tells number (length calls)) [ inl is ↦ absurd (omega (arith, is.1, above)) | inr is ↦ is.0 ] in
    rw (past, none) refl

take_len : (calls : List DiskCall) (number : ℕ) → all_len (take number calls) ≤ all_len calls
take_len calls zero = omega arith
take_len [] (suc number) = omega arith
take_len (call ∷ calls) (suc number) = omega (arith, take_len calls number)

pub take_fits : (calls : List DiskCall) (bytes : List ℕ) (number : ℕ) → all_len calls ≡ length bytes → all_len (take number calls) ≤ length bytes
take_fits calls bytes number sum = omega (arith, sum, take_len calls number)

-- the range of a list up to a place is its front
pub front_is : {X : Type 0} (xs ys front : List X) (n : ℕ) → ys ≡ xs → front ≡ slice_range ys 0 n → front ≡ take n xs
front_is xs ys front n same is = is ∙ ap (λ zs. slice_range zs 0 n) same ∙ ap (λ k. take k xs) (omega arith)
