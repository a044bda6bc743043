-- Reading workers one after the other, as a loop does.
use Rattle.std.proofs.Common.{◌≡◌, ℕ, suc, ◌-◌, ◌+◌, ◌≤◌, ◌<◌, List, [], ◌∷◌, ◌++◌, Option, Some, None, refl, sym, ap, ◌∙◌, append_assoc, arith}
use Rattle.std.proofs.lemmas.List.{append-nil}
use Rattle.journal_entry.specs.declared.fault.Fault.{Fault}
use Rattle.journal_entry.specs.declared.fault.Fault.TheVariants as faults
use Rattle.journal_entry.specs.Reading.{◌>>=◌, Fails, above_at, workers_from}

-- what was read before, and what is still read
abbrev pub with_front : List ℕ → Option (List ℕ × List ℕ) → Option (List ℕ × List ℕ)
with_front front read = read >>= λ x. Some (front ++ x.0, x.1)

regroup : (front : List ℕ) (w : ℕ) (read : Option (List ℕ × List ℕ)) → with_front front (read >>= λ x. Some (w ∷ x.0, x.1)) ≡ with_front (front ++ w ∷ []) read
regroup front w (Some x) = ap (λ (ws : List ℕ). Some (ws, x.1)) (simp append_assoc)
regroup front w None = refl

pub goes_on : (front : List ℕ) (count i last : ℕ) (bytes : List ℕ) (w : ℕ) (after : List ℕ) (total : Option (List ℕ × List ℕ)) → i < count → above_at last bytes ≡ Some (w, after)
    → with_front front (workers_from (count - i) last bytes) ≡ total → with_front (front ++ w ∷ []) (workers_from (count - (i + 1)) w after) ≡ total
unfolding workers_from
goes_on front count i last bytes w after total lt h so_far =
    let k : count - i ≡ suc (count - (i + 1)) = omega arith in
    let one : with_front front (workers_from (count - i) last bytes) ≡ with_front (front ++ w ∷ []) (workers_from (count - (i + 1)) w after) = rw (k, h) (regroup front w (workers_from (count - (i + 1)) w after)) in
    sym one ∙ so_far

pub ends : (e : Fault) (front : List ℕ) (count i last : ℕ) (bytes : List ℕ) (total : Option (List ℕ × List ℕ)) → i < count → Fails e (above_at last bytes)
    → with_front front (workers_from (count - i) last bytes) ≡ total → Fails e total
unfolding workers_from
ends faults.Memory front count i last bytes total lt h so_far = tt
ends faults.NoEntry front count i last bytes total lt h so_far =
    let k : count - i ≡ suc (count - (i + 1)) = omega arith in
    let one : with_front front (workers_from (count - i) last bytes) ≡ None = rw (k, h) refl in
    sym so_far ∙ one

pub is_done : (front : List ℕ) (count i last : ℕ) (bytes : List ℕ) (total : Option (List ℕ × List ℕ)) → count ≤ i → with_front front (workers_from (count - i) last bytes) ≡ total → total ≡ Some (front, bytes)
unfolding workers_from
is_done front count i last bytes total le so_far =
    let k : count - i ≡ 0 = omega arith in
    let one : with_front front (workers_from (count - i) last bytes) ≡ Some (front, bytes) = rw k (ap (λ (ws : List ℕ). Some (ws, bytes)) (append-nil front)) in
    sym so_far ∙ one
