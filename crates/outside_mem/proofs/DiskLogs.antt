-- One call more is kept.
use Rattle.std.proofs.Common.{◌≡◌, ℕ, zero, suc, ◌<◌, ◌≤◌, ◌+◌, ◌-◌, ◌*◌, List, [], ◌∷◌, ◌++◌, length, take, drop, refl, sym, ◌∙◌, ap, subst, arith}
use Rattle.std.proofs.lemmas.List.{drop-append-le, length-append, length-drop, take-append-le, take_all}
use Rattle.std.proofs.Math.Nat.{suc-mul}
use Rattle.std.proofs.Math.Seq.{drop-append_seam}
use Rattle.outside.specs.History.{History, after_sync, beginning, overwritten, written}
use Rattle.outside_mem.specs.DiskHistory.{after_all, after_one, all_len, behind, call_len, first_of, history_by}
use Rattle.outside_mem.specs.declared.disk_log.DiskCall.{DiskCall}

-- ---- one call

-- bytes behind its own don't matter to a call
one_more : (bytes piece : List ℕ) (call : DiskCall) (h : History) → call_len call ≤ length bytes → after_one (bytes ++ piece) call h ≡ after_one bytes call h
one_more bytes piece (DiskCall.Write at len) h fits = ap (λ own. written at own h) (take-append-le len bytes piece fits)
one_more bytes piece DiskCall.Sync h fits = refl

behind_more : (bytes piece : List ℕ) (call : DiskCall) → call_len call ≤ length bytes → behind (bytes ++ piece) call ≡ behind bytes call ++ piece
behind_more bytes piece (DiskCall.Write at len) fits = drop-append-le len bytes piece fits
behind_more bytes piece DiskCall.Sync fits = refl

behind_len : (bytes : List ℕ) (call : DiskCall) (n : ℕ) → call_len call + n ≡ length bytes → n ≡ length (behind bytes call)
behind_len bytes (DiskCall.Write at len) n sum = omega (arith, sum, length-drop len bytes)
behind_len bytes DiskCall.Sync n sum = omega (arith, sum)

-- ---- calls, and one behind them

last_after : (bytes piece : List ℕ) (calls : List DiskCall) (call : DiskCall) (h : History) → all_len calls ≡ length bytes → after_all (bytes ++ piece) (calls ++ call ∷ []) h ≡ after_one piece call (after_all bytes calls h)
last_after [] piece [] call h sum = refl
last_after (b ∷ bytes) piece [] call h sum = cc
last_after bytes piece (c ∷ calls) call h sum =
    let fits : call_len c ≤ length bytes = omega (arith, sum) in
    ap (λ rest. after_all rest (calls ++ call ∷ []) (after_one (bytes ++ piece) c h)) (behind_more bytes piece c fits)
    ∙ ap (after_all (behind bytes c ++ piece) (calls ++ call ∷ [])) (one_more bytes piece c h fits)
    ∙ last_after (behind bytes c) piece calls call (after_one bytes c h) (behind_len bytes c (all_len calls) sum)

pub last_len : (calls : List DiskCall) (call : DiskCall) → all_len (calls ++ call ∷ []) ≡ all_len calls + call_len call
last_len [] call = omega arith
last_len (c ∷ calls) call = omega (arith, last_len calls call)

-- what was held at first is no other, once it counts
first_kept : (held now first : List ℕ) (calls : List DiskCall) (call : DiskCall) → (calls ≡ [] → first ≡ held) → first_of now first (calls ++ call ∷ []) ≡ first_of held first calls
first_kept held now first [] call copied = copied refl
first_kept held now first (c ∷ calls) call copied = refl

one_kept : (held now first bytes piece : List ℕ) (calls : List DiskCall) (call : DiskCall) → all_len calls ≡ length bytes → (calls ≡ [] → first ≡ held) → history_by now first (bytes ++ piece) (calls ++ call ∷ []) ≡ after_one piece call (history_by held first bytes calls)
one_kept held now first bytes piece calls call sum copied =
    ap (λ at_first. after_all (bytes ++ piece) (calls ++ call ∷ []) (beginning at_first)) (first_kept held now first calls call copied)
    ∙ last_after bytes piece calls call (beginning (first_of held first calls)) sum

pub write_kept : (held now first bytes piece : List ℕ) (calls : List DiskCall) (at n : ℕ) → length piece ≡ n → all_len calls ≡ length bytes → (calls ≡ [] → first ≡ held) → history_by now first (bytes ++ piece) (calls ++ DiskCall.Write at n ∷ []) ≡ written at piece (history_by held first bytes calls)
write_kept held now first bytes piece calls at n len sum copied = one_kept held now first bytes piece calls (DiskCall.Write at n) sum copied ∙ ap (λ own. written at own (history_by held first bytes calls)) (take_all n piece (omega (arith, len)))

append_none : {X : Type 0} (xs : List X) → xs ++ [] ≡ xs
append_none [] = refl
append_none (x ∷ xs) = ap (λ more. x ∷ more) (append_none xs)

pub sync_kept : (held now first bytes : List ℕ) (calls : List DiskCall) → all_len calls ≡ length bytes → (calls ≡ [] → first ≡ held) → history_by now first bytes (calls ++ DiskCall.Sync ∷ []) ≡ after_sync (history_by held first bytes calls)
sync_kept held now first bytes calls sum copied = subst (λ own. history_by now first own (calls ++ DiskCall.Sync ∷ []) ≡ after_sync (history_by held first bytes calls)) (append_none bytes) (one_kept held now first bytes [] calls DiskCall.Sync sum copied)

pub write_len : (calls : List DiskCall) (at n : ℕ) (bytes piece : List ℕ) → length piece ≡ n → all_len calls ≡ length bytes → all_len (calls ++ DiskCall.Write at n ∷ []) ≡ length (bytes ++ piece)
write_len calls at n bytes piece len sum = omega (arith, len, sum, last_len calls (DiskCall.Write at n), length-append bytes piece)

pub sync_len : (calls : List DiskCall) (bytes : List ℕ) → all_len calls ≡ length bytes → all_len (calls ++ DiskCall.Sync ∷ []) ≡ length bytes
sync_len calls bytes sum = omega (arith, sum, last_len calls DiskCall.Sync)

-- what is held after a write is what the calls tell
pub write_replayed : (held now first bytes piece : List ℕ) (calls : List DiskCall) (at n : ℕ) → length piece ≡ n → all_len calls ≡ length bytes → (calls ≡ [] → first ≡ held) → held ≡ (history_by held first bytes calls).now.held → now ≡ overwritten at piece held → now ≡ (history_by now first (bytes ++ piece) (calls ++ DiskCall.Write at n ∷ [])).now.held
write_replayed held now first bytes piece calls at n len sum copied replay is = is ∙ ap (overwritten at piece) replay ∙ sym (ap (λ h. h.now.held) (write_kept held now first bytes piece calls at n len sum copied))

pub sync_replayed : (held first bytes : List ℕ) (calls : List DiskCall) → all_len calls ≡ length bytes → (calls ≡ [] → first ≡ held) → held ≡ (history_by held first bytes calls).now.held → held ≡ (history_by held first bytes (calls ++ DiskCall.Sync ∷ [])).now.held
sync_replayed held first bytes calls sum copied replay = replay ∙ sym (ap (λ h. h.now.held) (sync_kept held held first bytes calls sum copied))

-- what stands behind others, from their end on
pub seam : (old more both : List ℕ) (from : ℕ) → both ≡ old ++ more → from ≡ length old → take (length both - from) (drop from both) ≡ more
seam old more both from is end = rw (is, end, drop-append_seam old more) (take_all (length (old ++ more) - length old) more (omega (arith, length-append old more)))

-- ---- room

-- the room that is left for one call less
pub room_left : (left most len n room : ℕ) → 0 < left → n ≤ most → len + left * most ≤ room → len + n + (left - 1) * most ≤ room
room_left zero most len n room some fits within = omega (arith, some)
room_left (suc left) most len n room some fits within =
    let one : suc left - 1 ≡ left = omega arith in
    rw one (omega (arith, suc-mul left most, fits, within))

-- a list behind which something stands isn't empty
pub not_empty : {X Y : Type 0} (xs : List X) (x : X) → xs ++ x ∷ [] ≡ [] → Y
not_empty [] x e = cc
not_empty (y ∷ xs) x e = cc
