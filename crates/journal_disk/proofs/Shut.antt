-- Writing behind a closed head gate.
use Rattle.std.proofs.Common.{◌≡◌, inl, ℕ, ◌+◌, ◌≤◌, List, ◌++◌, length, take, drop, get_or, None, Bool, true, false, refl, sym, ◌∙◌, ap, subst, arith, append_assoc, length-append, length-drop}
use Rattle.std.specs.Prelude.{nat_le, nat_eq, ◌&&◌}
use Rattle.std.proofs.lemmas.List.{take_at, drop_at, length-take-le, drop-drop}
use Rattle.std.proofs.lemmas.Bool.Decides.{nat_tests}
use Rattle.std.proofs.Math.Seq.{take-add}
use Rattle.outside.specs.History.{Moment, History, overwritten, written, after_write}
use Rattle.journal_disk.specs.AreaText.{head_of}
use Rattle.journal_disk.specs.Closing.{IsShut, IsWriting}
use Rattle.journal_disk.proofs.Moments.{Sees, one_more}

and_false : (b : Bool) → (b && false) ≡ false
and_false true = refl
and_false false = refl

-- a closed head is not open
pub shut_head : (c : List ℕ) → get_or c 0 0 ≡ 0 → head_of c ≡ None
unfolding head_of
shut_head c is =
    let test : nat_eq (get_or c 0 0) 0 ≡ true = grind (arith, nat_tests) in
    rw (test, and_false (nat_le 10 (length c))) refl

-- each image of a shut area is closed
pub sees_shut : (m : Moment) → IsShut m → Sees (λ c. head_of c ≡ None) m
sees_shut m shut c image = shut_head c (image.kept 0 shut.long shut.outside ∙ shut.zero)

-- a write behind the head gate keeps it closed
pub write_shut : (s : History) (at n : ℕ) (held : List ℕ) → 1 ≤ at → IsShut s.now → IsShut (after_write at n held s).now
write_shut s at n held le shut = record { long = shut.long; zero = shut.zero; outside = (inl le, shut.outside) }

-- one piece more
overwritten_more : (text h : List ℕ) (at n : ℕ) → 1 ≤ length h → at + n ≤ length text → overwritten (1 + at) (take n (drop at text)) (overwritten 1 (take at text) h) ≡ overwritten 1 (take (at + n) text) h
overwritten_more text h at n long fits =
    let a = take 1 h in
    let b = take at text in
    let p = take n (drop at text) in
    let size_a : length a ≡ 1 = length-take-le 1 h long in
    let size_b : length b ≡ at = length-take-le at text (omega (arith, fits)) in
    let size_p : length p ≡ n = length-take-le n (drop at text) (omega (arith, fits, length-drop at text)) in
    let size : length (a ++ b) ≡ 1 + at = omega (arith, length-append a b, size_a, size_b) in
    let both : b ++ p ≡ take (at + n) text = sym (take-add at n text) in
    let front : take (1 + at) ((a ++ b) ++ drop (1 + length b) h) ≡ a ++ b = take_at (a ++ b) (drop (1 + length b) h) (1 + at) size in
    let back : drop (1 + at + length p) ((a ++ b) ++ drop (1 + length b) h) ≡ drop (1 + length (take (at + n) text)) h =
    sym (drop-drop (length p) (1 + at) ((a ++ b) ++ drop (1 + length b) h))
    ∙ ap (λ (l : List ℕ). drop (length p) l) (drop_at (a ++ b) (drop (1 + length b) h) (1 + at) size)
    ∙ drop-drop (length p) (1 + length b) h
    ∙ ap (λ (k : ℕ). drop k h) (omega (arith, length-append b p, ap length both)) in
    ap (λ (l : List ℕ). (l ++ p) ++ drop (1 + at + length p) ((a ++ b) ++ drop (1 + length b) h)) front
    ∙ ap (λ (l : List ℕ). ((a ++ b) ++ p) ++ l) back
    ∙ ap (λ (l : List ℕ). l ++ drop (1 + length (take (at + n) text)) h) (append_assoc a b p ∙ ap (λ (l : List ℕ). a ++ l) both)

writing_more : (text : List ℕ) (at n : ℕ) (s x : History) → at + n ≤ length text → 1 ≤ length s.now.held → IsWriting text at s x → IsWriting text (at + n) s (after_write (1 + at) n (overwritten (1 + at) (take n (drop at text)) x.now.held) x)
writing_more text at n s x fits long w =
    let shut = write_shut x (1 + at) n (overwritten (1 + at) (take n (drop at text)) x.now.held) (omega arith) w.shut in
    record {
      since = one_more s x IsShut _ w.since shut;
      shut = shut;
      held = ap (λ (l : List ℕ). overwritten (1 + at) (take n (drop at text)) l) w.held ∙ overwritten_more text s.now.held at n long fits;
    }

-- one piece more is written
pub piece_written : (text piece : List ℕ) (at n : ℕ) (s0 s x : History) → at + n ≤ length text → 1 ≤ length s0.now.held → piece ≡ take n (drop at text) → IsWriting text at s0 s → x ≡ written (1 + at) piece s → IsWriting text (at + n) s0 x
piece_written text piece at n s0 s x fits long is w wrote =
    let size : length (take n (drop at text)) ≡ n = length-take-le n (drop at text) (omega (arith, fits, length-drop at text)) in
    let here : x ≡ after_write (1 + at) n (overwritten (1 + at) (take n (drop at text)) s.now.held) s =
    wrote ∙ ap (λ (p : List ℕ). written (1 + at) p s) is ∙ ap (λ (k : ℕ). after_write (1 + at) k (overwritten (1 + at) (take n (drop at text)) s.now.held) s) size in
    subst (λ (y : History). IsWriting text (at + n) s0 y) (sym here) (writing_more text at n s0 s fits long w)
