-- What reads give of an area.
use Rattle.std.proofs.Common.{◌≡◌, ⊎_elim, ℕ, ◌+◌, ◌-◌, ◌≤◌, ◌<◌, List, ◌++◌, length, take, drop, min, Option, Some, None, refl, sym, ◌∙◌, ap, arith, length-drop, take-append-drop}
use Rattle.std.proofs.lemmas.List.{take_all, take_at, length-take-le}
use Rattle.std.proofs.lemmas.Bool.{cases_lt}
use Rattle.std.proofs.Math.Seq.{take-add}
use Rattle.outside.specs.Fuse.{IsNoLonger}
use Rattle.journal_disk.specs.AreaText.{head_of}
use Rattle.journal_disk.proofs.Area.{head_front}

-- ten bytes tell the head
pub head_ten : (bytes : List ℕ) → head_of (take 10 bytes) ≡ head_of bytes
head_ten bytes = ⊎_elim (λ short. ap head_of (take_all 10 bytes (omega (arith, short)))) long (cases_lt (length bytes) 10)
  where
    long : 10 ≤ length bytes → head_of (take 10 bytes) ≡ head_of bytes
    long le =
        ap head_of (take-add 9 1 bytes)
        ∙ head_front (take 9 bytes) (take 1 (drop 9 bytes)) (drop 9 bytes) (length-take-le 9 bytes (omega (arith, le)))
        (omega (arith, le, length-drop 9 bytes, length-take-le 1 (drop 9 bytes) (omega (arith, le, length-drop 9 bytes)))) (omega (arith, le, length-drop 9 bytes))
        ∙ ap head_of (take-append-drop 9 bytes)

-- what a read has put at the front of a buffer
pub read_front : (held buf new : List ℕ) (at n : ℕ) → n ≡ min (length buf) (length held - at) → new ≡ take n (drop at held) ++ drop n buf → take n new ≡ take n (drop at held)
read_front held buf new at n size is = ap (λ (l : List ℕ). take n l) is ∙ take_at (take n (drop at held)) (drop n buf) n (length-take-le n (drop at held) (omega (arith, size, length-drop at held)))

-- the head of what a read of ten bytes gives
pub read_ten : (held buf new : List ℕ) (n : ℕ) → length buf ≡ 10 → n ≡ min (length buf) (length held - 0) → new ≡ take n (drop 0 held) ++ drop n buf → head_of (take n new) ≡ head_of held
read_ten held buf new n ten size is =
    ap head_of (read_front held buf new 0 n size is)
    ∙ ⊎_elim (λ (short : length held < 10). ap head_of (take_all n held (omega (arith, size, ten, short)))) (λ le. (let all : n ≡ 10 = omega (arith, size, ten, le) in ap (λ (k : ℕ). head_of (take k held)) all ∙ head_ten held)) (cases_lt (length held) 10)

-- one piece more of an area is read
pub read_more : (held bytes buf new more : List ℕ) (at n next len : ℕ) → len ≡ length held → bytes ≡ take at held → (n ≡ min (length buf) (length held - at)) × (new ≡ take n (drop at held) ++ drop n buf)
    → more ≡ bytes ++ take n new → next ≡ min (at + n) 18446744073709551615 → at ≤ len → len ≤ 18446744073709551615 → more ≡ take next held
read_more held bytes buf new more at n next len whole so_far read is sum le small =
    let end : at + n ≡ next = omega (arith, sum, read.0, whole, small, le) in
    is ∙ ap (λ (l : List ℕ). l ++ take n new) so_far ∙ ap (λ (l : List ℕ). take at held ++ l) (read_front held buf new at n read.0 read.1) ∙ sym (take-add at n held) ∙ ap (λ (k : ℕ). take k held) end

-- a fuse that isn't set stays so
pub none_stays : (before now : Option ℕ) → IsNoLonger before now → before ≡ None → now ≡ None
none_stays None None shorter none = refl
none_stays None (Some left) shorter none = absurd shorter
none_stays (Some left) now shorter none = absurd cc
