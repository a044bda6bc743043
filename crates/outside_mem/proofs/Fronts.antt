-- What a pull from bytes in memory gives, and what it leaves.
use Rattle.std.proofs.Common.{◌≡◌, ℕ, ◌+◌, ◌-◌, ◌<◌, length, List, [], ◌++◌, take, drop, sym, ap, ◌∙◌, take-append-drop, arith}
use Rattle.std.proofs.lemmas.List.{drop-drop, length-drop, nil_from_length, take_rest}
use Rattle.outside_mem.specs.Counts.{piece_len}

-- the first n bytes of the rest, as `&bytes[at..]` gives it, stand at the front of the buffer
pub rest_given : (bytes buf : List ℕ) (at n : ℕ) → take n buf ≡ take n (take (length bytes - at) (drop at bytes)) → drop at bytes ≡ take n buf ++ drop (at + n) bytes
rest_given bytes buf at n copied =
    let front : take n buf ≡ take n (drop at bytes) = copied ∙ ap (λ l. take n l) (take_rest bytes at) in
    let back : drop n (drop at bytes) ≡ drop (at + n) bytes = drop-drop n at bytes in
    sym (take-append-drop n (drop at bytes)) ∙ ap (λ l. l ++ drop n (drop at bytes)) (sym front) ∙ ap (λ l. take n buf ++ l) back

-- where nothing was given for a buffer with room, nothing is left
pub rest_ended : (bytes : List ℕ) (at n room greatest : ℕ) → n ≡ piece_len (length (take (length bytes - at) (drop at bytes))) room greatest → n ≡ 0 → 0 < room → drop (at + n) bytes ≡ []
rest_ended bytes at n room greatest count none some =
    let rest : length (take (length bytes - at) (drop at bytes)) ≡ length bytes - at = ap length (take_rest bytes at) ∙ length-drop at bytes in
    nil_from_length (drop (at + n) bytes) (length-drop (at + n) bytes ∙ omega arith)
