-- The length of a key's text, its first name apart.
use Rattle.std.proofs.Common.{◌≡◌, ℕ, suc, pred, ◌+◌, ◌-◌, ◌≤◌, List, [], ◌∷◌, length, get_or, take, drop, ap, ◌∙◌, sym, arith}
use Rattle.std.proofs.lemmas.List.{take_all}
use Rattle.fs_model.specs.PathLength.{path_bytes}
use Rattle.fs_model.specs.Changes.{key_len}

one_less : (n m : ℕ) → n ≡ suc m → pred n ≡ m
one_less n m e = ap pred e

pub key_len-parts : (d : List ℕ) (k : List (List ℕ)) → 1 ≤ length k → key_len k ≡ length (get_or k 0 d) + path_bytes (take (length k - 1) (drop 1 k))
key_len-parts d [] h = absurd (omega arith)
key_len-parts d (n ∷ ns) h =
    let rest : take (length (n ∷ ns) - 1) ns ≡ ns = take_all (length (n ∷ ns) - 1) ns (omega arith) in
    one_less (path_bytes (n ∷ ns)) (length n + path_bytes ns) (omega arith) ∙ ap (λ (xs : List (List ℕ)). length n + path_bytes xs) (sym rest)
