-- The length of a path's text. No type of this crate is named here.
use Rattle.std.specs.Prelude.{ℕ, suc, ◌+◌, List, [], ◌∷◌, length}

-- the length of the text of some names, each behind a slash
abbrev pub path_bytes : List (List ℕ) → ℕ
path_bytes [] = 0
path_bytes (x ∷ xs) = suc (length x) + path_bytes xs

-- the length of a path's text, of which the root has 1
abbrev pub path_len : List (List ℕ) → ℕ
path_len [] = 1
path_len (x ∷ xs) = path_bytes (x ∷ xs)
