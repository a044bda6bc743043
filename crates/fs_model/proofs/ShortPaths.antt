-- A path's text has at most 4,096 bytes.
use Rattle.std.proofs.Common.{◌≡◌, ℕ, ◌≤◌, true, List, [], ◌∷◌, arith}
use Rattle.fs_model.specs.PathForm.{is_path}
use Rattle.fs_model.specs.PathLength.{path_bytes, path_len}
use Rattle.fs_model.proofs.Grammar.{is_short}
use Rattle.fs_model.proofs.TextLengths.{path_len-path_text}

pub path_len-short : (p : List (List ℕ)) → is_path p ≡ true → path_len p ≤ 4096
path_len-short p h = omega (arith, is_short p h, path_len-path_text p)

pub path_bytes-short : (p : List (List ℕ)) → is_path p ≡ true → path_bytes p ≤ 4096
path_bytes-short [] h = omega arith
path_bytes-short (x ∷ xs) h = path_len-short (x ∷ xs) h
