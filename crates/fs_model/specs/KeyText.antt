-- How the text of a key is read.
use Rattle.std.specs.Prelude.{ℕ, ◌&&◌, nat_le, List, [], ◌∷◌, length, Option, Some, None, if◌then◌else◌}
use Rattle.fs_model.specs.PathForm.{are_key_names}
use Rattle.fs_model.specs.PathText.{parts_at}

-- the parts of a text between its slashes, none where it is empty
abbrev pub key_parts : List ℕ → List (List ℕ)
key_parts [] = []
key_parts (b ∷ rest) = parts_at 47 (b ∷ rest)

-- the key that a text spells, if it spells one
unfoldable pub read_key : List ℕ → Option (List (List ℕ))
read_key text = if nat_le (length text) 8192 && are_key_names (key_parts text) then Some (key_parts text) else None
