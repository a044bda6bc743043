-- The words of the command line.
use Rattle.std.specs.Prelude.{ℕ, Bool, false, not, ◌&&◌, ◌==◌, List, [], ◌∷◌, codes, Option, Some, None, if◌then◌else◌}
use Rattle.std.specs.Str.{bytes_eq}

-- a name that stands for a file: not empty, and not beginning with a dash
abbrev pub is_file_word : List ℕ → Bool
is_file_word [] = false
is_file_word (b ∷ bs) = not (b == 45)

-- `play CONFIG SCRIPT`: the names of the configuration and of the script
abbrev pub play_words : List (List ℕ) → Option (List ℕ × List ℕ)
play_words (verb ∷ config ∷ script ∷ []) = if bytes_eq verb (codes "play") && is_file_word config && is_file_word script then Some (config, script) else None
play_words _ = None
