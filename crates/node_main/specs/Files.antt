-- What is told of files that are read, and their names.
use Rattle.std.specs.Prelude.{ℕ, Bool, true, false, List, [], ◌∷◌, Option, Some, None}

-- what a reader has left, of which none stands for an input that holds nothing
abbrev pub file_left : {F : Type 0} → (F → Option (List ℕ)) → Option F → Option (List ℕ)
file_left remaining None = Some []
file_left remaining (Some file) = remaining file

-- a name that isn't empty
abbrev pub is_named : List ℕ → Bool
is_named [] = false
is_named (b ∷ bs) = true
