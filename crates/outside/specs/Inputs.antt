-- What a world holds under names.
use Rattle.std.specs.Prelude.{ℕ, ◌≡◌, ◌||◌, Bool, false, ⊤, List, [], ◌∷◌, IsSome, is_none, Some, None}
use Rattle.std.specs.declared.option.Option.{Option}

-- what is held under a name, where an empty name stands for an input that holds nothing
abbrev pub named : (List ℕ → Option (List ℕ)) → List ℕ → Option (List ℕ)
named held [] = Some []
named held (b ∷ bs) = held (b ∷ bs)

-- an input has left all that is held under a name, and something is held there, where the world tells
abbrev pub Opens : Option (List ℕ → Option (List ℕ)) → List ℕ → Option (List ℕ) → Type 0
Opens None name left = ⊤
Opens (Some held) name left = IsSome left × (left ≡ named held name)

-- nothing is held under one of two names, where the world tells
abbrev pub is_missed : Option (List ℕ → Option (List ℕ)) → List ℕ → List ℕ → Bool
is_missed None config script = false
is_missed (Some held) config script = is_none (named held config) || is_none (named held script)
