-- What a world in memory holds.
use Rattle.std.specs.Prelude.{ℕ, List, [], ◌∷◌, Some, None, if◌then◌else◌}
use Rattle.std.specs.declared.option.Option.{Option}
use Rattle.std.specs.Str.{bytes_eq}
use Rattle.std.specs.String.{string_bytes}
use Rattle.outside_mem.specs.declared.whole.Input.{Input}

-- the bytes of the first input of this name
abbrev pub bytes_under : List Input → List ℕ → Option (List ℕ)
bytes_under [] name = None
bytes_under (input ∷ inputs) name = if bytes_eq (string_bytes input.name) name then Some input.bytes.items else bytes_under inputs name
