use Rattle.std.proofs.Common.{◌≡◌, drop, map}
use Rattle.std.specs.String.{string_bytes}
use Rattle.outside.specs.Shelf.{is_among}
use Rattle.outside.proofs.media.is_one_of.Given as goal

abbrev pub invariant-loop-one : goal.invariant-loop-one
invariant-loop-one l = is_among (map string_bytes (drop l.one-index l.names)) l.name ≡ is_among (map string_bytes l.names) l.name
