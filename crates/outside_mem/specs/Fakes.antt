-- What the fakes hold, and how much one call of theirs moves.
use Rattle.std.specs.Prelude.{ℕ, List, drop}
use Rattle.outside_mem.specs.declared.inputs.MemSource.{MemSource}

-- the bytes of a source that were not pulled yet
abbrev pub left_of : MemSource → List ℕ
left_of source = drop source.at source.bytes.items
