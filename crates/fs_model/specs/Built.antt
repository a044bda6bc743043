-- Which events the program has by now. Each stage lengthens these lists, and they go away when all are built.
use Rattle.std.specs.Prelude.{Bool, true, false}
use Rattle.fs_model.specs.declared.event.Event.{Event}
use Rattle.fs_model.specs.declared.event.WriteType.{WriteType}
use Rattle.fs_model.specs.declared.event.ReadType.{ReadType}

-- files are written so
abbrev pub is_built_write : WriteType → Bool
is_built_write WriteType.MustCache = true
is_built_write kind = false

-- files are read so
abbrev pub is_built_read : ReadType → Bool
is_built_read ReadType.NoCache = true
is_built_read kind = false

-- the event is one that the program has
abbrev pub is_built : Event → Bool
is_built (Event.Mkdir p) = true
is_built (Event.Create l p kind w) = is_built_write kind
is_built (Event.List p) = true
is_built (Event.Stat p) = true
is_built (Event.Room l) = true
is_built (Event.Put l fill) = true
is_built (Event.Finish l) = true
is_built (Event.OpenFile l p kind w) = is_built_read kind
is_built (Event.Next l) = true
is_built (Event.Poll l limit) = true
is_built (Event.Close l) = true
is_built Event.Checkpoint = true
is_built (Event.Fuse calls) = true
is_built e = false
