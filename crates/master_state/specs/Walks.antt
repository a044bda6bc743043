-- Where a node may come in. No type of this crate is named here.
use Rattle.std.specs.Prelude.{Bool, true, false, not, ◌&&◌}
use Rattle.fs_model.specs.declared.path.Path.{Path}
use Rattle.fs_model.specs.State.{Names}
use Rattle.fs_model.specs.Lookups.{Walk, walk_above, has_node}

-- the walk met directories alone
abbrev pub is_open : Walk → Bool
is_open (Walk.Found n) = true
is_open Walk.Absent = false
is_open Walk.Blocked = false

-- a node may come in at the path: it has none, and those before it are directories; `/` always has one
abbrev pub has_place : Names → Path → Bool
has_place N p = is_open (walk_above N.nodes p) && not (has_node N p)
