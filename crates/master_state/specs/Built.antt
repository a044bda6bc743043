-- Which entries are taken by now. Each stage lengthens this test, and it goes away when all are built.
use Rattle.std.specs.Prelude.{Bool, true, false, not, ◌&&◌, ◌||◌, nat_eq}
use Rattle.fs_model.specs.Lookups.{stored_is_yes}
use Rattle.journal_entry.specs.declared.entry.Entry.{Entry}
use Rattle.journal_entry.specs.Fields.{is_root}

-- the entry is one that the program takes: no plan, nothing stored, and no mount but that of `/`
abbrev pub is_built : Entry → Bool
is_built (Entry.Mkdir p) = true
is_built (Entry.Create id p) = true
is_built (Entry.Done id len stored plan) = not (stored_is_yes stored) && nat_eq plan 0
is_built (Entry.Mount p store key plan) = is_root p && nat_eq plan 0
is_built (Entry.Next id plan) = true
is_built (Entry.Node p dir id len done stored pinned) = dir || not (stored_is_yes stored)
is_built e = false
