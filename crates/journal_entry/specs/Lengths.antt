-- How long the bodies of entries are, as the machine counts them.
use Rattle.std.specs.Prelude.{ℕ, ◌+◌, ◌*◌, length}
use Rattle.fs_model.specs.PathLength.{path_len}
use Rattle.fs_model.specs.Changes.{key_len}
use Rattle.journal_entry.specs.declared.entry.Entry.{Entry}

-- the length of the kind byte and the fields
abbrev pub body_len : Entry → ℕ
body_len (Entry.Mkdir p) = 3 + path_len p
body_len (Entry.Create id p) = 11 + path_len p
body_len (Entry.Done id len stored plan) = 26
body_len (Entry.Remove p plan) = 11 + path_len p
body_len (Entry.Move p q plan) = 13 + path_len p + path_len q
body_len (Entry.Pin p on) = 4 + path_len p
body_len (Entry.Want id) = 9
body_len (Entry.PlanEnd plan) = 9
body_len (Entry.Persisted id plan) = 17
body_len (Entry.Mount p store key plan) = 17 + path_len p + key_len key
body_len (Entry.Unmount p) = 3 + path_len p
body_len (Entry.Seen worker) = 5
body_len (Entry.Lost workers) = 3 + 4 * length workers
body_len (Entry.Loaded id p len) = 19 + path_len p
body_len (Entry.Next id plan) = 17
body_len (Entry.Node p dir id len done stored pinned) = 23 + path_len p
body_len (Entry.Pending plan kind p q) = 14 + path_len p + path_len q
body_len (Entry.Leaf plan p) = 11 + path_len p
