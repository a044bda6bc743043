-- What is kept of the names, as the machine's rows.
use Rattle.std.specs.Prelude.{List, [], ◌∷◌, Option, Some, None, find}
use Rattle.fs_model.specs.declared.path.Path.{Path}
use Rattle.fs_model.specs.Words.{path_eq}
use Rattle.fs_model.specs.State.{MountRow}
use Rattle.journal_entry.specs.declared.entry.Entry.{Entry}
use Rattle.inode_tree.specs.declared.row.Row.{Row}
use Rattle.master_state.specs.declared.mount.Mount.{Mount}
use Rattle.master_state.specs.declared.ready.Ready.{Ready}
use Rattle.master_state.specs.View.{Need}

-- the mount of `/`, if there is one
abbrev pub mount_rows : Option Mount → List MountRow
mount_rows None = []
mount_rows (Some m) = record { path = []; store = m.store; key = m.key } ∷ []

-- what was made ready, as the need that it serves
abbrev pub need_in : Ready → Need
need_in Ready.Nothing = Need.Nothing
need_in (Ready.Node p) = Need.NodeAt p
need_in (Ready.Mount key) = Need.MountOf key

-- the entry of a checkpoint for a node that is no mount
abbrev pub entry_of_node : Path → Row → Entry
entry_of_node p r = Entry.Node p r.dir r.id r.len r.done r.stored r.pinned

-- and for any node: a mount where it is one
abbrev pub entry_of_row : List MountRow → Path → Row → Entry
entry_of_row mounts p r = elim (find (λ (m : MountRow). path_eq m.path p) mounts) [
  | None ↦ entry_of_node p r
  | Some m ↦ Entry.Mount p m.store m.key 0
]
