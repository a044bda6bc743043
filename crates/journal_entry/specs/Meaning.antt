-- Entries and the changes that they mean.
use Rattle.std.specs.Prelude.{true, false, List, ◌∷◌, ◌++◌, map, Some, None}
use Rattle.std.specs.List.{flat_map}
use Rattle.fs_model.specs.declared.path.Path.{Path}
use Rattle.fs_model.specs.declared.reply.Stored.{Stored}
use Rattle.fs_model.specs.declared.change.Change.{Change}
use Rattle.fs_model.specs.State.{Names, Node, NodeRow, PlanRow}
use Rattle.fs_model.specs.Lookups.{mount_at}
use Rattle.journal_entry.specs.declared.entry.Entry.{Entry}

-- the entry of a change
abbrev pub entry_of_change : Change → Entry
entry_of_change (Change.Mkdir p) = Entry.Mkdir p
entry_of_change (Change.Create id p) = Entry.Create id p
entry_of_change (Change.Done id len stored plan) = Entry.Done id len stored plan
entry_of_change (Change.Remove p plan) = Entry.Remove p plan
entry_of_change (Change.Move p q plan) = Entry.Move p q plan
entry_of_change (Change.Pin p on) = Entry.Pin p on
entry_of_change (Change.Want id) = Entry.Want id
entry_of_change (Change.PlanEnd plan) = Entry.PlanEnd plan
entry_of_change (Change.Persisted id plan) = Entry.Persisted id plan
entry_of_change (Change.Mount p store key plan) = Entry.Mount p store key plan
entry_of_change (Change.Unmount p) = Entry.Unmount p
entry_of_change (Change.Seen worker) = Entry.Seen worker
entry_of_change (Change.Lost workers) = Entry.Lost workers
entry_of_change (Change.Loaded id p len) = Entry.Loaded id p len

-- ---- a checkpoint

-- the entry of a node that is no mount
abbrev pub node_entry : Path → Node → Entry
node_entry p Node.Directory = Entry.Node p true 0 0 true Stored.No false
node_entry p (Node.IsFile f) = Entry.Node p false f.id f.len f.done f.stored f.pinned

-- the entry of a row of nodes: a mount where it is one
abbrev pub row_entry : Names → NodeRow → Entry
row_entry N r = elim (mount_at N r.0) [
  | None ↦ node_entry r.0 r.1
  | Some m ↦ Entry.Mount r.0 m.store m.key 0
]

-- a pending plan, and for a Remove the files whose objects go
abbrev pub plan_entries : PlanRow → List Entry
plan_entries r = Entry.Pending r.number r.kind r.path r.to ∷ map (λ p. Entry.Leaf r.number p) r.leaves

-- the entries of a checkpoint: the next numbers, the nodes by path with `/` first, the pending plans, the workers seen
abbrev pub checkpoint_entries : Names → List Entry
checkpoint_entries N =
    Entry.Next N.next_id N.next_plan ∷ (map (row_entry N) N.nodes ++ (flat_map plan_entries N.plans ++ map (λ w. Entry.Seen w) N.seen))
