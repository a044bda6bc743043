-- What a writer's open block is committed as, and what is left of it.
use Rattle.std.specs.Prelude.{ℕ, Bool, false, not, ◌||◌, List, Option, Some, None, pred, slice_get, option_map}
use Rattle.fs_model.specs.State.{NodeRow, Node as machineNode}
use Rattle.fs_model.specs.Lookups.{stored_is_yes}
use Rattle.inode_tree.specs.Rows.{file_row}
use Rattle.outside.specs.Keys.{KeyNames}
use Rattle.file_writer.specs.Writing.{Writing, without_writer}
use Rattle.cluster_core.specs.Tiers.{object_key}
use Rattle.cluster_core.specs.Writers.{open_len, open_number}
use Rattle.cluster_core.specs.declared.hand.Writer.{Writer}
use Rattle.cluster_core.specs.declared.node.Node.{Node}
use Rattle.cluster_core.specs.declared.node.Finished.{Finished}

-- the node is a file that isn't stored, and so its blocks must be kept
abbrev pub keeps : Option machineNode → Bool
keeps None = false
keeps (Some machineNode.Directory) = false
keeps (Some (machineNode.IsFile f)) = not (stored_is_yes f.stored)

-- the node is a file that is pinned
abbrev pub pins : Option machineNode → Bool
pins None = false
pins (Some machineNode.Directory) = false
pins (Some (machineNode.IsFile f)) = f.pinned

-- the node of the file with this number
abbrev pub file_node : List NodeRow → ℕ → Option machineNode
file_node rows id = option_map (λ (q : NodeRow). q.1) (file_row rows id)

-- the open block of a writer, with its length and the flags of its file
abbrev pub finished_of : {W : Type 0} → List NodeRow → ℕ → Writer W → Finished
finished_of rows bs x = record { file = x.file; block = open_number bs x.bytes; len = open_len x.bytes.block; keep = keeps (file_node rows x.file); pin = pins (file_node rows x.file) }

-- the bytes without the writer of a block that has a reservation
abbrev pub closed_bytes : {W : Type 0} → Option ℕ → Writing W → Writing W
closed_bytes None x = x
closed_bytes (Some n) x = record x { block = option_map without_writer x.block }

-- the writer without its block's writer and its reservation, broken or as it was
abbrev pub closed_writer : {W : Type 0} → Bool → Writer W → Writer W
closed_writer b x = record x { bytes = closed_bytes x.room x.bytes; room = None; broken = b || x.broken }

-- how often a worker was started, if there is one
abbrev pub started_of : {S : Type 0} → Option (Node S) → ℕ
started_of None = 0
started_of (Some node) = node.started

-- the key of a reservation at a worker
abbrev pub key_at : {S : Type 0} → List (Node S) → ℕ → ℕ → KeyNames
key_at nodes w n = object_key (started_of (slice_get nodes (pred w))) n
