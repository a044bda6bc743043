-- The entries of a tree as rows of the file machine.
use Rattle.std.specs.Prelude.{Bool, List, map}
use Rattle.std.specs.FinMap as entries
use Rattle.fs_model.specs.State.{Node, NodeRow}
use Rattle.fs_model.specs.Words.{path_cmp}
use Rattle.inode_tree.specs.declared.entry.Inode.{Inode}
use Rattle.inode_tree.specs.declared.entry.Entry.{Entry}

-- the machine's node of a kept one
abbrev pub node_in : Inode → Node
node_in Inode.Directory = Node.Directory
node_in (Inode.File id len done stored pinned) = Node.IsFile (record { id = id; len = len; done = done; stored = stored; pinned = pinned })

-- a path with its node
abbrev pub node_row : Entry → NodeRow
node_row e = (e.path, node_in e.inode)

-- entries as the machine's rows
abbrev pub node_rows : List Entry → List NodeRow
node_rows es = map node_row es

-- the paths rise, so no path comes twice
abbrev pub in_order : List Entry → Bool
in_order es = entries.is_sorted path_cmp (node_rows es)
