-- Rows and walks in the words of the file machine.
use Rattle.std.specs.Prelude.{◌≡◌, refl, ℕ, Bool, true, false, cond, not, ◌&&◌, ◌||◌, ◌++◌, length, drop, nat_le, fold, List, [], ◌∷◌, map, Option, None, Some, find, nat_eq}
use Rattle.std.specs.List.{list_all}
use Rattle.fs_model.specs.declared.reply.Stored.{Stored}
use Rattle.fs_model.specs.State.{Node, File, NodeRow, Names}
use Rattle.fs_model.specs.Lookups as machine
use Rattle.fs_model.specs.Lookups.{id_is}
use Rattle.fs_model.specs.Words.{under, path_len}
use Rattle.fs_model.specs.Changes.{set_file, put_node, keep_nodes, moved_rows, relocate}
use Rattle.fs_model.specs.declared.path.Path.{Path}
use Rattle.inode_tree.specs.declared.row.Row.{Row}
use Rattle.inode_tree.specs.declared.row.PathRow.{PathRow}
use Rattle.inode_tree.specs.declared.row.Walk.{Walk}

-- a tree, as its nodes in the order of their paths, and how many nodes more there is room for
pub record TreeView : Type 0 where
  pub nodes : List NodeRow
  pub room : ℕ

-- what a file's row keeps
abbrev pub file_in_row : Row → File
file_in_row r = record { id = r.id; len = r.len; done = r.done; stored = r.stored; pinned = r.pinned }

-- a directory, or this file
abbrev pub node_if : Bool → File → Node
node_if true f = Node.Directory
node_if false f = Node.IsFile f

-- the machine's node of a row
abbrev pub node_of : Row → Node
node_of r = node_if r.dir (file_in_row r)

-- the row of each directory
abbrev pub directory_row : Row
directory_row = record { dir = true; id = 0; len = 0; done = true; stored = Stored.No; pinned = false }

-- the number of a file; a directory has none
abbrev pub file_id : Node → Option ℕ
file_id Node.Directory = None
file_id (Node.IsFile f) = Some f.id

-- the one row that a tree tells of a node
abbrev pub row_of_node : Node → Row
row_of_node Node.Directory = directory_row
row_of_node (Node.IsFile f) = record { dir = false; id = f.id; len = f.len; done = f.done; stored = f.stored; pinned = f.pinned }

-- a path with the row that a tree tells of its node
abbrev pub row_told : NodeRow → Path × Row
row_told r = (r.0, row_of_node r.1)

-- a path with its row
abbrev pub path_row : PathRow → Path × Row
path_row r = (r.path, r.row)

-- where a walk led, as the machine says it
abbrev pub leads_to : Walk → machine.Walk
leads_to (Walk.Found r) = machine.Walk.Found (node_of r)
leads_to Walk.Absent = machine.Walk.Absent
leads_to Walk.Blocked = machine.Walk.Blocked

-- P holds of the row that was found, if one was
abbrev pub IfFound : Walk → (Row → Type 0) → Type 0
IfFound (Walk.Found r) P = P r
IfFound Walk.Absent P = Unit {0}
IfFound Walk.Blocked P = Unit {0}

-- P holds if a node was found
abbrev pub OnFound : Walk → Type 0 → Type 0
OnFound w P = IfFound w (λ r. P)

-- P holds if a file was in the way
abbrev pub OnBlocked : Walk → Type 0 → Type 0
OnBlocked (Walk.Found r) P = Unit {0}
OnBlocked Walk.Absent P = Unit {0}
OnBlocked Walk.Blocked P = P

-- the file with this number, with its path
abbrev pub file_row : List NodeRow → ℕ → Option NodeRow
file_row nodes id = find (λ (r : NodeRow). id_is id r.1) nodes

-- the file with this number is changed, as the machine changes it
abbrev pub file_changed : ℕ → (File → File) → List NodeRow → List NodeRow
file_changed id change nodes = map (λ (r : NodeRow). (r.0, cond (id_is id r.1) (set_file change r.1) r.1)) nodes

-- ---- nodes that get other paths

-- no path under the first gets longer under the second than a path may be
abbrev pub stays_short : List NodeRow → Path → Path → Bool
stays_short nodes p q = list_all (λ (r : NodeRow). not (under r.0 p) || nat_le (path_len (q ++ drop (length p) r.0)) 4096) nodes

-- each row at its place, one after the other
abbrev pub put_all : List NodeRow → List NodeRow → List NodeRow
put_all rows nodes = fold (λ ns (r : NodeRow). put_node r.0 r.1 ns) nodes rows

-- the nodes under one path are under another instead, as the machine moves them
abbrev pub relocated : Path → Path → List NodeRow → List NodeRow
relocated p q nodes = put_all (moved_rows p q nodes) (keep_nodes (λ x. not (under x p)) nodes)

relocated_is : (p q : Path) (N : Names) → (relocate p q N).nodes ≡ relocated p q N.nodes
relocated_is p q N = refl

-- ---- no two files have one number

-- the number of each node
abbrev pub ids_of : List NodeRow → List (Option ℕ)
ids_of nodes = map (λ (r : NodeRow). file_id r.1) nodes

-- two nodes don't have one number
abbrev pub differ : Option ℕ → Option ℕ → Bool
differ None b = true
differ (Some m) None = true
differ (Some m) (Some n) = not (nat_eq m n)

-- no number comes twice
abbrev pub all_differ : List (Option ℕ) → Bool
all_differ [] = true
all_differ (a ∷ rest) = list_all (differ a) rest && all_differ rest
