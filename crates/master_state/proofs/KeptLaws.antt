-- What the calls on the tree leave, as the machine says it of the names.
use Rattle.std.proofs.Common.{map, find, ◌≡◌, ℕ, Bool, true, false, cond, not, List, [], ◌∷◌, Option, Some, None, option_map, option_and_then, nat_eq, refl, sym, ap, ◌∙◌, subst, arith}
use Rattle.std.proofs.lemmas.Bool.{and_parts}
use Rattle.std.proofs.lemmas.List.{append-nil}
use Rattle.std.proofs.lemmas.Option.{same_Some}
use Rattle.fs_model.specs.declared.path.Path.{Path}
use Rattle.fs_model.specs.declared.reply.Stored.{Stored}
use Rattle.fs_model.specs.Words.{parts, path_eq}
use Rattle.fs_model.specs.State.{Names, Node, NodeRow, MountRow, File}
use Rattle.fs_model.specs.Lookups.{Walk, find_node, walk_part, walk_along, walk_above, walk_nodes, has_node, file_in, id_is}
use Rattle.journal_entry.specs.declared.entry.Entry.{Entry}
use Rattle.journal_entry.specs.Meaning.{node_entry, row_entry, checkpoint_entries}
use Rattle.inode_tree.specs.declared.row.Row.{Row}
use Rattle.inode_tree.specs.declared.row.PathRow.{PathRow}
use Rattle.inode_tree.specs.Rows.{node_of, file_in_row, node_if, file_row, file_changed, row_of_node, row_told, path_row}
use Rattle.inode_tree.proofs.Walks.{free_leads}
use Rattle.master_state.specs.Walks.{is_open, has_place}
use Rattle.master_state.specs.Fits.{file_passes}
use Rattle.master_state.specs.View.{plain_names}
use Rattle.master_state.specs.Kept.{entry_of_node, entry_of_row}

-- ---- where a node may come in

open_along : (nodes : List NodeRow) (ps : List Path) → is_open (walk_along nodes ps (Walk.Found Node.Directory)) ≡ true → walk_along nodes ps (Walk.Found Node.Directory) ≡ Walk.Found Node.Directory
open_along nodes [] h = refl
open_along nodes (q ∷ ps) h = by_found (open_along nodes ps) (find_node nodes q) h
  where
    by_found : (is_open (walk_along nodes ps (Walk.Found Node.Directory)) ≡ true → walk_along nodes ps (Walk.Found Node.Directory) ≡ Walk.Found Node.Directory) → (o : Option Node)
        → is_open (walk_part o (walk_along nodes ps (Walk.Found Node.Directory))) ≡ true → walk_part o (walk_along nodes ps (Walk.Found Node.Directory)) ≡ Walk.Found Node.Directory
    by_found behind None k = cc
    by_found behind (Some Node.Directory) k = behind k
    by_found behind (Some (Node.IsFile f)) k = cc

is_none_there : (b : Bool) → not b ≡ true → b ≡ false
is_none_there true h = cc
is_none_there false h = refl

module _ (N M : Names) (p q : Path) (same : N ≡ M) (own : q ≡ p) (place : has_place M p ≡ true) where
  tests : (is_open (walk_above N.nodes q) ≡ true) × (not (has_node N q) ≡ true)
  tests = and_parts (is_open (walk_above N.nodes q)) (not (has_node N q)) ((λ i. has_place (same i) (own i)) ∙ place)

  pub is_below : walk_above N.nodes q ≡ Walk.Found Node.Directory
  is_below = open_along N.nodes (parts q) tests.0

  pub is_absent : walk_nodes N.nodes q ≡ Walk.Absent
  is_absent = free_leads N.nodes q (is_none_there (has_node N q) tests.1) is_below

-- ---- a file that is done

has_number : (rows : List NodeRow) (id : ℕ) (r : NodeRow) → file_row rows id ≡ Some r → id_is id r.1 ≡ true
has_number [] id r h = absurd (cc)
has_number (e ∷ rows) id r h = by_test (id_is id e.1) refl (has_number rows id r) h
  where
    by_test : (b : Bool) → id_is id e.1 ≡ b → (file_row rows id ≡ Some r → id_is id r.1 ≡ true) → cond b (Some e) (file_row rows id) ≡ Some r → id_is id r.1 ≡ true
    by_test true at behind here = subst (λ (x : NodeRow). id_is id x.1 ≡ true) (same_Some e r here) at
    by_test false at behind here = behind here

same_number : (m n : ℕ) → nat_eq m n ≡ true → m ≡ n
same_number m n h = grind (arith, h)

-- the file that a row is of
row_file : (dir : Bool) (g f : File) → node_if dir g ≡ Node.IsFile f → g ≡ f
row_file true g f h = absurd (cc)
row_file false g f h = ap file_or_own h
  where
    file_or_own : Node → File
    file_or_own Node.Directory = g
    file_or_own (Node.IsFile x) = x

pub is_finished : (nodes new : List NodeRow) (id len : ℕ) (stored : Stored) (row : Row) → option_map node_of (Some row) ≡ option_map (λ (r : NodeRow). r.1) (file_row nodes id)
    → file_passes (λ f. not f.done) (option_and_then (λ (r : NodeRow). file_in r.1) (file_row nodes id)) ≡ true
    → ((r : NodeRow) (f : File) (change : File → File) → file_row nodes row.id ≡ Some r → r.1 ≡ Node.IsFile f → file_in_row (record row { len = len; done = true; stored = stored }) ≡ change f → new ≡ file_changed row.id change nodes)
    → new ≡ file_changed id (λ f. record f { len = len; done = true; stored = stored }) nodes
is_finished nodes new id len stored row found undone changes = by_row (file_row nodes id) refl found undone
  where
    change : File → File
    change f = record f { len = len; done = true; stored = stored }

    by_file : (r : NodeRow) (n : Node) → r.1 ≡ n → file_row nodes id ≡ Some r → node_of row ≡ n → file_passes (λ f. not f.done) (file_in n) ≡ true → new ≡ file_changed id change nodes
    by_file r Node.Directory at there same passes = absurd (cc)
    by_file r (Node.IsFile f) at there same passes =
        let mine : file_in_row row ≡ f = row_file row.dir (file_in_row row) f same in
        let number : row.id ≡ id = ap (λ (x : File). x.id) mine ∙ same_number f.id id (ap (id_is id) (sym at) ∙ has_number nodes id r there) in
        changes r f change (ap (file_row nodes) number ∙ there) at (ap change mine) ∙ ap (λ k. file_changed k change nodes) number

    by_row : (o : Option NodeRow) → file_row nodes id ≡ o → option_map node_of (Some row) ≡ option_map (λ (r : NodeRow). r.1) o → file_passes (λ f. not f.done) (option_and_then (λ (r : NodeRow). file_in r.1) o) ≡ true → new ≡ file_changed id change nodes
    by_row None there same passes = absurd (cc)
    by_row (Some r) there same passes = by_file r r.1 refl there (same_Some (node_of row) r.1 same) passes

-- ---- a checkpoint

node_told : (p : Path) (n : Node) → entry_of_node p (row_of_node n) ≡ node_entry p n
node_told p Node.Directory = refl
node_told p (Node.IsFile f) = refl

module _ (nodes : List NodeRow) (mounts : List MountRow) (id plan : ℕ) where
  abbrev entry_told : Path × Row → Entry
  entry_told r = entry_of_row mounts r.0 r.1

  row_told_is : (r : NodeRow) → entry_told (row_told r) ≡ row_entry (plain_names nodes mounts id plan) r
  row_told_is r = elim (find (λ (m : MountRow). path_eq m.path r.0) mounts) as (λ o. elim o [ None ↦ entry_of_node r.0 (row_of_node r.1) | Some m ↦ Entry.Mount r.0 m.store m.key 0 ] ≡ elim o [ None ↦ node_entry r.0 r.1 | Some m ↦ Entry.Mount r.0 m.store m.key 0 ]) [
    | None ↦ node_told r.0 r.1
    | Some m ↦ refl
  ]

  told_rows : (rows : List PathRow) → map (λ (n : PathRow). entry_of_row mounts n.path n.row) rows ≡ map entry_told (map path_row rows)
  told_rows [] = refl
  told_rows (r ∷ rows) = ap (λ es. entry_of_row mounts r.path r.row ∷ es) (told_rows rows)

  told_nodes : (rs : List NodeRow) → map entry_told (map row_told rs) ≡ map (row_entry (plain_names nodes mounts id plan)) rs
  told_nodes [] = refl
  told_nodes (r ∷ rs) = λ i. row_told_is r i ∷ told_nodes rs i

  -- the entries of all nodes are those of a checkpoint
  pub entries_are : (rows : List PathRow) → map path_row rows ≡ map row_told nodes → Entry.Next id plan ∷ map (λ (n : PathRow). entry_of_row mounts n.path n.row) rows ≡ checkpoint_entries (plain_names nodes mounts id plan)
  entries_are rows told = ap (λ es. Entry.Next id plan ∷ es) (told_rows rows ∙ ap (map entry_told) told ∙ told_nodes nodes ∙ sym (append-nil (map (row_entry (plain_names nodes mounts id plan)) nodes)))
