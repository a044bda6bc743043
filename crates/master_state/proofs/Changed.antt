-- Plain names stay plain when a file is changed in place.
use Rattle.std.proofs.Common.{◌≡◌, ℕ, Bool, true, false, cond, ◌&&◌, nat_le, nat_eq, List, [], ◌∷◌, map, Option, Some, None, option_map, refl, ap, ◌∙◌}
use Rattle.std.specs.Ordering.{is_eq, is_lt}
use Rattle.std.specs.List.{list_all}
use Rattle.std.specs.FinMap.Entries.{below_all, is_sorted}
use Rattle.std.proofs.lemmas.Bool.{and_parts}
use Rattle.fs_model.specs.declared.path.Path.{Path}
use Rattle.fs_model.specs.Words.{path_cmp, path_len, parts}
use Rattle.fs_model.specs.State.{Names, Node, NodeRow, File}
use Rattle.fs_model.specs.Lookups.{Walk, find_node, walk_part, walk_along, walk_above, id_is}
use Rattle.fs_model.specs.Changes.{set_file, change_file}
use Rattle.inode_tree.specs.Rows.{file_id, ids_of, all_differ}
use Rattle.inode_tree.proofs.Numbers.{both}
use Rattle.master_state.specs.Walks.{is_open}
use Rattle.master_state.specs.Plain.{IsPlain, is_plain_row, is_plain_node, is_plain_file}

module _ (id : ℕ) (change : File → File) where
  abbrev changed : Node → Node
  changed n = cond (id_is id n) (set_file change n) n

  abbrev changed_rows : List NodeRow → List NodeRow
  changed_rows rows = map (λ (r : NodeRow). (r.0, changed r.1)) rows

  found_changed : (q : Path) (rows : List NodeRow) → find_node (changed_rows rows) q ≡ option_map changed (find_node rows q)
  found_changed q [] = refl
  found_changed q (e ∷ rows) = by_test (found_changed q rows) (is_eq (path_cmp q e.0))
    where
      by_test : find_node (changed_rows rows) q ≡ option_map changed (find_node rows q) → (b : Bool) → cond b (Some (changed e.1)) (find_node (changed_rows rows) q) ≡ option_map changed (cond b (Some e.1) (find_node rows q))
      by_test behind true = refl
      by_test behind false = behind

  -- a walk meets the same directories
  part_changed : (o : Option Node) (w : Walk) → walk_part (option_map changed o) w ≡ walk_part o w
  part_changed None w = refl
  part_changed (Some Node.Directory) w = refl
  part_changed (Some (Node.IsFile f)) w = by_test (nat_eq f.id id)
    where
      by_test : (b : Bool) → walk_part (Some (cond b (Node.IsFile (change f)) (Node.IsFile f))) w ≡ Walk.Blocked
      by_test true = refl
      by_test false = refl

  walk_changed : (rows : List NodeRow) (ps : List Path) (w : Walk) → walk_along (changed_rows rows) ps w ≡ walk_along rows ps w
  walk_changed rows [] w = refl
  walk_changed rows (q ∷ ps) w =
      (λ i. walk_part (found_changed q rows i) (walk_changed rows ps w i)) ∙ part_changed (find_node rows q) (walk_along rows ps w)

  below_changed : (k : Path) (rows : List NodeRow) → below_all path_cmp k (changed_rows rows) ≡ below_all path_cmp k rows
  below_changed k [] = refl
  below_changed k (e ∷ rows) = ap (λ b. is_lt (path_cmp k e.0) && b) (below_changed k rows)

  sorted_changed : (rows : List NodeRow) → is_sorted path_cmp (changed_rows rows) ≡ is_sorted path_cmp rows
  sorted_changed [] = refl
  sorted_changed (e ∷ rows) = λ i. below_changed e.0 rows i && sorted_changed rows i

  module _ (same : (f : File) → (change f).id ≡ f.id) where
    id_changed : (n : Node) → file_id (changed n) ≡ file_id n
    id_changed Node.Directory = refl
    id_changed (Node.IsFile f) = by_test (nat_eq f.id id)
      where
        by_test : (b : Bool) → file_id (cond b (Node.IsFile (change f)) (Node.IsFile f)) ≡ Some f.id
        by_test true = ap (λ n. Some n) (same f)
        by_test false = refl

    ids_changed : (rows : List NodeRow) → ids_of (changed_rows rows) ≡ ids_of rows
    ids_changed [] = refl
    ids_changed (e ∷ rows) = λ i. id_changed e.1 i ∷ ids_changed rows i

    module _ (N : Names) (plain : IsPlain N) (keeps : (f : File) → is_plain_file N.next_id f ≡ true → is_plain_file N.next_id (change f) ≡ true) where
      node_changed : (n : Node) → is_plain_node N.next_id n ≡ true → is_plain_node N.next_id (changed n) ≡ true
      node_changed Node.Directory h = refl
      node_changed (Node.IsFile f) h = by_test (nat_eq f.id id)
        where
          by_test : (b : Bool) → is_plain_node N.next_id (cond b (Node.IsFile (change f)) (Node.IsFile f)) ≡ true
          by_test true = keeps f h
          by_test false = h

      rows_changed : (rows : List NodeRow) → list_all (is_plain_row N) rows ≡ true → list_all (is_plain_row (change_file id change N)) (changed_rows rows) ≡ true
      rows_changed [] h = refl
      rows_changed (r ∷ rows) h =
          let split = and_parts (is_plain_row N r) (list_all (is_plain_row N) rows) h in
          let tests = and_parts (nat_le (path_len r.0) 4096 && is_open (walk_above N.nodes r.0)) (is_plain_node N.next_id r.1) split.0 in
          let way = and_parts (nat_le (path_len r.0) 4096) (is_open (walk_above N.nodes r.0)) tests.0 in
          both (is_plain_row (change_file id change N) (r.0, changed r.1)) (list_all (is_plain_row (change_file id change N)) (changed_rows rows))
          (both (nat_le (path_len r.0) 4096 && is_open (walk_above (changed_rows N.nodes) r.0)) (is_plain_node N.next_id (changed r.1))
          (both (nat_le (path_len r.0) 4096) (is_open (walk_above (changed_rows N.nodes) r.0)) way.0 (ap is_open (walk_changed N.nodes (parts r.0) (Walk.Found Node.Directory)) ∙ way.1))
          (node_changed r.1 tests.1))
          (rows_changed rows split.1)

      -- a file with a number is changed, and keeps it
      pub stays_changed : IsPlain (change_file id change N)
      stays_changed = record {
        sorted = sorted_changed N.nodes ∙ plain.sorted;
        root = found_changed [] N.nodes ∙ ap (option_map changed) plain.root;
        rows = rows_changed N.nodes plain.rows;
        ids = ap all_differ (ids_changed N.nodes) ∙ plain.ids;
        mounted = plain.mounted;
        planless = plain.planless;
        lockless = plain.lockless;
        unseen = plain.unseen;
        file_next = plain.file_next;
        plan_next = plain.plan_next;
      }
