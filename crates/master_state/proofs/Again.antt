-- A checkpoint of plain names is read again: row by row the entries put the nodes back.
use Rattle.std.proofs.Common.{◌≡◌, ℕ, ◌+◌, ◌^◌, max, unwrap_or, Bool, true, false, cond, not, ◌&&◌, ◌||◌, ◌==◌, nat_lt, nat_le, List, [], ◌∷◌, ◌++◌, map, Option, Some, None, is_some, is_none, find, refl, sym, ap, ◌∙◌, subst, arith, append_assoc}
use Rattle.std.specs.List.{list_all}
use Rattle.std.specs.Ordering.{is_eq}
use Rattle.std.specs.FinMap.Entries.{below_all, is_sorted}
use Rattle.std.proofs.lemmas.Bool.{and_parts}
use Rattle.std.proofs.lemmas.List.{append-nil}
use Rattle.fs_model.specs.declared.path.Path.{Path}
use Rattle.fs_model.specs.declared.prefix.Prefix.{Prefix}
use Rattle.fs_model.specs.Words.{path_cmp, path_eq, path_len}
use Rattle.fs_model.specs.State.{Names, Node, NodeRow, MountRow}
use Rattle.fs_model.specs.Lookups.{find_node, walk_above, id_is, stored_is_yes}
use Rattle.fs_model.specs.NodesEvents.{is_reserved}
use Rattle.fs_model.specs.Changes.{key_len}
use Rattle.journal_entry.specs.declared.entry.Entry.{Entry}
use Rattle.journal_entry.specs.Fields.{is_next, is_no, is_root, is_file_id}
use Rattle.journal_entry.specs.Meaning.{node_entry, row_entry, checkpoint_entries}
use Rattle.inode_tree.specs.Rows.{ids_of, all_differ}
use Rattle.inode_tree.proofs.Numbers.{both}
use Rattle.master_state.specs.Walks.{is_open, has_place}
use Rattle.master_state.specs.View.{plain_names}
use Rattle.master_state.specs.Effect.{taken, after_entries, meaning}
use Rattle.master_state.specs.Plain.{IsPlain, is_plain_row, is_plain_node, are_plain_mounts}
use Rattle.master_state.proofs.Sorted.{all_here, put_last, not_before, none_above, below_more, walks_before, new_behind}

-- plain names are such names
pub are_plain_names : (N : Names) → IsPlain N → N ≡ plain_names N.nodes N.mounts N.next_id N.next_plan
are_plain_names N plain = λ i. record { nodes = N.nodes; mounts = N.mounts; plans = plain.planless i; locks = plain.lockless i; seen = plain.unseen i; next_id = N.next_id; next_plan = N.next_plan }

pub counted : (b : Bool) (M N : Names) → b ≡ true → cond b M N ≡ M
counted true M N h = refl
counted false M N h = cc

no_root : (q : Path) (x : List ℕ) (xs : Path) → is_root q ≡ true → path_eq q (x ∷ xs) ≡ false
no_root [] x xs h = refl
no_root (y ∷ ys) x xs h = cc

-- nothing is mounted but `/`
unmounted : (ms : List MountRow) (x : List ℕ) (xs : Path) → are_plain_mounts ms ≡ true → find (λ (m : MountRow). path_eq m.path (x ∷ xs)) ms ≡ None
unmounted [] x xs h = refl
unmounted (m ∷ []) x xs h = ap (λ b. cond b (Some m) None) (no_root m.path x xs (and_parts (is_root m.path) (not (is_reserved m.key)) (and_parts (is_root m.path && not (is_reserved m.key)) (nat_le (key_len m.key) 4096) h).0).0)
unmounted (m ∷ n ∷ ms) x xs h = cc

higher : (m n : ℕ) → nat_lt n m ≡ true → max m (n + 1) ≡ m
higher m n h = grind arith

twice : {X : Type 0} {o : Option X} {x : X} → o ≡ None → o ≡ Some x → ⊥
twice none some = cc

root_stays : (rows : List NodeRow) (e : NodeRow) → find_node rows [] ≡ Some Node.Directory → find_node (rows ++ e ∷ []) [] ≡ Some Node.Directory
root_stays [] e h = cc
root_stays (d ∷ rows) e h = by_test (root_stays rows e) (is_eq (path_cmp [] d.0)) h
  where
    by_test : (find_node rows [] ≡ Some Node.Directory → find_node (rows ++ e ∷ []) [] ≡ Some Node.Directory) → (b : Bool) → cond b (Some d.1) (find_node rows []) ≡ Some Node.Directory → cond b (Some d.1) (find_node (rows ++ e ∷ []) []) ≡ Some Node.Directory
    by_test behind true k = k
    by_test behind false k = behind k

module _ (nodes : List NodeRow) (mounts : List MountRow) (id plan : ℕ) (plain : IsPlain (plain_names nodes mounts id plan)) where
  abbrev whole : Names
  whole = plain_names nodes mounts id plan

  abbrev so_far : List NodeRow → Names
  so_far rows = plain_names rows mounts id plan

  -- a node comes back behind those before it
  node_back : (front : List NodeRow) (x : List ℕ) (xs : Path) (n : Node) (rest : List NodeRow) → nodes ≡ front ++ (x ∷ xs, n) ∷ rest → taken (node_entry (x ∷ xs) n) (so_far front) ≡ so_far (front ++ (x ∷ xs, n) ∷ [])
  node_back front x xs n rest is =
      let p : Path = x ∷ xs in
      let sorted : is_sorted path_cmp (front ++ (p, n) ∷ rest) ≡ true = ap (is_sorted path_cmp) (sym is) ∙ plain.sorted in
      let row : is_plain_row whole (p, n) ≡ true = all_here (is_plain_row whole) front (p, n) rest (ap (list_all (is_plain_row whole)) (sym is) ∙ plain.rows) in
      let tests = and_parts (nat_le (path_len p) 4096 && is_open (walk_above nodes p)) (is_plain_node id n) row in
      let open_here : is_open (walk_above front p) ≡ true = ap is_open (sym (walks_before front p n rest sorted) ∙ ap (λ rows. walk_above rows p) (sym is)) ∙ (and_parts (nat_le (path_len p) 4096) (is_open (walk_above nodes p)) tests.0).1 in
      let absent : not (is_some (find_node front p)) ≡ true = ap (λ o. not (is_some o)) (not_before front p n rest sorted) in
      let place : has_place (so_far front) p ≡ true = both (is_open (walk_above front p)) (not (is_some (find_node front p))) open_here absent in
      elim n as (λ m. is_plain_node id m ≡ true → n ≡ m → taken (node_entry p m) (so_far front) ≡ so_far (front ++ (p, m) ∷ [])) [
        | Node.Directory ↦ λ h e.
            counted _ _ _ (both (has_place (so_far front) p) true place refl)
            ∙ ap so_far (put_last front p Node.Directory rest (subst (λ m. is_sorted path_cmp (front ++ (p, m) ∷ rest) ≡ true) e sorted))
        | Node.IsFile f ↦ λ h e.
            let low = and_parts (is_file_id f.id && nat_lt f.id id && not (stored_is_yes f.stored)) (f.done || (f.len == 0 && is_no f.stored)) h in
            let lower = and_parts (is_file_id f.id && nat_lt f.id id) (not (stored_is_yes f.stored)) low.0 in
            let below = (and_parts (is_file_id f.id) (nat_lt f.id id) lower.0).1 in
            let apart : all_differ (ids_of (front ++ (p, Node.IsFile f) ∷ rest)) ≡ true = subst (λ rows. all_differ (ids_of rows) ≡ true) (is ∙ ap (λ m. front ++ (p, m) ∷ rest) e) plain.ids in
            let new : is_none (find (λ (r : NodeRow). id_is f.id r.1) front) ≡ true = ap is_none (new_behind front p f rest apart) in
            counted _ _ _ (both (not (stored_is_yes f.stored)) _ lower.1 (both (has_place (so_far front) p) _ place new))
            ∙ (λ i. plain_names (put_last front p (Node.IsFile f) rest (subst (λ m. is_sorted path_cmp (front ++ (p, m) ∷ rest) ≡ true) e sorted) i) mounts (higher id f.id below i) plan)
      ] tests.1 refl

  -- so does its row of the checkpoint
  row_back : (front : List NodeRow) (r : NodeRow) (rest : List NodeRow) → nodes ≡ front ++ r ∷ rest → find_node front [] ≡ Some Node.Directory → taken (row_entry whole r) (so_far front) ≡ so_far (front ++ r ∷ [])
  row_back front ([], n) rest is root = absurd (twice (not_before front [] n rest (ap (is_sorted path_cmp) (sym is) ∙ plain.sorted)) root)
  row_back front (x ∷ xs, n) rest is root =
      ap (λ o. taken (elim o [ None ↦ node_entry (x ∷ xs) n | Some m ↦ Entry.Mount (x ∷ xs) m.store m.key 0 ]) (so_far front)) (unmounted mounts x xs plain.mounted)
      ∙ node_back front x xs n rest is

  -- and the rows, one after the other
  pub rows_back : (front rest : List NodeRow) → nodes ≡ front ++ rest → find_node front [] ≡ Some Node.Directory → after_entries (so_far front) (map (row_entry whole) rest) ≡ so_far nodes
  rows_back front [] is root = ap so_far (sym (append-nil front) ∙ sym is)
  rows_back front (r ∷ rest) is root =
      let more : nodes ≡ (front ++ r ∷ []) ++ rest = is ∙ sym (append_assoc front (r ∷ []) rest) in
      ap (λ M. after_entries M (map (row_entry whole) rest)) (row_back front r rest is root)
      ∙ rows_back (front ++ r ∷ []) rest more (root_stays front r root)

-- ---- the front of a checkpoint

-- nodes begin with `/`
pub root_first : (rows : List NodeRow) → is_sorted path_cmp rows ≡ true → find_node rows [] ≡ Some Node.Directory → (es : List NodeRow) × (rows ≡ ([], Node.Directory) ∷ es)
root_first [] h root = absurd (cc)
root_first (([], n) ∷ es) h root = (es, λ i. ([], same_node i) ∷ es)
  where
    same_node : n ≡ Node.Directory
    same_node = ap (λ o. unwrap_or o n) root
root_first ((x ∷ xs, n) ∷ es) h root =
    let below = (and_parts (below_all path_cmp (x ∷ xs) es) (is_sorted path_cmp es) h).0 in
    absurd (twice (none_above [] es (below_more [] (x ∷ xs) es refl below)) root)

-- the mount of `/` comes back
mount_back : (nodes : List NodeRow) (p : Path) (store : ℕ) (key : Prefix) (id plan : ℕ) → is_root p ≡ true → not (is_reserved key) ≡ true → nat_le (key_len key) 4096 ≡ true
    → taken (row_entry (plain_names nodes (record { path = p; store = store; key = key } ∷ []) id plan) ([], Node.Directory)) (plain_names (([], Node.Directory) ∷ []) [] id plan) ≡ plain_names (([], Node.Directory) ∷ []) (record { path = p; store = store; key = key } ∷ []) id plan
mount_back nodes (x ∷ xs) store key id plan at plain short = cc
mount_back nodes [] store key id plan at plain short =
    let may : (not (is_reserved key) && nat_le (key_len key) 4096) ≡ true = both (not (is_reserved key)) (nat_le (key_len key) 4096) plain short in
    counted _ _ _ (both (not (is_reserved key) && nat_le (key_len key) 4096 && true) true (both (not (is_reserved key) && nat_le (key_len key) 4096) true may refl) refl)

-- the row of `/` gives its mount, or nothing where it has none
first_back : (nodes : List NodeRow) (mounts : List MountRow) (id plan : ℕ) → are_plain_mounts mounts ≡ true
    → taken (row_entry (plain_names nodes mounts id plan) ([], Node.Directory)) (plain_names (([], Node.Directory) ∷ []) [] id plan) ≡ plain_names (([], Node.Directory) ∷ []) mounts id plan
first_back nodes [] id plan h = refl
first_back nodes (m ∷ []) id plan h =
    let tests = and_parts (is_root m.path && not (is_reserved m.key)) (nat_le (key_len m.key) 4096) h in
    let more = and_parts (is_root m.path) (not (is_reserved m.key)) tests.0 in
    mount_back nodes m.path m.store m.key id plan more.0 more.1 tests.1
first_back nodes (m ∷ n ∷ ms) id plan h = cc

-- next numbers rise from 1
risen : (n : ℕ) → is_next n ≡ true → max 1 n ≡ n
risen n h = let low = (and_parts (nat_lt 0 n) (nat_le n (2 ^ 63)) h).0 in grind (arith, low)

again : (nodes : List NodeRow) (mounts : List MountRow) (id plan : ℕ) → IsPlain (plain_names nodes mounts id plan) → meaning (checkpoint_entries (plain_names nodes mounts id plan)) ≡ plain_names nodes mounts id plan
again nodes mounts id plan plain =
    let N = plain_names nodes mounts id plan in
    let first = root_first nodes plain.sorted plain.root in
    ap (after_entries (plain_names (([], Node.Directory) ∷ []) [] (max 1 id) (max 1 plan))) (append-nil (map (row_entry N) nodes))
    ∙ (λ i. after_entries (plain_names (([], Node.Directory) ∷ []) [] (risen id plain.file_next i) (risen plan plain.plan_next i)) (map (row_entry N) (first.1 i)))
    ∙ ap (λ M. after_entries M (map (row_entry N) first.0)) (first_back nodes mounts id plan plain.mounted)
    ∙ rows_back nodes mounts id plan plain (([], Node.Directory) ∷ []) first.0 first.1 refl

-- a checkpoint of plain names stands for them
pub checkpoint_again : (N : Names) → IsPlain N → meaning (checkpoint_entries N) ≡ N
checkpoint_again N plain =
    let is = are_plain_names N plain in
    subst (λ M. meaning (checkpoint_entries M) ≡ M) (sym is) (again N.nodes N.mounts N.next_id N.next_plan (subst IsPlain is plain))
