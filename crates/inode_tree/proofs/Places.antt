-- What stands at the place of a path.
use Rattle.std.proofs.Common.{◌≡◌, ℕ, ◌+◌, ◌<◌, ◌≤◌, true, false, List, ◌∷◌, length, drop, get_or, Option, Some, None, option_map, unwrap_or, nat_eq, refl, sym, ap, ◌∙◌, subst, arith}
use Rattle.std.specs.Prelude.{set}
use Rattle.std.specs.Ordering.{eq_by_cmp}
use Rattle.std.specs.List.{AllWithin, insert, list_all}
use Rattle.std.specs.Cmp.Lexicographic.{pointwise}
use Rattle.std.proofs.lemmas.List.{drop_more}
use Rattle.fs_model.specs.declared.path.Path.{Path}
use Rattle.fs_model.specs.Equal.{names_cmp_total, names_ties}
use Rattle.fs_model.specs.Words.{path_cmp, path_lt}
use Rattle.fs_model.specs.State.{Node, File, NodeRow}
use Rattle.fs_model.specs.Lookups.{find_node}
use Rattle.fs_model.specs.Changes.{put_node}
use Rattle.inode_tree.specs.declared.entry.Entry.{Entry}
use Rattle.inode_tree.specs.Entries.{node_in, node_row, node_rows, in_order}
use Rattle.inode_tree.specs.Rows.{file_id, file_changed, ids_of, differ, all_differ}
use Rattle.inode_tree.proofs.Rising.{find_here, find_other, put_here, found_here, put_over, is_sorted-put_here}
use Rattle.inode_tree.proofs.Numbers.{insert_differs, set_ids, set_changes}

module _ (es : List Entry) (p : Path) (i : ℕ) (e : Entry) (within : i < length es) (is : e ≡ get_or es i e) (before : AllWithin (λ x. path_lt x.path p ≡ true) es 0 i) where
  rest : drop i es ≡ e ∷ drop (i + 1) es
  rest = drop_more es i e within ∙ ap (λ x. x ∷ drop (i + 1) es) (sym is)

  -- an entry whose path it is
  pub stands : (q : Path) → q ≡ e.path → true ≡ pointwise (pointwise nat_eq) p q → Some (node_in e.inode) ≡ find_node (node_rows es) p
  stands q read same = sym (find_here names_cmp_total node_row p es i e within rest before (sym (names_ties p e.path) ∙ ap (pointwise (pointwise nat_eq) p) (sym read) ∙ sym same))

  -- the entry of another path, which comes later
  pub is_missing : in_order es ≡ true → AllWithin (λ x. path_lt x.path p ≡ false) es i (length es) → (q : Path) → q ≡ e.path → false ≡ pointwise (pointwise nat_eq) p q → None ≡ find_node (node_rows es) p
  is_missing ordered after q read other =
      let later : path_lt e.path p ≡ false = ap (λ x. path_lt x.path p) is ∙ after i e (omega arith) within in
      sym (find_other names_cmp_total node_row p es i e within rest ordered before later (sym (names_ties p e.path) ∙ ap (pointwise (pointwise nat_eq) p) (sym read) ∙ sym other))

-- an entry that goes in at the place of its path: `q` is the path as it was looked for, `ds` the entries as they were read
module _ (es ds ys : List Entry) (q : Path) (i : ℕ) (x : Entry) (read : ds ≡ es) (sought : q ≡ x.path) (within : i ≤ length ds)
    (before : AllWithin (λ e. path_lt e.path q ≡ true) ds 0 i) (after : AllWithin (λ e. path_lt e.path q ≡ false) ds i (length ds)) (made : ys ≡ insert es i x) where
  put_in : find_node (node_rows es) x.path ≡ None → put_node x.path (node_in x.inode) (node_rows es) ≡ node_rows (insert es i x)
  put_in none = put_here names_cmp_total node_row x.path (node_in x.inode) es i x refl
      (subst (λ zs. i ≤ length zs) read within)
      (subst (λ zs. AllWithin (λ e. path_lt e.path x.path ≡ true) zs 0 i) read (subst (λ r. AllWithin (λ e. path_lt e.path r ≡ true) ds 0 i) sought before))
      (subst (λ zs. AllWithin (λ e. path_lt e.path x.path ≡ false) zs i (length zs)) read (subst (λ r. AllWithin (λ e. path_lt e.path r ≡ false) ds i (length ds)) sought after))
      none

  pub is_put : (nodes : List NodeRow) (p : Path) (n : Node) → node_rows es ≡ nodes → x.path ≡ p → node_in x.inode ≡ n → find_node nodes p ≡ None → node_rows ys ≡ put_node p n nodes
  is_put nodes p n view named kind none =
      let none_there : find_node (node_rows es) x.path ≡ None = (λ j. find_node (view j) (named j)) ∙ none in
      ap node_rows made ∙ sym (put_in none_there) ∙ (λ j. put_node (named j) (kind j) (view j))

  pub stays_in_order : (nodes : List NodeRow) (p : Path) → node_rows es ≡ nodes → x.path ≡ p → find_node nodes p ≡ None → in_order es ≡ true → in_order ys ≡ true
  stays_in_order nodes p view named none ordered =
      let none_there : find_node (node_rows es) x.path ≡ None = (λ j. find_node (view j) (named j)) ∙ none in
      ap in_order made ∙ is_sorted-put_here names_cmp_total node_row x.path (node_in x.inode) es (insert es i x) (put_in none_there) ordered

  -- and it has no number of another, where its node has none
  pub put_differs : (nodes : List NodeRow) (n : Node) → node_rows es ≡ nodes → node_in x.inode ≡ n → list_all (differ (file_id n)) (ids_of nodes) ≡ true → all_differ (ids_of (node_rows es)) ≡ true → all_differ (ids_of (node_rows ys)) ≡ true
  put_differs nodes n view kind new apart =
      let here : list_all (differ (file_id (node_in x.inode))) (ids_of (node_rows es)) ≡ true = (λ j. list_all (differ (file_id (kind j))) (ids_of (view j))) ∙ new in
      ap (λ zs. all_differ (ids_of (node_rows zs))) made ∙ insert_differs es i x (subst (λ zs. i ≤ length zs) read within) here apart

-- an entry whose node is set: `q` is the path as it was looked for, `ds` the entries as they were read
module _ (es ds : List Entry) (q p : Path) (i : ℕ) (nodes : List NodeRow) (id : Option ℕ) (read : ds ≡ es) (sought : q ≡ p) (view : node_rows es ≡ nodes) (within : i ≤ length ds)
    (before : AllWithin (λ e. path_lt e.path q ≡ true) ds 0 i) (after : AllWithin (λ e. path_lt e.path q ≡ false) ds i (length ds)) (ordered : in_order es ≡ true) (found : option_map file_id (find_node nodes p) ≡ Some id) where
  before_here : AllWithin (λ e. path_lt e.path p ≡ true) es 0 i
  before_here = subst (λ zs. AllWithin (λ e. path_lt e.path p ≡ true) zs 0 i) read (subst (λ r. AllWithin (λ e. path_lt e.path r ≡ true) ds 0 i) sought before)

  -- its path is the one
  stands_there : (d : Entry) → (i < length es) × (eq_by_cmp path_cmp p (get_or es i d).path ≡ true)
  stands_there d =
      let node = some_node (find_node nodes p) found in
      found_here names_cmp_total node_row p es i d node.0 (ap (λ rows. find_node rows p) view ∙ node.1)
      (subst (λ zs. i ≤ length zs) read within) ordered before_here
      (subst (λ zs. AllWithin (λ e. path_lt e.path p ≡ false) zs i (length zs)) read (subst (λ r. AllWithin (λ e. path_lt e.path r ≡ false) ds i (length ds)) sought after))
    where
      some_node : (o : Option Node) → option_map file_id o ≡ Some id → (n : Node) × (o ≡ Some n)
      some_node (Some n) h = (n, refl)
      some_node None h = cc

  pub is_within : Entry → i < length es
  is_within d = (stands_there d).0

  set_in : (e x : Entry) → e ≡ get_or es i e → x.path ≡ e.path → put_node p (node_in x.inode) (node_rows es) ≡ node_rows (set es i x)
  set_in e x is same =
      let path : x.path ≡ (get_or es i e).path = same ∙ ap (λ y. y.path) is in
      put_over names_cmp_total node_row p (node_in x.inode) es i e x (λ j. (path j, node_in x.inode)) (stands_there e).0 before_here (stands_there e).1

  pub is_set : (e x : Entry) (n : Node) → e ≡ get_or es i e → x.path ≡ e.path → node_in x.inode ≡ n → node_rows (set es i x) ≡ put_node p n nodes
  is_set e x n is same kind = sym (set_in e x is same) ∙ (λ j. put_node p (kind j) (view j))

  pub set_in_order : (e x : Entry) → e ≡ get_or es i e → x.path ≡ e.path → in_order (set es i x) ≡ true
  set_in_order e x is same = is_sorted-put_here names_cmp_total node_row p (node_in x.inode) es (set es i x) (set_in e x is same) ordered

  -- the node that is found is the one there
  stood : (e : Entry) → e ≡ get_or es i e → find_node nodes p ≡ Some (node_in e.inode)
  stood e is =
      let there = stands_there e in
      ap (λ rows. find_node rows p) (sym view)
      ∙ find_here names_cmp_total node_row p es i e there.0 (drop_more es i e there.0 ∙ ap (λ y. y ∷ drop (i + 1) es) (sym is)) before_here (ap (λ y. eq_by_cmp path_cmp p y.path) is ∙ there.1)

  some_is : {X : Type 0} (a b : X) → Some a ≡ Some b → a ≡ b
  some_is a b h = ap (λ o. unwrap_or o a) h

  -- a node with its number leaves the numbers
  pub set_differs : (e x : Entry) → e ≡ get_or es i e → file_id (node_in x.inode) ≡ id → all_differ (ids_of (node_rows es)) ≡ true → all_differ (ids_of (node_rows (set es i x))) ≡ true
  set_differs e x is same apart =
      let was : file_id (node_in e.inode) ≡ id = some_is (file_id (node_in e.inode)) id (ap (option_map file_id) (sym (stood e is)) ∙ found) in
      ap all_differ (set_ids es i e x is (same ∙ sym was)) ∙ apart

  -- and a file that is set is the one with its number
  pub is_changed : (e x : Entry) (n : Node) (f : File) (change : File → File) → e ≡ get_or es i e → x.path ≡ e.path → node_in x.inode ≡ n → all_differ (ids_of (node_rows es)) ≡ true → find_node nodes p ≡ Some (Node.IsFile f) → n ≡ Node.IsFile (change f)
      → node_rows (set es i x) ≡ file_changed f.id change nodes
  is_changed e x n f change is path kind apart at to =
      let was : node_in e.inode ≡ Node.IsFile f = some_is (node_in e.inode) (Node.IsFile f) (sym (stood e is) ∙ at) in
      set_changes f change es i e x (stands_there e).0 apart is was path (kind ∙ to) ∙ ap (file_changed f.id change) view
