-- A file's row in place of that of the file with its number.
use Rattle.std.proofs.Common.{◌≡◌, ℕ, Bool, true, false, cond, ◌&&◌, List, [], ◌∷◌, ◌++◌, length, take, drop, Some, nat_eq, refl, sym, ap, ◌∙◌, subst, arith}
use Rattle.std.specs.Ordering.{is_lt}
use Rattle.std.specs.List.{list_all}
use Rattle.std.specs.FinMap.Entries.{below_all, is_sorted}
use Rattle.std.proofs.lemmas.Bool.{and_parts}
use Rattle.std.proofs.lemmas.List.{take_at}
use Rattle.std.proofs.lemmas.Option.{same_Some}
use Rattle.fs_model.specs.declared.path.Path.{Path}
use Rattle.fs_model.specs.Words.{path_cmp}
use Rattle.fs_model.specs.State.{Node, File, NodeRow}
use Rattle.fs_model.specs.Lookups.{id_is}
use Rattle.fs_model.specs.Changes.{set_file}
use Rattle.inode_tree.specs.declared.entry.Entry.{Entry}
use Rattle.inode_tree.specs.Entries.{node_rows, in_order}
use Rattle.inode_tree.specs.Rows.{file_id, file_row, file_changed, ids_of, differ, all_differ}
use Rattle.inode_tree.proofs.Numbers.{others_stay}

same_number : (m n : ℕ) → nat_eq m n ≡ true → m ≡ n
same_number m n h = grind (arith, h)

module _ (g : File) where
  below_set : (k : Path) (rows : List NodeRow) → below_all path_cmp k (file_changed g.id (λ f. g) rows) ≡ below_all path_cmp k rows
  below_set k [] = refl
  below_set k (r ∷ rows) = ap (λ b. is_lt (path_cmp k r.0) && b) (below_set k rows)

  sorted_set : (rows : List NodeRow) → is_sorted path_cmp (file_changed g.id (λ f. g) rows) ≡ is_sorted path_cmp rows
  sorted_set [] = refl
  sorted_set (r ∷ rows) = λ i. below_set r.0 rows i && sorted_set rows i

  id_set : (n : Node) → file_id (cond (id_is g.id n) (set_file (λ f. g) n) n) ≡ file_id n
  id_set Node.Directory = refl
  id_set (Node.IsFile f) = by_test (nat_eq f.id g.id) refl
    where
      by_test : (b : Bool) → nat_eq f.id g.id ≡ b → file_id (cond b (Node.IsFile g) (Node.IsFile f)) ≡ Some f.id
      by_test true same = ap (λ n. Some n) (sym (same_number f.id g.id same))
      by_test false same = refl

  ids_set : (rows : List NodeRow) → ids_of (file_changed g.id (λ f. g) rows) ≡ ids_of rows
  ids_set [] = refl
  ids_set (r ∷ rows) = λ i. id_set r.1 i ∷ ids_set rows i

  -- of the file that is there it is a change
  pub is_change : (rows : List NodeRow) (r : NodeRow) (f : File) (change : File → File) → all_differ (ids_of rows) ≡ true → file_row rows g.id ≡ Some r → r.1 ≡ Node.IsFile f → g ≡ change f → file_changed g.id (λ x. g) rows ≡ file_changed g.id change rows
  is_change [] r f change apart there file is = absurd (cc)
  is_change ((p, n) ∷ rows) r f change apart there file is =
      let parts = and_parts (list_all (differ (file_id n)) (ids_of rows)) (all_differ (ids_of rows)) apart in
      by_test (id_is g.id n) refl parts.0 (is_change rows r f change parts.1) there
    where
      by_test : (b : Bool) → id_is g.id n ≡ b → list_all (differ (file_id n)) (ids_of rows) ≡ true → (file_row rows g.id ≡ Some r → r.1 ≡ Node.IsFile f → g ≡ change f → file_changed g.id (λ x. g) rows ≡ file_changed g.id change rows)
          → cond b (Some (p, n)) (file_row rows g.id) ≡ Some r → (p, cond b (set_file (λ x. g) n) n) ∷ file_changed g.id (λ x. g) rows ≡ (p, cond b (set_file change n) n) ∷ file_changed g.id change rows
      by_test false at apart behind here = ap (λ rest. (p, n) ∷ rest) (behind here file is)
      by_test true at apart behind here =
          let node : n ≡ Node.IsFile f = ap (λ (q : NodeRow). q.1) (same_Some (p, n) r here) ∙ file in
          let number : f.id ≡ g.id = same_number f.id g.id (ap (id_is g.id) (sym node) ∙ at) in
          let others : list_all (differ (Some g.id)) (ids_of rows) ≡ true = subst (λ k. list_all (differ (Some k)) (ids_of rows) ≡ true) number (ap (λ m. list_all (differ (file_id m)) (ids_of rows)) (sym node) ∙ apart) in
          let set : set_file (λ x. g) n ≡ set_file change n = ap (set_file (λ x. g)) node ∙ ap (λ x. Node.IsFile x) is ∙ sym (ap (set_file change) node) in
          λ i. (p, set i) ∷ (others_stay g (λ x. g) rows others ∙ sym (others_stay g change rows others)) i

  -- what a slice of all entries leaves of them
  pub is_made : (es ds xs : List Entry) (n : ℕ) → ds ≡ es → length xs ≡ n → node_rows xs ≡ file_changed g.id (λ f. g) (node_rows ds) → node_rows (take n (xs ++ drop (length xs) es)) ≡ file_changed g.id (λ f. g) (node_rows es)
  is_made es ds xs n read long set =
      ap node_rows (take_at xs (drop (length xs) es) n long)
      ∙ set
      ∙ ap (λ zs. file_changed g.id (λ f. g) (node_rows zs)) read

  -- the entries afterwards
  module _ (es ys : List Entry) (made : node_rows ys ≡ file_changed g.id (λ f. g) (node_rows es)) where
    pub set_stays_in_order : in_order es ≡ true → in_order ys ≡ true
    set_stays_in_order ordered = ap (is_sorted path_cmp) made ∙ sorted_set (node_rows es) ∙ ordered

    pub set_still_differs : all_differ (ids_of (node_rows es)) ≡ true → all_differ (ids_of (node_rows ys)) ≡ true
    set_still_differs apart = ap (λ rows. all_differ (ids_of rows)) made ∙ ap all_differ (ids_set (node_rows es)) ∙ apart
