-- The file with a number stands at its path.
use Rattle.std.proofs.Common.{◌≡◌, ℕ, Bool, true, false, cond, List, [], ◌∷◌, Some, Ordering, refl, sym, ap, ◌∙◌, subst}
use Rattle.std.specs.declared.cmp.Ordering.TheVariants.{Less, Equal, Greater}
use Rattle.std.specs.Ordering.{is_eq, ordering_reverse}
use Rattle.std.specs.FinMap.Entries.{below_all, is_sorted}
use Rattle.std.proofs.lemmas.Bool.{and_parts}
use Rattle.std.proofs.lemmas.Option.{same_Some}
use Rattle.fs_model.specs.Equal.{names_cmp_total}
use Rattle.fs_model.specs.Words.{path_cmp}
use Rattle.fs_model.specs.State.{NodeRow}
use Rattle.fs_model.specs.Lookups.{find_node, id_is}
use Rattle.std.specs.Prelude.{option_map}
use Rattle.fs_model.specs.declared.path.Path.{Path}
use Rattle.inode_tree.specs.Rows.{file_row}
use Rattle.inode_tree.specs.declared.entry.Entry.{Entry}
use Rattle.inode_tree.specs.Entries.{node_in, node_row, node_rows, in_order}
use Rattle.inode_tree.proofs.Rising.{less}

level : (r : Ordering) → r ≡ ordering_reverse r → is_eq r ≡ true
level Less h = cc
level Equal h = refl
level Greater h = cc

-- a path that comes first is before those of the files behind it
below_file : (k : NodeRow) (nodes : List NodeRow) (id : ℕ) (r : NodeRow) → below_all path_cmp k.0 nodes ≡ true → file_row nodes id ≡ Some r → path_cmp k.0 r.0 ≡ Less
below_file k [] id r below is = absurd (cc)
below_file k (e ∷ es) id r below is = by_test (below_file k es id r (and_parts _ _ below).1) (id_is id e.1) is
  where
    by_test : (file_row es id ≡ Some r → path_cmp k.0 r.0 ≡ Less) → (b : Bool) → cond b (Some e) (file_row es id) ≡ Some r → path_cmp k.0 r.0 ≡ Less
    by_test behind true here = ap (λ (q : NodeRow). path_cmp k.0 q.0) (sym (same_Some e r here)) ∙ less _ (and_parts _ _ below).0
    by_test behind false later = behind later

-- where the paths rise, a file is found at its path
pub file_found : (nodes : List NodeRow) (id : ℕ) (r : NodeRow) → is_sorted path_cmp nodes ≡ true → file_row nodes id ≡ Some r → find_node nodes r.0 ≡ Some r.1
file_found [] id r sorted is = absurd (cc)
file_found (e ∷ es) id r sorted is = by_test (file_found es id r (and_parts _ _ sorted).1) (id_is id e.1) is
  where
    by_test : (file_row es id ≡ Some r → find_node es r.0 ≡ Some r.1) → (b : Bool) → cond b (Some e) (file_row es id) ≡ Some r → find_node (e ∷ es) r.0 ≡ Some r.1
    by_test behind true here = subst (λ (q : NodeRow). find_node (e ∷ es) q.0 ≡ Some q.1) (same_Some e r here)
        (ap (λ b. cond b (Some e.1) (find_node es e.0)) (level (path_cmp e.0 e.0) (names_cmp_total.antisymm e.0 e.0)))
    by_test behind false later =
        let turned : path_cmp r.0 e.0 ≡ Greater = names_cmp_total.antisymm r.0 e.0 ∙ ap ordering_reverse (below_file e es id r (and_parts _ _ sorted).0 later) in
        ap (λ o. cond (is_eq o) (Some e.1) (find_node es r.0)) turned ∙ behind later

-- so it is with the entry of a file's number and a copy of its path
pub file_at : (es : List Entry) (nodes : List NodeRow) (id : ℕ) (e : Entry) (p : Path) → in_order es ≡ true → node_rows es ≡ nodes → Some (node_row e) ≡ file_row (node_rows es) id → p ≡ e.path → find_node nodes p ≡ option_map (λ (r : NodeRow). r.1) (file_row nodes id)
file_at es nodes id e p ordered view there named =
    let found : find_node (node_rows es) e.path ≡ Some (node_in e.inode) = file_found (node_rows es) id (node_row e) ordered (sym there) in
    subst (λ rows. find_node rows p ≡ option_map (λ (r : NodeRow). r.1) (file_row rows id)) view (ap (find_node (node_rows es)) named ∙ found ∙ ap (option_map (λ (r : NodeRow). r.1)) there)
