-- Rows of nodes in the order of their paths: what a row finds before it, and what comes last.
use Rattle.std.proofs.Common.{◌≡◌, ℕ, Bool, true, false, cond, not, List, [], ◌∷◌, ◌++◌, map, Option, Some, None, find, nat_eq, refl, ap, ◌∙◌}
use Rattle.std.specs.declared.cmp.Ordering.TheVariants.{Less, Greater}
use Rattle.std.specs.Ordering.{is_lt, is_eq, ordering_reverse, ordering_then}
use Rattle.std.specs.List.{list_all}
use Rattle.std.specs.Cmp.{tied_itself}
use Rattle.std.specs.Cmp.Lexicographic.{nat_list_cmp_total}
use Rattle.std.specs.FinMap.Entries.{by_order, below_all, is_sorted}
use Rattle.std.proofs.lemmas.Bool.{and_parts}
use Rattle.fs_model.specs.declared.path.Path.{Path}
use Rattle.fs_model.specs.Equal.{names_cmp_total}
use Rattle.fs_model.specs.Words.{path_cmp, path_lt, parts}
use Rattle.fs_model.specs.State.{Node, NodeRow, File}
use Rattle.fs_model.specs.Lookups.{Walk, find_node, walk_part, walk_along, walk_above, id_is}
use Rattle.fs_model.specs.Changes.{put_node}
use Rattle.inode_tree.specs.Rows.{file_id, ids_of, differ, all_differ}
use Rattle.inode_tree.proofs.Rising.{less}
use Rattle.inode_tree.proofs.Numbers.{both}

-- a row of the list passes a test that all pass
pub all_here : {X : Type 0} (test : X → Bool) (front : List X) (x : X) (rest : List X) → list_all test (front ++ x ∷ rest) ≡ true → test x ≡ true
all_here test [] x rest h = (and_parts (test x) (list_all test rest) h).0
all_here test (e ∷ front) x rest h = all_here test front x rest (and_parts (test e) (list_all test (front ++ x ∷ rest)) h).1

-- a key before a list is before each row of it
below_here : (k : Path) (front : List NodeRow) (r : NodeRow) (rest : List NodeRow) → below_all path_cmp k (front ++ r ∷ rest) ≡ true → path_cmp k r.0 ≡ Less
below_here k [] r rest h = less _ (and_parts (is_lt (path_cmp k r.0)) (below_all path_cmp k rest) h).0
below_here k (e ∷ front) r rest h = below_here k front r rest (and_parts (is_lt (path_cmp k e.0)) (below_all path_cmp k (front ++ r ∷ rest)) h).1

-- the other way round
greater : (k q : Path) → path_cmp k q ≡ Less → path_cmp q k ≡ Greater
greater k q h = names_cmp_total.antisymm q k ∙ ap ordering_reverse h

-- a row that stands last goes last
pub put_last : (front : List NodeRow) (p : Path) (n : Node) (rest : List NodeRow) → is_sorted path_cmp (front ++ (p, n) ∷ rest) ≡ true → put_node p n front ≡ front ++ (p, n) ∷ []
put_last [] p n rest h = refl
put_last (e ∷ front) p n rest h =
    let split = and_parts (below_all path_cmp e.0 (front ++ (p, n) ∷ rest)) (is_sorted path_cmp (front ++ (p, n) ∷ rest)) h in
    ap (λ r. by_order r ((p, n) ∷ e ∷ front) ((e.0, n) ∷ front) (e ∷ put_node p n front)) (greater e.0 p (below_here e.0 front (p, n) rest split.0))
    ∙ ap (λ rows. e ∷ rows) (put_last front p n rest split.1)

-- it isn't found before it
pub not_before : (front : List NodeRow) (p : Path) (n : Node) (rest : List NodeRow) → is_sorted path_cmp (front ++ (p, n) ∷ rest) ≡ true → find_node front p ≡ None
not_before [] p n rest h = refl
not_before (e ∷ front) p n rest h =
    let split = and_parts (below_all path_cmp e.0 (front ++ (p, n) ∷ rest)) (is_sorted path_cmp (front ++ (p, n) ∷ rest)) h in
    ap (λ r. cond (is_eq r) (Some e.1) (find_node front p)) (greater e.0 p (below_here e.0 front (p, n) rest split.0))
    ∙ not_before front p n rest split.1

-- what is before a key that is before a list is before that list
pub below_more : (x y : Path) (rows : List NodeRow) → path_cmp x y ≡ Less → below_all path_cmp y rows ≡ true → below_all path_cmp x rows ≡ true
below_more x y [] lower h = refl
below_more x y (e ∷ rows) lower h =
    let split = and_parts (is_lt (path_cmp y e.0)) (below_all path_cmp y rows) h in
    both (is_lt (path_cmp x e.0)) (below_all path_cmp x rows) (ap is_lt (names_cmp_total.trans x y e.0 lower (less _ split.0))) (below_more x y rows lower split.1)

-- and isn't found in it
pub none_above : (q : Path) (rows : List NodeRow) → below_all path_cmp q rows ≡ true → find_node rows q ≡ None
none_above q [] h = refl
none_above q (e ∷ rows) h =
    let split = and_parts (is_lt (path_cmp q e.0)) (below_all path_cmp q rows) h in
    ap (λ r. cond (is_eq r) (Some e.1) (find_node rows q)) (less _ split.0) ∙ none_above q rows split.1

-- what is before a row is found before it, or not at all
found_before : (q : Path) (front : List NodeRow) (r : NodeRow) (rest : List NodeRow) → is_sorted path_cmp (front ++ r ∷ rest) ≡ true → path_cmp q r.0 ≡ Less → find_node (front ++ r ∷ rest) q ≡ find_node front q
found_before q [] r rest h lower =
    let split = and_parts (below_all path_cmp r.0 rest) (is_sorted path_cmp rest) h in
    ap (λ o. cond (is_eq o) (Some r.1) (find_node rest q)) lower ∙ none_above q rest (below_more q r.0 rest lower split.0)
found_before q (e ∷ front) r rest h lower =
    let split = and_parts (below_all path_cmp e.0 (front ++ r ∷ rest)) (is_sorted path_cmp (front ++ r ∷ rest)) h in
    ap (cond (is_eq (path_cmp q e.0)) (Some e.1)) (found_before q front r rest split.1 lower)

-- ---- the proper prefixes of a path

-- they come before it
under_name : (x : List ℕ) (xs : Path) (ps : List Path) → list_all (λ q. path_lt q xs) ps ≡ true → list_all (λ q. path_lt q (x ∷ xs)) (map (λ q. x ∷ q) ps) ≡ true
under_name x xs [] h = refl
under_name x xs (q ∷ ps) h =
    let split = and_parts (path_lt q xs) (list_all (λ p. path_lt p xs) ps) h in
    both (path_lt (x ∷ q) (x ∷ xs)) (list_all (λ p. path_lt p (x ∷ xs)) (map (λ p. x ∷ p) ps))
    (ap (λ o. is_lt (ordering_then o (path_cmp q xs))) (tied_itself nat_list_cmp_total x) ∙ split.0) (under_name x xs ps split.1)

pub parts_before : (p : Path) → list_all (λ q. path_lt q p) (parts p) ≡ true
parts_before [] = refl
parts_before (x ∷ xs) = under_name x xs (parts xs) (parts_before xs)

-- so a walk to a row's path meets what stands before it
walk_before : (front : List NodeRow) (r : NodeRow) (rest : List NodeRow) (ps : List Path) (w : Walk) → is_sorted path_cmp (front ++ r ∷ rest) ≡ true → list_all (λ q. path_lt q r.0) ps ≡ true → walk_along (front ++ r ∷ rest) ps w ≡ walk_along front ps w
walk_before front r rest [] w h lower = refl
walk_before front r rest (q ∷ ps) w h lower =
    let split = and_parts (path_lt q r.0) (list_all (λ p. path_lt p r.0) ps) lower in
    λ i. walk_part (found_before q front r rest h (less _ split.0) i) (walk_before front r rest ps w h split.1 i)

pub walks_before : (front : List NodeRow) (p : Path) (n : Node) (rest : List NodeRow) → is_sorted path_cmp (front ++ (p, n) ∷ rest) ≡ true → walk_above (front ++ (p, n) ∷ rest) p ≡ walk_above front p
walks_before front p n rest h = walk_before front (p, n) rest (parts p) (Walk.Found Node.Directory) h (parts_before p)

-- ---- numbers of files

other : (id : ℕ) (n : Node) → differ (file_id n) (Some id) ≡ true → id_is id n ≡ false
other id Node.Directory h = refl
other id (Node.IsFile g) h = is_no (nat_eq g.id id) h
  where
    is_no : (b : Bool) → not b ≡ true → b ≡ false
    is_no true k = cc
    is_no false k = refl

differs_here : (a : Option ℕ) (front : List NodeRow) (r : NodeRow) (rest : List NodeRow) → list_all (differ a) (ids_of (front ++ r ∷ rest)) ≡ true → differ a (file_id r.1) ≡ true
differs_here a [] r rest h = (and_parts (differ a (file_id r.1)) (list_all (differ a) (ids_of rest)) h).0
differs_here a (e ∷ front) r rest h = differs_here a front r rest (and_parts (differ a (file_id e.1)) (list_all (differ a) (ids_of (front ++ r ∷ rest))) h).1

-- no file before a file has its number
pub new_behind : (front : List NodeRow) (p : Path) (f : File) (rest : List NodeRow) → all_differ (ids_of (front ++ (p, Node.IsFile f) ∷ rest)) ≡ true → find (λ (r : NodeRow). id_is f.id r.1) front ≡ None
new_behind [] p f rest h = refl
new_behind (e ∷ front) p f rest h =
    let split = and_parts (list_all (differ (file_id e.1)) (ids_of (front ++ (p, Node.IsFile f) ∷ rest))) (all_differ (ids_of (front ++ (p, Node.IsFile f) ∷ rest))) h in
    ap (λ b. cond b (Some e) (find (λ (r : NodeRow). id_is f.id r.1) front)) (other f.id e.1 (differs_here (file_id e.1) front (p, Node.IsFile f) rest split.0))
    ∙ new_behind front p f rest split.1
