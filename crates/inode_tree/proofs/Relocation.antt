-- Nodes under another path: no two files have one number, and there is room for all.
use Rattle.std.proofs.Common.{◌≡◌, ℕ, ◌+◌, Bool, true, false, cond, not, List, [], ◌∷◌, ◌++◌, map, length, drop, suc, Option, refl, ap, ◌∙◌, arith}
use Rattle.std.specs.declared.cmp.Ordering.TheVariants.{Less, Equal, Greater}
use Rattle.std.specs.List.{list_all}
use Rattle.std.specs.FinMap.Entries.{by_order}
use Rattle.std.proofs.lemmas.Bool.{and_parts}
use Rattle.fs_model.specs.declared.path.Path.{Path}
use Rattle.fs_model.specs.State.{Node, NodeRow}
use Rattle.fs_model.specs.Words.{path_cmp, under}
use Rattle.fs_model.specs.Changes.{put_node, keep_nodes, moved_rows}
use Rattle.inode_tree.specs.declared.entry.Entry.{Entry}
use Rattle.inode_tree.specs.Entries.{node_row, node_rows}
use Rattle.inode_tree.specs.Rows.{file_id, ids_of, differ, all_differ, put_all, relocated}
use Rattle.inode_tree.proofs.Numbers.{both, turned}

-- ---- a row is put

ids_put : (test : Option ℕ → Bool) (p : Path) (n : Node) (rows : List NodeRow) → test (file_id n) ≡ true → list_all test (ids_of rows) ≡ true → list_all test (ids_of (put_node p n rows)) ≡ true
ids_put test p n [] here all = both (test (file_id n)) true here refl
ids_put test p n (e ∷ es) here all =
    let split = and_parts (test (file_id e.1)) (list_all test (ids_of es)) all in
    elim (path_cmp p e.0) as (λ r. list_all test (ids_of (by_order r ((p, n) ∷ e ∷ es) ((e.0, n) ∷ es) (e ∷ put_node p n es))) ≡ true) [
      | Less ↦ both (test (file_id n)) (list_all test (ids_of (e ∷ es))) here all
      | Equal ↦ both (test (file_id n)) (list_all test (ids_of es)) here split.1
      | Greater ↦ both (test (file_id e.1)) (list_all test (ids_of (put_node p n es))) split.0 (ids_put test p n es here split.1)
    ]

differ_put : (p : Path) (n : Node) (rows : List NodeRow) → list_all (differ (file_id n)) (ids_of rows) ≡ true → all_differ (ids_of rows) ≡ true → all_differ (ids_of (put_node p n rows)) ≡ true
differ_put p n [] new apart = refl
differ_put p n (e ∷ es) new apart =
    let split = and_parts (list_all (differ (file_id e.1)) (ids_of es)) (all_differ (ids_of es)) apart in
    let news = and_parts (differ (file_id n) (file_id e.1)) (list_all (differ (file_id n)) (ids_of es)) new in
    elim (path_cmp p e.0) as (λ r. all_differ (ids_of (by_order r ((p, n) ∷ e ∷ es) ((e.0, n) ∷ es) (e ∷ put_node p n es))) ≡ true) [
      | Less ↦ both (list_all (differ (file_id n)) (ids_of (e ∷ es))) (all_differ (ids_of (e ∷ es))) new apart
      | Equal ↦ both (list_all (differ (file_id n)) (ids_of es)) (all_differ (ids_of es)) news.1 split.1
      | Greater ↦ both (list_all (differ (file_id e.1)) (ids_of (put_node p n es))) (all_differ (ids_of (put_node p n es)))
          (ids_put (differ (file_id e.1)) p n es (turned (file_id e.1) (file_id n) ∙ news.0) split.0)
          (differ_put p n es news.1 split.1)
    ]

-- ---- rows are put, one after the other

all_behind : (test : Option ℕ → Bool) (p : Path) (n : Node) (rest rows : List NodeRow) → test (file_id n) ≡ true → list_all test (ids_of (rest ++ rows)) ≡ true → list_all test (ids_of (rest ++ put_node p n rows)) ≡ true
all_behind test p n [] rows here all = ids_put test p n rows here all
all_behind test p n (s ∷ rest) rows here all =
    let split = and_parts (test (file_id s.1)) (list_all test (ids_of (rest ++ rows))) all in
    both (test (file_id s.1)) (list_all test (ids_of (rest ++ put_node p n rows))) split.0 (all_behind test p n rest rows here split.1)

put_behind : (p : Path) (n : Node) (rest rows : List NodeRow) → list_all (differ (file_id n)) (ids_of (rest ++ rows)) ≡ true → all_differ (ids_of (rest ++ rows)) ≡ true → all_differ (ids_of (rest ++ put_node p n rows)) ≡ true
put_behind p n [] rows new apart = differ_put p n rows new apart
put_behind p n (s ∷ rest) rows new apart =
    let news = and_parts (differ (file_id n) (file_id s.1)) (list_all (differ (file_id n)) (ids_of (rest ++ rows))) new in
    let split = and_parts (list_all (differ (file_id s.1)) (ids_of (rest ++ rows))) (all_differ (ids_of (rest ++ rows))) apart in
    both (list_all (differ (file_id s.1)) (ids_of (rest ++ put_node p n rows))) (all_differ (ids_of (rest ++ put_node p n rows)))
    (all_behind (differ (file_id s.1)) p n rest rows (turned (file_id s.1) (file_id n) ∙ news.0) split.0)
    (put_behind p n rest rows news.1 split.1)

differ_puts : (rest rows : List NodeRow) → all_differ (ids_of (rest ++ rows)) ≡ true → all_differ (ids_of (put_all rest rows)) ≡ true
differ_puts [] rows apart = apart
differ_puts ((p, n) ∷ rest) rows apart =
    let split = and_parts (list_all (differ (file_id n)) (ids_of (rest ++ rows))) (all_differ (ids_of (rest ++ rows))) apart in
    differ_puts rest (put_node p n rows) (put_behind p n rest rows split.0 split.1)

-- ---- the rows that move, and those that stay

within_all : (pass : Option ℕ → Bool) (xs ys : List NodeRow) (s : NodeRow) → pass (file_id s.1) ≡ true → list_all pass (ids_of (xs ++ ys)) ≡ true → list_all pass (ids_of (xs ++ s ∷ ys)) ≡ true
within_all pass [] ys s here h = both (pass (file_id s.1)) (list_all pass (ids_of ys)) here h
within_all pass (x ∷ xs) ys s here h =
    let parts = and_parts (pass (file_id x.1)) (list_all pass (ids_of (xs ++ ys))) h in
    both (pass (file_id x.1)) (list_all pass (ids_of (xs ++ s ∷ ys))) parts.0 (within_all pass xs ys s here parts.1)

all_parted : (pass : Option ℕ → Bool) (test : Path → Bool) (rows : List NodeRow) → list_all pass (ids_of rows) ≡ true → list_all pass (ids_of (keep_nodes test rows ++ keep_nodes (λ x. not (test x)) rows)) ≡ true
all_parted pass test [] all = refl
all_parted pass test (r ∷ rows) all =
    let split = and_parts (pass (file_id r.1)) (list_all pass (ids_of rows)) all in
    let rest = all_parted pass test rows split.1 in
    elim (test r.0) as (λ b. list_all pass (ids_of (cond b (r ∷ keep_nodes test rows) (keep_nodes test rows) ++ cond (not b) (r ∷ keep_nodes (λ x. not (test x)) rows) (keep_nodes (λ x. not (test x)) rows))) ≡ true) [
      | true ↦ both (pass (file_id r.1)) (list_all pass (ids_of (keep_nodes test rows ++ keep_nodes (λ x. not (test x)) rows))) split.0 rest
      | false ↦ within_all pass (keep_nodes test rows) (keep_nodes (λ x. not (test x)) rows) r split.0 rest
    ]

differ_within : (xs ys : List NodeRow) (s : NodeRow) → list_all (differ (file_id s.1)) (ids_of (xs ++ ys)) ≡ true → all_differ (ids_of (xs ++ ys)) ≡ true → all_differ (ids_of (xs ++ s ∷ ys)) ≡ true
differ_within [] ys s new apart = both (list_all (differ (file_id s.1)) (ids_of ys)) (all_differ (ids_of ys)) new apart
differ_within (x ∷ xs) ys s new apart =
    let news = and_parts (differ (file_id s.1) (file_id x.1)) (list_all (differ (file_id s.1)) (ids_of (xs ++ ys))) new in
    let split = and_parts (list_all (differ (file_id x.1)) (ids_of (xs ++ ys))) (all_differ (ids_of (xs ++ ys))) apart in
    both (list_all (differ (file_id x.1)) (ids_of (xs ++ s ∷ ys))) (all_differ (ids_of (xs ++ s ∷ ys)))
    (within_all (differ (file_id x.1)) xs ys s (turned (file_id x.1) (file_id s.1) ∙ news.0) split.0)
    (differ_within xs ys s news.1 split.1)

differ_parted : (test : Path → Bool) (rows : List NodeRow) → all_differ (ids_of rows) ≡ true → all_differ (ids_of (keep_nodes test rows ++ keep_nodes (λ x. not (test x)) rows)) ≡ true
differ_parted test [] apart = refl
differ_parted test (r ∷ rows) apart =
    let split = and_parts (list_all (differ (file_id r.1)) (ids_of rows)) (all_differ (ids_of rows)) apart in
    let new = all_parted (differ (file_id r.1)) test rows split.0 in
    let rest = differ_parted test rows split.1 in
    elim (test r.0) as (λ b. all_differ (ids_of (cond b (r ∷ keep_nodes test rows) (keep_nodes test rows) ++ cond (not b) (r ∷ keep_nodes (λ x. not (test x)) rows) (keep_nodes (λ x. not (test x)) rows))) ≡ true) [
      | true ↦ both (list_all (differ (file_id r.1)) (ids_of (keep_nodes test rows ++ keep_nodes (λ x. not (test x)) rows))) (all_differ (ids_of (keep_nodes test rows ++ keep_nodes (λ x. not (test x)) rows))) new rest
      | false ↦ differ_within (keep_nodes test rows) (keep_nodes (λ x. not (test x)) rows) r new rest
    ]

-- a row that moves keeps its number
same_ids : (change : Path → Path) (xs ys : List NodeRow) → ids_of (map (λ (r : NodeRow). (change r.0, r.1)) xs ++ ys) ≡ ids_of (xs ++ ys)
same_ids change [] ys = refl
same_ids change (x ∷ xs) ys = ap (λ ids. file_id x.1 ∷ ids) (same_ids change xs ys)

-- no two files have one number afterwards
pub relocated_differ : (p q : Path) (nodes : List NodeRow) → all_differ (ids_of nodes) ≡ true → all_differ (ids_of (relocated p q nodes)) ≡ true
relocated_differ p q nodes apart =
    differ_puts (moved_rows p q nodes) (keep_nodes (λ x. not (under x p)) nodes)
    (ap all_differ (same_ids (λ x. q ++ drop (length p) x) (keep_nodes (λ x. under x p) nodes) (keep_nodes (λ x. not (under x p)) nodes)) ∙ differ_parted (λ x. under x p) nodes apart)

-- ---- room

length_parted : (test : Path → Bool) (rows : List NodeRow) → length (keep_nodes test rows) + length (keep_nodes (λ x. not (test x)) rows) ≡ length rows
length_parted test [] = refl
length_parted test (r ∷ rows) =
    let rest = length_parted test rows in
    elim (test r.0) as (λ b. length (cond b (r ∷ keep_nodes test rows) (keep_nodes test rows)) + length (cond (not b) (r ∷ keep_nodes (λ x. not (test x)) rows) (keep_nodes (λ x. not (test x)) rows)) ≡ suc (length rows)) [
      | true ↦ omega (arith, rest)
      | false ↦ omega (arith, rest)
    ]

length_map : {X Y : Type 0} (f : X → Y) (xs : List X) → length (map f xs) ≡ length xs
length_map f [] = refl
length_map f (x ∷ xs) = ap suc (length_map f xs)

-- as many move as go
pub moved_and_kept : (p q : Path) (nodes : List NodeRow) → length (moved_rows p q nodes) + length (keep_nodes (λ x. not (under x p)) nodes) ≡ length nodes
moved_and_kept p q nodes =
    ap (λ n. n + length (keep_nodes (λ x. not (under x p)) nodes)) (length_map (λ (r : NodeRow). (q ++ drop (length p) r.0, r.1)) (keep_nodes (λ x. under x p) nodes))
    ∙ length_parted (λ x. under x p) nodes

pub length-node_rows : (es : List Entry) → length (node_rows es) ≡ length es
length-node_rows es = length_map node_row es
