-- No two files have one number: how rows change without two having one, and which row a change of a file meets.
use Rattle.std.proofs.Common.{◌≡◌, ℕ, zero, suc, ◌<◌, ◌≤◌, Bool, true, false, cond, not, ◌&&◌, List, [], ◌∷◌, length, get_or, Option, Some, None, nat_eq, refl, sym, ap, ◌∙◌, subst, arith}
use Rattle.std.specs.Prelude.{set}
use Rattle.std.specs.List.{insert, list_all}
use Rattle.std.proofs.lemmas.Bool.{and_parts}
use Rattle.fs_model.specs.declared.path.Path.{Path}
use Rattle.fs_model.specs.State.{Node, File, NodeRow}
use Rattle.fs_model.specs.Lookups.{id_is}
use Rattle.fs_model.specs.Changes.{set_file}
use Rattle.inode_tree.specs.declared.entry.Entry.{Entry}
use Rattle.inode_tree.specs.Entries.{node_in, node_rows}
use Rattle.inode_tree.specs.Rows.{file_id, file_row, file_changed, ids_of, differ, all_differ, node_if}

pub both : (a b : Bool) → a ≡ true → b ≡ true → (a && b) ≡ true
both true b h k = k
both false b h k = h

-- ---- numbers that differ

eq_turned : (m n : ℕ) → nat_eq m n ≡ nat_eq n m
eq_turned m n = grind arith

eq_itself : (n : ℕ) → nat_eq n n ≡ true
eq_itself n = grind arith

pub turned : (a b : Option ℕ) → differ a b ≡ differ b a
turned None None = refl
turned None (Some n) = refl
turned (Some m) None = refl
turned (Some m) (Some n) = ap not (eq_turned m n)

directory_differs : (ids : List (Option ℕ)) → list_all (differ None) ids ≡ true
directory_differs [] = refl
directory_differs (a ∷ ids) = directory_differs ids

missed : (b : Bool) (r : NodeRow) (rest : Option NodeRow) → cond b (Some r) rest ≡ None → (b ≡ false) × (rest ≡ None)
missed true r rest h = cc
missed false r rest h = (refl, h)

other : (id : ℕ) (n : Node) → id_is id n ≡ false → differ (Some id) (file_id n) ≡ true
other id Node.Directory h = refl
other id (Node.IsFile f) h = ap not (eq_turned id f.id ∙ h)

-- a number that no file has
absent_differs : (id : ℕ) (nodes : List NodeRow) → file_row nodes id ≡ None → list_all (differ (Some id)) (ids_of nodes) ≡ true
absent_differs id [] h = refl
absent_differs id (r ∷ nodes) h =
    let parts = missed (id_is id r.1) r (file_row nodes id) h in
    both (differ (Some id) (file_id r.1)) (list_all (differ (Some id)) (ids_of nodes)) (other id r.1 parts.0) (absent_differs id nodes parts.1)

-- so a node that may come in has no number of another
pub new_differs : (dir : Bool) (f : File) (nodes : List NodeRow) → (dir ≡ false → file_row nodes f.id ≡ None) → list_all (differ (file_id (node_if dir f))) (ids_of nodes) ≡ true
new_differs true f nodes h = directory_differs (ids_of nodes)
new_differs false f nodes h = absent_differs f.id nodes (h refl)

-- ---- an entry comes in

all_insert : (test : Option ℕ → Bool) (es : List Entry) (i : ℕ) (x : Entry) → i ≤ length es → test (file_id (node_in x.inode)) ≡ true → list_all test (ids_of (node_rows es)) ≡ true → list_all test (ids_of (node_rows (insert es i x))) ≡ true
all_insert test es zero x le here all = both (test (file_id (node_in x.inode))) (list_all test (ids_of (node_rows es))) here all
all_insert test [] (suc i) x le here all = absurd (omega arith)
all_insert test (e ∷ es) (suc i) x le here all =
    let parts = and_parts (test (file_id (node_in e.inode))) (list_all test (ids_of (node_rows es))) all in
    both (test (file_id (node_in e.inode))) (list_all test (ids_of (node_rows (insert es i x)))) parts.0 (all_insert test es i x (omega arith) here parts.1)

pub insert_differs : (es : List Entry) (i : ℕ) (x : Entry) → i ≤ length es → list_all (differ (file_id (node_in x.inode))) (ids_of (node_rows es)) ≡ true → all_differ (ids_of (node_rows es)) ≡ true → all_differ (ids_of (node_rows (insert es i x))) ≡ true
insert_differs es zero x le new apart = both (list_all (differ (file_id (node_in x.inode))) (ids_of (node_rows es))) (all_differ (ids_of (node_rows es))) new apart
insert_differs [] (suc i) x le new apart = absurd (omega arith)
insert_differs (e ∷ es) (suc i) x le new apart =
    let here = file_id (node_in e.inode) in
    let mine = file_id (node_in x.inode) in
    let rest = and_parts (differ mine here) (list_all (differ mine) (ids_of (node_rows es))) new in
    let parts = and_parts (list_all (differ here) (ids_of (node_rows es))) (all_differ (ids_of (node_rows es))) apart in
    both (list_all (differ here) (ids_of (node_rows (insert es i x)))) (all_differ (ids_of (node_rows (insert es i x))))
    (all_insert (differ here) es i x (omega arith) (turned here mine ∙ rest.0) parts.0)
    (insert_differs es i x (omega arith) rest.1 parts.1)

-- ---- an entry is set

-- one with the same number leaves the numbers
pub set_ids : (es : List Entry) (i : ℕ) (e x : Entry) → e ≡ get_or es i e → file_id (node_in x.inode) ≡ file_id (node_in e.inode) → ids_of (node_rows (set es i x)) ≡ ids_of (node_rows es)
set_ids [] i e x is same = refl
set_ids (a ∷ es) zero e x is same = ap (λ n. n ∷ ids_of (node_rows es)) (same ∙ ap (λ (y : Entry). file_id (node_in y.inode)) is)
set_ids (a ∷ es) (suc i) e x is same = ap (λ ns. file_id (node_in a.inode) ∷ ns) (set_ids es i e x is same)

module _ (f : File) (change : File → File) where
  abbrev changed_row : NodeRow → NodeRow
  changed_row r = (r.0, cond (id_is f.id r.1) (set_file change r.1) r.1)

  -- a row of another number stays
  other_stays : (p : Path) (n : Node) → differ (Some f.id) (file_id n) ≡ true → changed_row (p, n) ≡ (p, n)
  other_stays p Node.Directory h = refl
  other_stays p (Node.IsFile g) h = ap (λ b. (p, cond b (Node.IsFile (change g)) (Node.IsFile g))) (is_no (nat_eq f.id g.id) (nat_eq g.id f.id) (eq_turned f.id g.id) h)
    where
      is_no : (a b : Bool) → a ≡ b → not a ≡ true → b ≡ false
      is_no true b e h = cc
      is_no false b e h = sym e

  pub others_stay : (rows : List NodeRow) → list_all (differ (Some f.id)) (ids_of rows) ≡ true → file_changed f.id change rows ≡ rows
  others_stay [] h = refl
  others_stay (r ∷ rows) h =
      let parts = and_parts (differ (Some f.id) (file_id r.1)) (list_all (differ (Some f.id)) (ids_of rows)) h in
      λ i. other_stays r.0 r.1 parts.0 i ∷ others_stay rows parts.1 i

  -- the row of the file
  this_changes : (p q : Path) (m n : Node) → q ≡ p → m ≡ Node.IsFile f → n ≡ Node.IsFile (change f) → (q, n) ≡ changed_row (p, m)
  this_changes p q m n path old new =
      (λ i. (path i, new i))
      ∙ sym (ap (λ b. (p, cond b (Node.IsFile (change f)) (Node.IsFile f))) (eq_itself f.id))
      ∙ ap (λ k. changed_row (p, k)) (sym old)

  -- what is at a place has the number that is sought, so what comes before has another
  at_place : (test : Option ℕ → Bool) (es : List Entry) (i : ℕ) (e : Entry) → i < length es → e ≡ get_or es i e → list_all test (ids_of (node_rows es)) ≡ true → test (file_id (node_in e.inode)) ≡ true
  at_place test [] i e lt is all = absurd (omega arith)
  at_place test (a ∷ es) zero e lt is all = ap (λ (y : Entry). test (file_id (node_in y.inode))) is ∙ (and_parts (test (file_id (node_in a.inode))) (list_all test (ids_of (node_rows es))) all).0
  at_place test (a ∷ es) (suc i) e lt is all = at_place test es i e (omega arith) is (and_parts (test (file_id (node_in a.inode))) (list_all test (ids_of (node_rows es))) all).1

  -- a file that is set is the one with its number
  pub set_changes : (es : List Entry) (i : ℕ) (e x : Entry) → i < length es → all_differ (ids_of (node_rows es)) ≡ true → e ≡ get_or es i e → node_in e.inode ≡ Node.IsFile f → x.path ≡ e.path → node_in x.inode ≡ Node.IsFile (change f) → node_rows (set es i x) ≡ file_changed f.id change (node_rows es)
  set_changes [] i e x lt apart is old path new = absurd (omega arith)
  set_changes (a ∷ es) zero e x lt apart is old path new =
      let parts = and_parts (list_all (differ (file_id (node_in a.inode))) (ids_of (node_rows es))) (all_differ (ids_of (node_rows es))) apart in
      let here : node_in a.inode ≡ Node.IsFile f = ap (λ (y : Entry). node_in y.inode) (sym is) ∙ old in
      let rest : list_all (differ (Some f.id)) (ids_of (node_rows es)) ≡ true = subst (λ n. list_all (differ (file_id n)) (ids_of (node_rows es)) ≡ true) here parts.0 in
      let row = this_changes a.path x.path (node_in a.inode) (node_in x.inode) (path ∙ ap (λ (y : Entry). y.path) is) here new in
      λ j. row j ∷ sym (others_stay (node_rows es) rest) j
  set_changes (a ∷ es) (suc i) e x lt apart is old path new =
      let parts = and_parts (list_all (differ (file_id (node_in a.inode))) (ids_of (node_rows es))) (all_differ (ids_of (node_rows es))) apart in
      let apart_here : differ (file_id (node_in a.inode)) (file_id (node_in e.inode)) ≡ true = at_place (differ (file_id (node_in a.inode))) es i e (omega arith) is parts.0 in
      let turn : differ (Some f.id) (file_id (node_in a.inode)) ≡ true = turned (Some f.id) (file_id (node_in a.inode)) ∙ ap (λ n. differ (file_id (node_in a.inode)) (file_id n)) (sym old) ∙ apart_here in
      λ j. sym (other_stays a.path (node_in a.inode) turn) j ∷ set_changes es i e x (omega arith) parts.1 is old path new j
