-- Plain names stay plain when a node comes in, and when next numbers rise.
use Rattle.std.proofs.Common.{◌≡◌, ℕ, ◌≤◌, Bool, true, false, cond, not, ◌&&◌, ◌||◌, ◌==◌, nat_lt, nat_le, nat_eq, List, [], ◌∷◌, Option, Some, None, is_some, Ordering, refl, sym, ap, ◌∙◌, arith}
use Rattle.std.specs.declared.cmp.Ordering.TheVariants.{Less, Equal, Greater}
use Rattle.std.specs.Ordering.{is_eq}
use Rattle.std.specs.List.{list_all}
use Rattle.std.specs.FinMap.Entries.{by_order, is_sorted-put, find-put, find_tied}
use Rattle.std.proofs.lemmas.Bool.{and_parts}
use Rattle.fs_model.specs.declared.path.Path.{Path}
use Rattle.fs_model.specs.Equal.{names_cmp_total}
use Rattle.fs_model.specs.Words.{path_cmp, path_len, parts}
use Rattle.fs_model.specs.State.{Names, Node, NodeRow}
use Rattle.fs_model.specs.Lookups.{Walk, find_node, walk_part, walk_along, walk_above, has_node, stored_is_yes}
use Rattle.fs_model.specs.Changes.{put_node}
use Rattle.journal_entry.specs.Fields.{is_file_id, is_next, is_no}
use Rattle.inode_tree.specs.Rows.{file_id, ids_of, differ, all_differ}
use Rattle.inode_tree.proofs.Rising.{passed, is_true}
use Rattle.inode_tree.proofs.Numbers.{both}
use Rattle.master_state.specs.Walks.{is_open, has_place}
use Rattle.master_state.specs.Plain.{IsPlain, is_plain_row, is_plain_node}

-- what each element passes, each passes that follows from it
pub all_weaken : {X : Type 0} (p q : X → Bool) → ((x : X) → p x ≡ true → q x ≡ true) → (xs : List X) → list_all p xs ≡ true → list_all q xs ≡ true
all_weaken p q weaker [] h = refl
all_weaken p q weaker (x ∷ xs) h =
    let split = and_parts (p x) (list_all p xs) h in
    both (q x) (list_all q xs) (weaker x split.0) (all_weaken p q weaker xs split.1)

tied : (r : Ordering) → is_eq r ≡ true → r ≡ Equal
tied Less h = cc
tied Equal h = refl
tied Greater h = cc

-- an absent path has no tie
no_tie : (p : Path) (e : NodeRow) (es : List NodeRow) → find_node (e ∷ es) p ≡ None → path_cmp p e.0 ≡ Equal → ⊥
no_tie p e es none tie = impossible (sym (ap (λ r. cond (is_eq r) (Some e.1) (find_node es p)) tie) ∙ none)
  where
    impossible : Some e.1 ≡ None → ⊥
    impossible h = cc

absent_behind : (p : Path) (e : NodeRow) (es : List NodeRow) → find_node (e ∷ es) p ≡ None → find_node es p ≡ None
absent_behind p e es none = by_test (is_eq (path_cmp p e.0)) none
  where
    by_test : (b : Bool) → cond b (Some e.1) (find_node es p) ≡ None → find_node es p ≡ None
    by_test true h = cc
    by_test false h = h

-- a test of all rows and of the new one
all_put : (test : NodeRow → Bool) (p : Path) (n : Node) (rows : List NodeRow) → find_node rows p ≡ None → test (p, n) ≡ true → list_all test rows ≡ true → list_all test (put_node p n rows) ≡ true
all_put test p n [] none here all = both (test (p, n)) true here refl
all_put test p n (e ∷ es) none here all =
    let split = and_parts (test e) (list_all test es) all in
    elim (path_cmp p e.0) as (λ r. path_cmp p e.0 ≡ r → list_all test (by_order r ((p, n) ∷ e ∷ es) ((e.0, n) ∷ es) (e ∷ put_node p n es)) ≡ true) [
      | Less ↦ λ is. both (test (p, n)) (list_all test (e ∷ es)) here all
      | Equal ↦ λ is. absurd (no_tie p e es none is)
      | Greater ↦ λ is. both (test e) (list_all test (put_node p n es)) split.0 (all_put test p n es (absent_behind p e es none) here split.1)
    ] refl

-- ---- numbers of files

turned : (a b : Option ℕ) → differ a b ≡ differ b a
turned None None = refl
turned None (Some n) = refl
turned (Some m) None = refl
turned (Some m) (Some n) = ap not (eq_turned m n)
  where
    eq_turned : (i j : ℕ) → nat_eq i j ≡ nat_eq j i
    eq_turned i j = grind arith

ids_put : (test : Option ℕ → Bool) (p : Path) (n : Node) (rows : List NodeRow) → find_node rows p ≡ None → test (file_id n) ≡ true → list_all test (ids_of rows) ≡ true → list_all test (ids_of (put_node p n rows)) ≡ true
ids_put test p n [] none here all = both (test (file_id n)) true here refl
ids_put test p n (e ∷ es) none here all =
    let split = and_parts (test (file_id e.1)) (list_all test (ids_of es)) all in
    elim (path_cmp p e.0) as (λ r. path_cmp p e.0 ≡ r → list_all test (ids_of (by_order r ((p, n) ∷ e ∷ es) ((e.0, n) ∷ es) (e ∷ put_node p n es))) ≡ true) [
      | Less ↦ λ is. both (test (file_id n)) (list_all test (ids_of (e ∷ es))) here all
      | Equal ↦ λ is. absurd (no_tie p e es none is)
      | Greater ↦ λ is. both (test (file_id e.1)) (list_all test (ids_of (put_node p n es))) split.0 (ids_put test p n es (absent_behind p e es none) here split.1)
    ] refl

differ_put : (p : Path) (n : Node) (rows : List NodeRow) → find_node rows p ≡ None → list_all (differ (file_id n)) (ids_of rows) ≡ true → all_differ (ids_of rows) ≡ true → all_differ (ids_of (put_node p n rows)) ≡ true
differ_put p n [] none new apart = refl
differ_put p n (e ∷ es) none new apart =
    let split = and_parts (list_all (differ (file_id e.1)) (ids_of es)) (all_differ (ids_of es)) apart in
    let news = and_parts (differ (file_id n) (file_id e.1)) (list_all (differ (file_id n)) (ids_of es)) new in
    elim (path_cmp p e.0) as (λ r. path_cmp p e.0 ≡ r → all_differ (ids_of (by_order r ((p, n) ∷ e ∷ es) ((e.0, n) ∷ es) (e ∷ put_node p n es))) ≡ true) [
      | Less ↦ λ is. both (list_all (differ (file_id n)) (ids_of (e ∷ es))) (all_differ (ids_of (e ∷ es))) new apart
      | Equal ↦ λ is. absurd (no_tie p e es none is)
      | Greater ↦ λ is. both (list_all (differ (file_id e.1)) (ids_of (put_node p n es))) (all_differ (ids_of (put_node p n es)))
          (ids_put (differ (file_id e.1)) p n es (absent_behind p e es none) (turned (file_id e.1) (file_id n) ∙ news.0) split.0)
          (differ_put p n es (absent_behind p e es none) news.1 split.1)
    ] refl

-- ---- walks

-- what is found is found when a node comes in where none is
pub found_still : (p : Path) (n : Node) (rows : List NodeRow) (q : Path) (m : Node) → find_node rows p ≡ None → find_node rows q ≡ Some m → find_node (put_node p n rows) q ≡ Some m
found_still p n rows q m none is = find-put path_cmp names_cmp_total q p n rows ∙ by_tie (path_cmp q p) refl
  where
    both_ways : {o : Option Node} → o ≡ None → o ≡ Some m → ⊥
    both_ways a b = cc

    by_tie : (r : Ordering) → path_cmp q p ≡ r → cond (is_eq r) (Some n) (find_node rows q) ≡ Some m
    by_tie Less tie = is
    by_tie Equal tie = absurd (both_ways none (find_tied path_cmp names_cmp_total q p tie rows ∙ is))
    by_tie Greater tie = is

-- a walk over directories stays one
pub opens : (p : Path) (n : Node) (rows : List NodeRow) → find_node rows p ≡ None → (ps : List Path) → is_open (walk_along rows ps (Walk.Found Node.Directory)) ≡ true → is_open (walk_along (put_node p n rows) ps (Walk.Found Node.Directory)) ≡ true
opens p n rows none [] h = refl
opens p n rows none (q ∷ ps) h = by_found (opens p n rows none ps) (find_node rows q) refl h
  where
    by_found : (is_open (walk_along rows ps (Walk.Found Node.Directory)) ≡ true → is_open (walk_along (put_node p n rows) ps (Walk.Found Node.Directory)) ≡ true) → (o : Option Node) → find_node rows q ≡ o
        → is_open (walk_part o (walk_along rows ps (Walk.Found Node.Directory))) ≡ true → is_open (walk_part (find_node (put_node p n rows) q) (walk_along (put_node p n rows) ps (Walk.Found Node.Directory))) ≡ true
    by_found behind None is k = cc
    by_found behind (Some (Node.IsFile f)) is k = cc
    by_found behind (Some Node.Directory) is k = ap (λ o. is_open (walk_part o (walk_along (put_node p n rows) ps (Walk.Found Node.Directory)))) (found_still p n rows q Node.Directory none is) ∙ behind k

-- ---- the names

lower_next : (a b c : ℕ) → b ≤ c → nat_lt a b ≡ true → nat_lt a c ≡ true
lower_next a b c le h = grind (arith, le, h)

-- a node is plain below a greater next number
node_rises : (id next : ℕ) → id ≤ next → (n : Node) → is_plain_node id n ≡ true → is_plain_node next n ≡ true
node_rises id next le Node.Directory h = refl
node_rises id next le (Node.IsFile f) h =
    let ends = and_parts (is_file_id f.id && nat_lt f.id id && not (stored_is_yes f.stored)) (f.done || (f.len == 0 && is_no f.stored)) h in
    let stored = and_parts (is_file_id f.id && nat_lt f.id id) (not (stored_is_yes f.stored)) ends.0 in
    let number = and_parts (is_file_id f.id) (nat_lt f.id id) stored.0 in
    both (is_file_id f.id && nat_lt f.id next && not (stored_is_yes f.stored)) (f.done || (f.len == 0 && is_no f.stored))
    (both (is_file_id f.id && nat_lt f.id next) (not (stored_is_yes f.stored)) (both (is_file_id f.id) (nat_lt f.id next) number.0 (lower_next f.id id next le number.1)) stored.1)
    ends.1

-- next numbers rise
pub stays_risen : (N : Names) (id plan : ℕ) → IsPlain N → N.next_id ≤ id → is_next id ≡ true → is_next plan ≡ true → IsPlain (record N { next_id = id; next_plan = plan })
stays_risen N id plan plain le file_next plan_next = record {
  sorted = plain.sorted;
  root = plain.root;
  rows = all_weaken (is_plain_row N) (is_plain_row (record N { next_id = id; next_plan = plan })) weaker N.nodes plain.rows;
  ids = plain.ids;
  mounted = plain.mounted;
  planless = plain.planless;
  lockless = plain.lockless;
  unseen = plain.unseen;
  file_next = file_next;
  plan_next = plan_next;
}
  where
    weaker : (r : NodeRow) → is_plain_row N r ≡ true → is_plain_row (record N { next_id = id; next_plan = plan }) r ≡ true
    weaker r h =
        let tests = and_parts (nat_le (path_len r.0) 4096 && is_open (walk_above N.nodes r.0)) (is_plain_node N.next_id r.1) h in
        both (nat_le (path_len r.0) 4096 && is_open (walk_above N.nodes r.0)) (is_plain_node id r.1) tests.0 (node_rises N.next_id id le r.1 tests.1)

is_absent : (o : Option Node) → not (is_some o) ≡ true → o ≡ None
is_absent None h = refl
is_absent (Some n) h = cc

-- a node comes in
pub stays_with : (N : Names) (p : Path) (n : Node) → IsPlain N → has_place N p ≡ true → nat_le (path_len p) 4096 ≡ true → is_plain_node N.next_id n ≡ true → list_all (differ (file_id n)) (ids_of N.nodes) ≡ true → IsPlain (record N { nodes = put_node p n N.nodes })
stays_with N p n plain place short node new =
    let walks = and_parts (is_open (walk_above N.nodes p)) (not (has_node N p)) place in
    let none : find_node N.nodes p ≡ None = is_absent (find_node N.nodes p) walks.1 in
    let M : Names = record N { nodes = put_node p n N.nodes } in
    let open_still : (x : Path) → is_open (walk_above N.nodes x) ≡ true → is_open (walk_above M.nodes x) ≡ true = λ x. opens p n N.nodes none (parts x) in
    let weaker : (r : NodeRow) → is_plain_row N r ≡ true → is_plain_row M r ≡ true = λ r h.
    let tests = and_parts (nat_le (path_len r.0) 4096 && is_open (walk_above N.nodes r.0)) (is_plain_node N.next_id r.1) h in
    let way = and_parts (nat_le (path_len r.0) 4096) (is_open (walk_above N.nodes r.0)) tests.0 in
    both (nat_le (path_len r.0) 4096 && is_open (walk_above M.nodes r.0)) (is_plain_node N.next_id r.1) (both (nat_le (path_len r.0) 4096) (is_open (walk_above M.nodes r.0)) way.0 (open_still r.0 way.1)) tests.1 in
    let here : is_plain_row M (p, n) ≡ true =
    both (nat_le (path_len p) 4096 && is_open (walk_above M.nodes p)) (is_plain_node N.next_id n) (both (nat_le (path_len p) 4096) (is_open (walk_above M.nodes p)) short (open_still p walks.0)) node in
    record {
      sorted = is_true _ (is_sorted-put path_cmp names_cmp_total p n N.nodes (passed _ plain.sorted));
      root = found_still p n N.nodes [] Node.Directory none plain.root;
      rows = all_put (is_plain_row M) p n N.nodes none here (all_weaken (is_plain_row N) (is_plain_row M) weaker N.nodes plain.rows);
      ids = differ_put p n N.nodes none new plain.ids;
      mounted = plain.mounted;
      planless = plain.planless;
      lockless = plain.lockless;
      unseen = plain.unseen;
      file_next = plain.file_next;
      plan_next = plain.plan_next;
    }
