-- All rows have what is found, changed or put among them.
use Rattle.std.proofs.Common.{◌≡◌, Bool, true, false, cond, List, [], ◌∷◌, Option, Some, find, refl, ap, subst, unwrap_or}
use Rattle.std.specs.List.{All}
use Rattle.std.proofs.lemmas.List.Elements.{All-nil, All-cons, All-head, All-tail}
use Rattle.std.specs.FinMap.Entries.{by_order}
use Rattle.std.specs.Ordering.{is_eq}
use Rattle.std.specs.declared.cmp.Ordering.{Ordering}
use Rattle.std.specs.declared.cmp.Ordering.TheVariants.{Less, Equal, Greater}
use Rattle.fs_model.specs.declared.path.Path.{Path}
use Rattle.fs_model.specs.Words.{path_cmp}
use Rattle.fs_model.specs.State.{Node, NodeRow}
use Rattle.fs_model.specs.Lookups.{find_node}
use Rattle.fs_model.specs.Changes.{put_node}

module _ {X : Type 0} (P : X → Type 0) where
  -- what a search finds is one of all, and passes the test
  pub found_of_all : (p : X → Bool) (xs : List X) (x : X) → All P xs → find p xs ≡ Some x → P x × (p x ≡ true)
  found_of_all p [] x all found = absurd (cc)
  found_of_all p (y ∷ ys) x all found =
      elim (p y) as (λ b. p y ≡ b → cond b (Some y) (find p ys) ≡ Some x → P x × (p x ≡ true)) [
        | true ↦ λ is e. let same : y ≡ x = ap (λ o. unwrap_or o y) e in subst (λ z. P z × (p z ≡ true)) same (All-head P y ys all, is)
        | false ↦ λ is e. found_of_all p ys x (All-tail P y ys all) e
      ] refl found

module _ (P : NodeRow → Type 0) where
  put_row : (p q : Path) (n m : Node) (rest put_rest : List NodeRow) (o : Ordering) → P (p, n) → ((k : Node) → P (p, k) → P (q, k)) → P (q, m) → All P rest → All P put_rest
      → All P (by_order o ((p, n) ∷ (q, m) ∷ rest) ((q, n) ∷ rest) ((q, m) ∷ put_rest))
  put_row p q n m rest put_rest Less here any h k l = All-cons P (p, n) ((q, m) ∷ rest) here (All-cons P (q, m) rest h k)
  put_row p q n m rest put_rest Equal here any h k l = All-cons P (q, n) rest (any n here) k
  put_row p q n m rest put_rest Greater here any h k l = All-cons P (q, m) put_rest h l

  -- a row that has P, whatever its path, is put among rows that have it
  pub all_put : (p : Path) (n : Node) (rows : List NodeRow) → P (p, n) → ((q : Path) (k : Node) → P (p, k) → P (q, k)) → All P rows → All P (put_node p n rows)
  all_put p n [] here any all = All-cons P (p, n) [] here (All-nil P)
  all_put p n ((q, m) ∷ rows) here any all =
      let rest = All-tail P (q, m) rows all in
      put_row p q n m rows (put_node p n rows) (path_cmp p q) here (any q) (All-head P (q, m) rows all) rest (all_put p n rows here any rest)

  found_row : (q p : Path) (m n : Node) (rest : Option Node) (o : Ordering) → P (q, m) → ((a b : Path) (k : Node) → P (a, k) → P (b, k)) → (rest ≡ Some n → P (p, n)) → cond (is_eq o) (Some m) rest ≡ Some n → P (p, n)
  found_row q p m n rest o here any later found = elim (is_eq o) as (λ b. cond b (Some m) rest ≡ Some n → P (p, n)) [
    | true ↦ λ e. let same : m ≡ n = ap (λ x. unwrap_or x m) e in subst (λ k. P (p, k)) same (any q p m here)
    | false ↦ later
  ] found

  -- a node that is found has what all rows have, whatever their paths
  pub node_of_all : (p : Path) (n : Node) (rows : List NodeRow) → ((a b : Path) (k : Node) → P (a, k) → P (b, k)) → All P rows → find_node rows p ≡ Some n → P (p, n)
  node_of_all p n [] any all found = absurd (cc)
  node_of_all p n ((q, m) ∷ rows) any all found = found_row q p m n (find_node rows p) (path_cmp p q) (All-head P (q, m) rows all) any (node_of_all p n rows any (All-tail P (q, m) rows all)) found
