-- The rows of workers after one of them has changed.
use Rattle.std.proofs.Common.{◌≡◌, ℕ, pred, ◌<◌, Bool, false, ◌&&◌, List, [], length, map, get_or, nat_lt, Option, Some, None, option_map, unwrap_or, inl, inr, refl, sym, ap, ◌∙◌, subst}
use Rattle.std.specs.Prelude.{IsSomeAnd, slice_get}
use Rattle.std.proofs.lemmas.Bool.{cases_eq}
use Rattle.std.proofs.lemmas.List.{get_or-set_same, get_or-set_other, length-set, length-map, set-get_or, ext_get_or}
use Rattle.std.proofs.lemmas.Option.{unwrap_or-slice_get, slice_get-map, slice_get_within}
use Rattle.fs_model.specs.declared.setup.Setup.{Setup}
use Rattle.fs_model.specs.Words.{update_at}
use Rattle.fs_model.specs.State.{State, Worker}
use Rattle.fs_model.specs.Lookups.{is_running, no_worker, worker}
use Rattle.fs_model.specs.Updates.{change_worker}
use Rattle.cluster_core.specs.declared.node.Node.{Node}
use Rattle.cluster_core.specs.Nodes.{node_row, registration_of}
use Rattle.cluster_core.specs.Tiers.{ChangesAt}
use Rattle.cluster_core.specs.Stands.{WorkersStand, SetupFits, sizes_of}

-- what is there before and after
pub both_there : {X : Type 0} {G : X → X → Type 0} (x y : Option X) → IsSomeAnd x (λ s. IsSomeAnd y (λ u. G s u)) → (s : X) × (u : X) × (x ≡ Some s) × (y ≡ Some u) × G s u
both_there None y g = absurd g
both_there (Some s) None g = absurd g
both_there (Some s) (Some u) g = (s, u, refl, refl, g)

module _ {X Y : Type 0} (g : X → Y) (d : Y) where
  -- g of an element
  pub g_at : (xs : List X) (j : ℕ) → get_or (map g xs) j d ≡ unwrap_or (option_map g (slice_get xs j)) d
  g_at xs j = sym (unwrap_or-slice_get (map g xs) j d) ∙ ap (λ o. unwrap_or o d) (slice_get-map g xs j)

  -- where one element changes, g of it does
  pub maps_change : (f : Y → Y) (old new : List X) (i : ℕ) → ChangesAt old new i (λ x y. g y ≡ f (g x)) → map g new ≡ update_at i d f (map g old)
  maps_change f old new i change =
      let found = both_there (slice_get old i) (slice_get new i) change.at in
      let x = found.0 in
      let y = found.1 in
      let was : get_or (map g old) i d ≡ g x = g_at old i ∙ ap (λ o. unwrap_or (option_map g o) d) found.2 in
      let is : get_or (map g new) i d ≡ g y = g_at new i ∙ ap (λ o. unwrap_or (option_map g o) d) found.3 in
      let within : i < length (map g old) = subst (λ n. i < n) (sym (length-map old g)) (slice_get_within old i x found.2) in
      ext_get_or d (map g new) (update_at i d f (map g old)) (length-map new g ∙ change.same_length ∙ sym (length-map old g) ∙ sym (length-set (map g old) i (f (get_or (map g old) i d)))) (λ j few. elim (cases_eq j i) [
        | inl here ↦ ap (λ k. get_or (map g new) k d) here ∙ is ∙ found.4 ∙ ap f (sym was) ∙ sym (get_or-set_same (map g old) i (f (get_or (map g old) i d)) d within) ∙ ap (λ k. get_or (update_at i d f (map g old)) k d) (sym here)
        | inr differs ↦ g_at new j ∙ ap (λ o. unwrap_or (option_map g o) d) (change.others j differs) ∙ sym (g_at old j) ∙ sym (get_or-set_other (map g old) i j (f (get_or (map g old) i d)) d differs)
      ])

  -- where g of it stays, g of all does
  pub maps_stay : (old new : List X) (i : ℕ) → ChangesAt old new i (λ x y. g y ≡ g x) → map g new ≡ map g old
  maps_stay old new i change = maps_change (λ y. y) old new i change ∙ set-get_or (map g old) i d

-- a weaker change
pub changes_by : {X : Type 0} {G Q : X → X → Type 0} (old new : List X) (i : ℕ) → ChangesAt old new i G → ((s u : X) → G s u → Q s u) → ChangesAt old new i Q
changes_by {X} {G} {Q} old new i change weaker = record {
  same_length = change.same_length;
  at = by_cases (slice_get old i) (slice_get new i) change.at;
  others = change.others;
}
  where
    by_cases : (x y : Option X) → IsSomeAnd x (λ s. IsSomeAnd y (λ u. G s u)) → IsSomeAnd x (λ s. IsSomeAnd y (λ u. Q s u))
    by_cases None y h = absurd h
    by_cases (Some s) None h = absurd h
    by_cases (Some s) (Some u) h = weaker s u h

-- a change that follows from what was there
pub changes_there : {X : Type 0} {G Q : X → X → Type 0} (old new : List X) (i : ℕ) → ChangesAt old new i G → ((s u : X) → slice_get old i ≡ Some s → G s u → Q s u) → ChangesAt old new i Q
changes_there {X} {G} {Q} old new i change gives = record {
  same_length = change.same_length;
  at = by_cases (slice_get old i) (slice_get new i) refl change.at;
  others = change.others;
}
  where
    by_cases : (x y : Option X) → slice_get old i ≡ x → IsSomeAnd x (λ s. IsSomeAnd y (λ u. G s u)) → IsSomeAnd x (λ s. IsSomeAnd y (λ u. Q s u))
    by_cases None y was h = absurd h
    by_cases (Some s) None was h = absurd h
    by_cases (Some s) (Some u) was h = gives s u was h

-- a change of one element, by what it was and is
pub changes_exactly : {X : Type 0} {G : X → X → Type 0} (old new : List X) (i : ℕ) → ChangesAt old new i G → (a b : X) → slice_get old i ≡ Some a → slice_get new i ≡ Some b → ChangesAt old new i (λ s u. (s ≡ a) × (u ≡ b))
changes_exactly {X} {G} old new i change a b was is = record {
  same_length = change.same_length;
  at = subst (λ x. IsSomeAnd x (λ s. IsSomeAnd (slice_get new i) (λ u. (s ≡ a) × (u ≡ b)))) (sym was) (subst (λ y. IsSomeAnd y (λ u. (a ≡ a) × (u ≡ b))) (sym is) (refl, refl));
  others = change.others;
}

-- tiers of the same bytes
pub setup_at : {S : Type 0} {U : Setup} {bs area : ℕ} (old new : List (Node S)) (i : ℕ) → ChangesAt old new i (λ n m. m.book.sizes ≡ n.book.sizes) → SetupFits U bs area old → SetupFits U bs area new
setup_at old new i change s = record { block = s.block; area = s.area; tiers = s.tiers ∙ sym (maps_stay sizes_of [] old new i change) }

module _ {S : Type 0} where
  -- a worker's row changes so, and it runs as it did, with tiers of the same bytes
  pub record RowChanges (f : Worker → Worker) (n m : Node S) : Type 0 where
    pub row : node_row m ≡ f (node_row n)
    pub running : m.running ≡ n.running
    pub sizes : m.book.sizes ≡ n.book.sizes

  -- the worker's row in the state
  worker_at : (A : State) (nodes : List (Node S)) (w : ℕ) → A.workers ≡ map node_row nodes → worker A w ≡ get_or (map node_row nodes) (pred w) no_worker
  worker_at A nodes w rows = ap (λ ws. get_or ws (pred w) no_worker) rows

  module _ (f : Worker → Worker) (old new : List (Node S)) (w : ℕ) (change : ChangesAt old new (pred w) (RowChanges f)) where
    registered_as : (s u : Node S) → RowChanges f s u → registration_of u ≡ registration_of s
    registered_as s u c = ap (λ b. record { known = b; awaited = false; silence = 0 }) c.running

    -- whether a worker runs
    runs : List (Node S) → ℕ → Bool
    runs nodes v = (get_or (map node_row nodes) (pred v) no_worker).running

    same_runs : (v : ℕ) → (get_or (map node_row new) (pred v) no_worker).running ≡ (get_or (map node_row old) (pred v) no_worker).running
    same_runs v =
        let one = maps_stay (λ (n : Node S). n.running) false old new (pred w) (changes_by old new (pred w) change (λ s u c. c.running)) in
        run_at new ∙ ap (λ (bs : List Bool). get_or bs (pred v) false) one ∙ sym (run_at old)
      where
        by_option : (x : Option (Node S)) → (unwrap_or (option_map node_row x) no_worker).running ≡ unwrap_or (option_map (λ (n : Node S). n.running) x) false
        by_option None = refl
        by_option (Some n) = refl

        run_at : (nodes : List (Node S)) → (get_or (map node_row nodes) (pred v) no_worker).running ≡ get_or (map (λ (n : Node S). n.running) nodes) (pred v) false
        run_at nodes = ap (λ (k : Worker). k.running) (g_at node_row no_worker nodes (pred v)) ∙ by_option (slice_get nodes (pred v)) ∙ sym (g_at (λ (n : Node S). n.running) false nodes (pred v))

    -- the workers stand for the state with that worker's row changed
    pub workers_change : (A : State) → WorkersStand old A → WorkersStand new (change_worker w f A)
    workers_change A s =
        let rows : (change_worker w f A).workers ≡ map node_row new = ap (λ ws. update_at (pred w) no_worker f ws) s.rows ∙ sym (maps_change node_row no_worker f old new (pred w) (changes_by old new (pred w) change (λ a b c. c.row))) in
        record {
          rows = rows;
          registrations = s.registrations ∙ sym (maps_stay registration_of (record { known = false; awaited = false; silence = 0 }) old new (pred w) (changes_by old new (pred w) change registered_as));
          first = λ v runs. s.first v (same v rows ∙ runs);
          one = λ some. sym (same 1 rows) ∙ s.one (subst (λ n. 0 < n) (length-set A.workers (pred w) (f (get_or A.workers (pred w) no_worker))) some);
        }
      where
        -- each worker runs as it did
        same : (v : ℕ) → (change_worker w f A).workers ≡ map node_row new → is_running A v ≡ is_running (change_worker w f A) v
        same v rows = ap (λ b. nat_lt 0 v && b) (ap (λ (k : Worker). k.running) (worker_at A old v s.rows) ∙ sym (same_runs v) ∙ sym (ap (λ (k : Worker). k.running) (worker_at (change_worker w f A) new v rows)))

    pub setup_stays : {U : Setup} {bs area : ℕ} → SetupFits U bs area old → SetupFits U bs area new
    setup_stays s = record { block = s.block; area = s.area; tiers = s.tiers ∙ sym (maps_stay sizes_of [] old new (pred w) (changes_by old new (pred w) change (λ a b c. c.sizes))) }
